-- The making of the journal leaves no store, and the append none or the configuration.
use Rattle.std.proofs.Common.{Ok, Err, subst, sym}
use Rattle.fm_outer.specs.Moments.{LeavesOnly}
use Rattle.fm_journal.proofs.Started.{create_leaves}
use Rattle.fm_init.specs.Making.{IsNoneOrConf}
use Rattle.fm_init.proofs.Stores.{written_leaves, stopped_leaves}
use Rattle.fm_init.proofs.making.put_conf.Goals as goal

pub returns-in-Ok-clause-any_moment : goal.returns-in-Ok-clause-any_moment
returns-in-Ok-clause-any_moment g c = λ bytes told.
    written_leaves g.D.Disk c.args.disk c.in-Ok.journal.disk c.put_first.result.0 c.args.frame.now
    c.requires.none
    (create_leaves g.D.Disk c.args.disk (Ok c.in-Ok.journal) c.in-Ok.ensures.two_phases)
    (c.put_first.ensures.any_moment (c.in-Ok.ensures.list bytes told))

pub returns-in-Err-clause-any_moment : goal.returns-in-Err-clause-any_moment
returns-in-Err-clause-any_moment g c = λ bytes told.
    subst (λ disk. LeavesOnly g.D.Disk c.args.disk disk (IsNoneOrConf c.args.frame.now))
    (sym c.into_disk.ensures)
    (stopped_leaves g.D.Disk c.args.disk c.in-Err.refused.disk c.args.frame.now c.requires.none
    (create_leaves g.D.Disk c.args.disk (Err c.in-Err.refused) c.in-Err.ensures.two_phases))
