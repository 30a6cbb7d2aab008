-- A cut leaves fronts of the images from before it.
use Rattle.fm_journal.proofs.Started.{cut_leaves}
use Rattle.fm_journal.proofs.start.empty.Goals as goal

pub returns-in_err-cut-clause-any_moment : goal.returns-in_err-cut-clause-any_moment
returns-in_err-cut-clause-any_moment g c =
    cut_leaves g.D.Disk g.met.D.Disk.only_now c.args.disk.now c.cut.new.self c.cut.ensures.crash
    c.cut.ensures.time
