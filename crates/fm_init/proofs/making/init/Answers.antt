-- The store is made in order: a look, the four others, the configuration.
use Rattle.std.proofs.Common.{ℕ, List, subst, sym}
use Rattle.fm_journal.specs.Crash.{IsEmptyOrNone}
use Rattle.fm_init.proofs.Stores.{others_stop, finish_does}
use Rattle.fm_init.proofs.making.init.Goals as goal

pub finish-requires-clause-none : goal.finish-requires-clause-none
finish-requires-clause-none g c =
    subst (λ disk. (image : List ℕ) → g.D.Disk.images disk image → IsEmptyOrNone image)
    (sym c.in-Ok-make_others.ensures.conf_same) c.in_ok-disks.ensures.none

pub returns-in-Ok-make_others-clause-does : goal.returns-in-Ok-make_others-clause-does
returns-in-Ok-make_others-clause-does g c =
    finish_does g.D.Disk g.met.D.Disk.only_now c.args.disks c.in_ok-disks.disks
    c.in-Ok-make_others.disks _ c.args.conf.now c.finish.result c.in_ok-disks.ensures.only
    c.in_ok-disks.ensures.none c.in_ok-disks.ensures.none_told c.in_ok-disks.ensures.kept
    c.in-Ok.ensures.ok c.in-Ok-make_others.ensures.conf_same
    c.in-Ok-make_others.ensures.second_same c.in-Ok-make_others.ensures.ready c.finish.ensures.made
    c.finish.ensures.any_moment c.finish.ensures.others c.finish.ensures.rose

pub returns-clause-does : goal.returns-clause-does
returns-clause-does g c =
    others_stop g.D.Disk g.met.D.Disk.only_now c.args.disks c.in_ok-disks.disks
    c.in-Err-make_others.refused.disks c.args.conf.now c.in-Err-make_others.refused.fault
    c.in_ok-disks.ensures.only c.in_ok-disks.ensures.none c.in_ok-disks.ensures.kept
    c.in-Err-make_others.ensures.conf_same c.in-Err-make_others.ensures.second_same
    c.in-Err-make_others.ensures.rose
