-- While the slot is cleared the kept one is in force, and then it or the new one is.
use Rattle.std.proofs.lemmas.Result.{on_ok_weaker}
use Rattle.fm_slots.proofs.Forces.{later_beside}
use Rattle.fm_slots.proofs.Filled.{clear_either, replace_leaves, cleared_leaves, replaced_leaves}
use Rattle.fm_slots.proofs.filling.replace.Goals as goal

pub returns-in_err-clear-clause-leaves : goal.returns-in_err-clear-clause-leaves
returns-in_err-clear-clause-leaves g c =
    cleared_leaves g.D.Disk g.met.D.Disk.seen_is_image c.args.disk.now c.clear.new.disk
    c.args.frame.now c.clear.ensures.any_moment

pub returns-clause-leaves : goal.returns-clause-leaves
returns-clause-leaves g c =
    replaced_leaves g.D.Disk g.met.D.Disk.seen_is_image c.args.disk.now c.clear.new.disk
    c.fill.new.disk c.args.frame.now c.clear.ensures.any_moment c.fill.ensures.any_moment

pub returns-in_err-clear-clause-any_moment : goal.returns-in_err-clear-clause-any_moment
returns-in_err-clear-clause-any_moment g c = λ kept second found may.
    clear_either g.D.Disk g.met.D.Disk.seen_is_image c.args.disk.now kept second found
    c.args.frame.now may c.clear.new.disk c.clear.ensures.any_moment

pub returns-clause-any_moment : goal.returns-clause-any_moment
returns-clause-any_moment g c = λ kept second found may.
    replace_leaves g.D.Disk g.met.D.Disk.seen_is_image c.args.disk.now kept second found
    c.args.frame.now may c.clear.new.disk c.fill.new.disk c.clear.ensures.any_moment
    c.fill.ensures.any_moment

pub returns-clause-done : goal.returns-clause-done
returns-clause-done g c =
    on_ok_weaker c.fill.result
    (λ there kept second found may image now.
    later_beside second kept image found c.args.frame.now may.keeps may.later (there image now))
    c.fill.ensures.open
