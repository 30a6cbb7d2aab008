use Rattle.std.proofs.Common.{◌≡◌, map, take}
use Rattle.ev_tree.specs.Condition.{view_cond}
use Rattle.ev_tree.proofs.copies.+copy.Given as goal

abbrev pub invariant-copy_conds-loop-cond : goal.invariant-copy_conds-loop-cond
invariant-copy_conds-loop-cond l =
    map view_cond l.copies.items ≡ map view_cond (take l.cond-index l.conds)
