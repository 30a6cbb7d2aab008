use Rattle.std.proofs.Common.{◌≡◌, ◌++◌, map, take}
use Rattle.ev_tree.specs.Condition.{conditions, view_cond}
use Rattle.ev_words.specs.Operands.{operands_in}
use Rattle.ev_words.proofs.operands.+gather.Given as goal

abbrev pub invariant-gather_each-loop-cond : goal.invariant-gather_each-loop-cond
invariant-gather_each-loop-cond l =
    l.found.items ≡ l.initial.found.items
    ++ operands_in (conditions (map view_cond (take l.cond-index l.conds)))
