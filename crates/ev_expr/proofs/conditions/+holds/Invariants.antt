use Rattle.std.proofs.Common.{◌≡◌, true, false, take, map}
use Rattle.ev_tree.specs.Condition.{conditions, view_cond}
use Rattle.ev_expr.specs.Conditions.{any_holds, all_hold}
use Rattle.ev_expr.specs.Operands.{setting_of}
use Rattle.ev_expr.proofs.conditions.+holds.Given as goal

-- none of the conditions so far holds
abbrev pub invariant-any_holds-loop-cond : goal.invariant-any_holds-loop-cond
invariant-any_holds-loop-cond l =
    any_holds (setting_of l.env) (conditions (map view_cond (take l.cond-index l.conds))) ≡ false

-- each of the conditions so far holds
abbrev pub invariant-all_hold-loop-cond : goal.invariant-all_hold-loop-cond
invariant-all_hold-loop-cond l =
    all_hold (setting_of l.env) (conditions (map view_cond (take l.cond-index l.conds))) ≡ true
