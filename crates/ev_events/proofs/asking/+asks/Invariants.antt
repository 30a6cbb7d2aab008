-- None of the conditions so far asks the payload.
use Rattle.std.proofs.Common.{◌≡◌, false, take, map}
use Rattle.std.specs.List.{list_any}
use Rattle.ev_tree.specs.Condition.{conditions, view_cond}
use Rattle.ev_words.specs.Operands.{operands_in}
use Rattle.ev_words.specs.Words.{is_payload}
use Rattle.ev_events.proofs.asking.+asks.Given as goal

abbrev pub invariant-any_asks-loop-cond : goal.invariant-any_asks-loop-cond
invariant-any_asks-loop-cond l =
    list_any is_payload (operands_in (conditions (map view_cond (take l.cond-index l.conds))))
    ≡ false
