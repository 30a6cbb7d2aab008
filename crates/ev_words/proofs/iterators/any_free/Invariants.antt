use Rattle.std.proofs.Common.{◌≡◌, take, false}
use Rattle.std.specs.List.{list_any}
use Rattle.indexmap.specs.IndexSet.{contains_text}
use Rattle.ev_words.specs.Iterators.{is_free}
use Rattle.ev_words.proofs.iterators.any_free.Given as goal

abbrev pub invariant-loop-operand : goal.invariant-loop-operand
invariant-loop-operand l =
    list_any (is_free (contains_text l.down) (contains_text l.across))
    (take l.operand-index l.operands) ≡ false
