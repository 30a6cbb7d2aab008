use Rattle.std.proofs.Common.{◌≡◌, take, false}
use Rattle.std.specs.List.{list_any}
use Rattle.indexmap.specs.IndexSet.{contains_text}
use Rattle.ev_words.specs.Iterators.{is_mixed}
use Rattle.ev_words.proofs.iterators.any_mixed.Given as goal

abbrev pub invariant-loop-part : goal.invariant-loop-part
invariant-loop-part l =
    list_any (is_mixed (contains_text l.down)) (take l.part-index l.parts) ≡ false
