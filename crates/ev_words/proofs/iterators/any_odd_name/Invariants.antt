use Rattle.std.proofs.Common.{◌≡◌, take, false}
use Rattle.std.specs.List.{list_any}
use Rattle.indexmap.specs.IndexSet.{contains_text}
use Rattle.ev_words.specs.Iterators.{has_odd_name}
use Rattle.ev_words.proofs.iterators.any_odd_name.Given as goal

abbrev pub invariant-loop-pattern : goal.invariant-loop-pattern
invariant-loop-pattern l =
    list_any (has_odd_name (contains_text l.down)) (take l.pattern-index l.side) ≡ false
