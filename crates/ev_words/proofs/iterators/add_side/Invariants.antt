use Rattle.std.proofs.Common.{take}
use Rattle.std.specs.List.{list_any}
use Rattle.indexmap.specs.IndexSet.{contains_text}
use Rattle.ev_words.specs.Iterators.{Adds, is_down}
use Rattle.ev_words.proofs.iterators.add_side.Given as goal

abbrev pub invariant-loop-pattern : goal.invariant-loop-pattern
invariant-loop-pattern l =
    Adds (contains_text l.initial.names) (contains_text l.names)
    (λ v. list_any (is_down v) (take l.pattern-index l.side))
