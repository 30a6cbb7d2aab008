use Rattle.std.proofs.Common.{take}
use Rattle.std.specs.List.{list_any}
use Rattle.indexmap.specs.IndexSet.{contains_text}
use Rattle.ev_words.specs.Iterators.{Adds, goes_down}
use Rattle.ev_words.proofs.iterators.add_downs.Given as goal

abbrev pub invariant-loop-part : goal.invariant-loop-part
invariant-loop-part l =
    Adds (contains_text l.initial.names) (contains_text l.names)
    (λ v. list_any (goes_down v) (take l.part-index l.parts))
