-- The columns so far with those of the parts that are left are all.
use Rattle.std.proofs.Common.{◌≡◌, drop, fold}
use Rattle.ev_events.specs.Names.{iterator_of}
use Rattle.ev_events.specs.Slots.{with_column_if, columns_of}
use Rattle.ev_events.proofs.slots.columns_of.Given as goal

abbrev pub invariant-parts : goal.invariant-parts
invariant-parts l =
    fold (λ cs p. with_column_if l.names l.parts cs (iterator_of p)) l.columns.items
    (drop l.part-index l.parts)
    ≡ columns_of l.names l.parts
