-- The names so far with those of the parts that are left are all.
use Rattle.std.proofs.Common.{◌≡◌, ◌++◌, drop, map}
use Rattle.ev_check.specs.Declarations.{name_of}
use Rattle.ev_events.proofs.sheets.names_of.Given as goal

abbrev pub invariant-loop-part : goal.invariant-loop-part
invariant-loop-part l =
    map (λ n. n.now) l.names.items ++ map name_of (drop l.part-index l.parts)
    ≡ map name_of l.parts
