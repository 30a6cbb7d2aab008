use Rattle.std.proofs.Common.{◌≡◌, map, take}
use Rattle.ev_tree.specs.Rule.{place_of, view_statement}
use Rattle.ev_tree.proofs.copies.copy_statements.Given as goal

abbrev pub invariant-loop-statement : goal.invariant-loop-statement
invariant-loop-statement l =
    (map view_statement l.copies.items ≡ map view_statement (take l.statement-index l.statements))
    × (map place_of l.copies.items ≡ map place_of (take l.statement-index l.statements))
