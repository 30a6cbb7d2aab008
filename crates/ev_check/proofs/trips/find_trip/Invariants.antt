use Rattle.std.proofs.Common.{◌≡◌, ◌<◌, ℕ, Some, slice_get}
use Rattle.ev_tree.specs.declared.tree.Statement.{Statement}
use Rattle.ev_check.specs.Faults.{IsTripped}
use Rattle.ev_check.proofs.trips.find_trip.Given as goal

abbrev pub invariant-loop-statement : goal.invariant-loop-statement
invariant-loop-statement l = (j : ℕ) → j < l.statement-index → (s : Statement)
    → slice_get l.statements j ≡ Some s → IsTripped l.statements s → ⊥
