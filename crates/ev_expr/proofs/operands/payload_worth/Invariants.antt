use Rattle.std.proofs.Common.{◌≡◌, find, bytes_eq, length}
use Rattle.ev_expr.proofs.operands.payload_worth.Given as goal

-- the first entry of the name among those that are left is the first of all
abbrev pub invariant-pairs : goal.invariant-pairs
invariant-pairs l =
    find (λ b. bytes_eq b.name l.name) l.rest ≡ find (λ b. bytes_eq b.name l.name) l.props

abbrev pub decreases-pairs : goal.decreases-pairs
decreases-pairs l = length l.rest
