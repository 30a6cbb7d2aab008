use Rattle.std.proofs.Common.{◌≡◌, find, bytes_eq, length}
use Rattle.ev_expr.proofs.operands.bound_worth.Given as goal

-- the first entry of the name among those that are left is the first of all
abbrev pub invariant-names : goal.invariant-names
invariant-names l =
    find (λ b. bytes_eq b.name l.name) l.rest ≡ find (λ b. bytes_eq b.name l.name) l.names

abbrev pub decreases-names : goal.decreases-names
decreases-names l = length l.rest
