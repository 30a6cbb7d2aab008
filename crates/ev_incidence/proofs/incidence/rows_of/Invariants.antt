use Rattle.std.proofs.Common.{◌≡◌, take}
use Rattle.ev_incidence.proofs.incidence.rows_of.Given as goal

abbrev pub invariant-loop-list : goal.invariant-loop-list
invariant-loop-list l = l.rows ≡ take l.list-index l.lists
