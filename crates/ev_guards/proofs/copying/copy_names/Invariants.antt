use Rattle.std.proofs.Common.{◌≡◌, take}
use Rattle.ev_guards.proofs.copying.copy_names.Given as goal

abbrev pub invariant-loop-bound : goal.invariant-loop-bound
invariant-loop-bound l = l.copies.items ≡ take l.bound-index l.names
