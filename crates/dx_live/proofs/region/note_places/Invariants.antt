use Rattle.std.proofs.Common.{◌≡◌, length}
use Rattle.dx_live.proofs.region.note_places.Given as goal

abbrev pub invariant-loop-place : goal.invariant-loop-place
invariant-loop-place l = length l.noted ≡ length l.initial.noted
