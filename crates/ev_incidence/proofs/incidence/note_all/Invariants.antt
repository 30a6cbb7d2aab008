use Rattle.std.proofs.Common.{◌≡◌, length}
use Rattle.ev_incidence.specs.Table.{IsTransposeOf}
use Rattle.ev_incidence.proofs.incidence.note_all.Given as goal

abbrev pub invariant-loop-place : goal.invariant-loop-place
invariant-loop-place l = record {
  same_length : length l.lists ≡ length l.initial.lists;
  transpose : IsTransposeOf l.place l.rows l.lists;
}
