use Rattle.std.proofs.Common.{take}
use Rattle.ev_incidence.specs.Table.{AreNoted}
use Rattle.ev_incidence.proofs.incidence.note.Given as goal

abbrev pub invariant-loop-member : goal.invariant-loop-member
invariant-loop-member l = AreNoted (take l.member-index l.members) l.place l.initial.lists l.lists
