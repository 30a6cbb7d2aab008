use Rattle.std.proofs.Common.{take}
use Rattle.dx_live.specs.Region.{IsLocalRow}
use Rattle.dx_live.proofs.region.local_row.Given as goal

abbrev pub invariant-loop-member : goal.invariant-loop-member
invariant-loop-member l = IsLocalRow l.nodes (take l.member-index l.members) l.row.items
