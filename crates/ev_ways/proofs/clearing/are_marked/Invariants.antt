use Rattle.std.proofs.Common.{◌<◌, ℕ, slice_index}
use Rattle.ev_ways.specs.Lists.{marked}
use Rattle.ev_ways.proofs.clearing.are_marked.Given as goal

abbrev pub invariant-loop-member : goal.invariant-loop-member
invariant-loop-member l = (k : ℕ) → k < l.member-index → marked l.marks (slice_index l.members k)
