-- The pairs so far are in order, so the whole ascends where the rest does.
use Rattle.std.proofs.Common.{◌≡◌, ◌-◌, drop}
use Rattle.fm_entry.specs.Words.{links_ascend}
use Rattle.dx_kept.proofs.reading.links_ascend.Given as goal

abbrev pub invariant-loop-at : goal.invariant-loop-at
invariant-loop-at l = links_ascend l.links ≡ links_ascend (drop (l.at - 1) l.links)
