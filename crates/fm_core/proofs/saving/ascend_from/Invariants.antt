use Rattle.std.proofs.Common.{◌≡◌, drop}
use Rattle.fm_core.specs.Counts.{is_past}
use Rattle.fm_core.proofs.saving.ascend_from.Given as goal

abbrev pub invariant-loop-x : goal.invariant-loop-x
invariant-loop-x l = is_past l.last (drop l.x-index l.counts) ≡ is_past l.initial.last l.counts
