use Rattle.std.proofs.Common.{◌≡◌, ◌+◌, ◌≤◌, ◌^◌, drop}
use Rattle.fm_core.specs.Counts.{total_of}
use Rattle.fm_core.proofs.saving.total.Given as goal

abbrev pub invariant-loop-x : goal.invariant-loop-x
invariant-loop-x l = (l.total + total_of (drop l.x-index l.counts) ≡ total_of l.counts)
    × (l.total ≤ 2 ^ 46)
