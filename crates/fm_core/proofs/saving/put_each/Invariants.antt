use Rattle.std.proofs.Common.{◌≡◌, ◌++◌, drop}
use Rattle.std.specs.Prelude.{flat_map}
use Rattle.fm_core.specs.Counts.{count_bytes}
use Rattle.fm_core.proofs.saving.put_each.Given as goal

abbrev pub invariant-loop-x : goal.invariant-loop-x
invariant-loop-x l = l.out.items ++ flat_map count_bytes (drop l.x-index l.counts)
    ≡ l.initial.out.items ++ flat_map count_bytes l.counts
