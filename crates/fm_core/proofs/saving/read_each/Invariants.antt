use Rattle.std.proofs.Common.{◌≡◌, ◌++◌, length}
use Rattle.std.specs.Prelude.{flat_map}
use Rattle.std.specs.List.{AllByRecursion}
use Rattle.fm_bytes.specs.Numbers.{AllBytes}
use Rattle.fm_core.specs.Counts.{count_bytes}
use Rattle.fm_core.specs.Loading.{IsKept}
use Rattle.fm_core.proofs.saving.read_each.Given as goal

abbrev pub invariant-loop-i : goal.invariant-loop-i
invariant-loop-i l =
    (length l.counts.items ≡ l._i)
    × (l.initial.input ≡ flat_map count_bytes l.counts.items ++ l.input)
    × AllByRecursion IsKept l.counts.items × AllBytes l.input
