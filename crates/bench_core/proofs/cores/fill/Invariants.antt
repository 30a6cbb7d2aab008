use Rattle.std.proofs.Common.{◌≤◌, length}
use Rattle.bench_core.specs.Cores.{HasCounters}
use Rattle.bench_core.proofs.cores.fill.Given as goal

abbrev pub invariant-loop-number : goal.invariant-loop-number
invariant-loop-number l =
    record { filled : HasCounters l.core; few : length l.core.entries ≤ l.number }
