use Rattle.std.proofs.Common.{◌<◌, take}
use Rattle.std.specs.Prelude.{All}
use Rattle.test_core.proofs.trials.are_below.Given as goal

abbrev pub invariant-records : goal.invariant-records
invariant-records l = All (λ r. r.number < l.number) (take l.spoken-index l.records)
