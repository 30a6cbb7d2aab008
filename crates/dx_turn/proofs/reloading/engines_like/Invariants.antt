use Rattle.std.proofs.Common.{◌≡◌, take}
use Rattle.dx_turn.specs.Reloading.{fresh_rates}
use Rattle.dx_turn.proofs.reloading.engines_like.Given as goal

abbrev pub invariant-loop-spec : goal.invariant-loop-spec
invariant-loop-spec l = l.engines.items ≡ fresh_rates (take l.spec-index l.specs)
