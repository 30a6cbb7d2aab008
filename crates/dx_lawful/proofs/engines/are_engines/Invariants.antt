-- Whether all can be kept is whether the rest can.
use Rattle.std.proofs.Common.{◌≡◌, drop}
use Rattle.dx_state.specs.LawfulState.{are_engines}
use Rattle.dx_lawful.proofs.engines.are_engines.Given as goal

abbrev pub invariant-loop-spec : goal.invariant-loop-spec
invariant-loop-spec l =
    are_engines l.time (drop l.spec-index l.specs) l.rest ≡ are_engines l.time l.specs l.kept
