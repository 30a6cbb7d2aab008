-- The engines so far, and those of the rest, are all; the rest can be kept.
use Rattle.std.proofs.Common.{◌≡◌, ◌++◌, drop, true}
use Rattle.std.specs.List.{list_all}
use Rattle.ev_graph.specs.Lawful.{has_engine_limits}
use Rattle.dx_state.specs.LawfulState.{are_engines}
use Rattle.dx_restore.specs.Parts.{engines_with}
use Rattle.dx_restore.proofs.engines.restore_engines.Given as goal

abbrev pub invariant-loop-spec : goal.invariant-loop-spec
invariant-loop-spec l =
    (l.engines.items ++ engines_with (drop l.spec-index l.specs) l.rest
    ≡ engines_with l.specs l.kept)
    × ((are_engines l.time (drop l.spec-index l.specs) l.rest ≡ true)
    × (list_all has_engine_limits (drop l.spec-index l.specs) ≡ true))
