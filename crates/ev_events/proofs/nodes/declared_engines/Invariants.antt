-- What was taken so far and what is left are all.
use Rattle.std.proofs.Common.{◌≡◌, ◌++◌, drop, map}
use Rattle.ev_events.specs.Nodes.{spec_engine}
use Rattle.ev_events.proofs.nodes.declared_engines.Given as goal

abbrev pub invariant-loop-spec : goal.invariant-loop-spec
invariant-loop-spec l = map (λ d. d.now) l.found.items
    ++ map spec_engine (drop l.spec-index l.specs) ≡ map spec_engine l.specs
