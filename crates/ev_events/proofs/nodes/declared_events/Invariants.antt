-- What was taken so far and what is left are all.
use Rattle.std.proofs.Common.{◌≡◌, ◌++◌, drop, map}
use Rattle.ev_check.specs.Lawful.{spec_event}
use Rattle.ev_events.proofs.nodes.declared_events.Given as goal

abbrev pub invariant-loop-spec : goal.invariant-loop-spec
invariant-loop-spec l = map (λ d. d.now) l.found.items
    ++ map spec_event (drop l.spec-index l.specs) ≡ map spec_event l.specs
