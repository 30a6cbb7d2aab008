-- What is written, and the spelling of what is left, is the whole.
use Rattle.std.proofs.Common.{◌≡◌, ◌++◌, drop, flat_map}
use Rattle.dx_state.specs.StateBytes.{moments_bytes}
use Rattle.dx_restore.proofs.saving.put_each_engine.Given as goal

abbrev pub invariant-loop-engine : goal.invariant-loop-engine
invariant-loop-engine l =
    l.out.items ++ flat_map (λ r. moments_bytes r.kept) (drop l.engine-index l.engines)
    ≡ l.initial.out.items ++ flat_map (λ r. moments_bytes r.kept) l.engines
