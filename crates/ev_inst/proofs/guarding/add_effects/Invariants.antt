-- The guards of the first effects were added.
use Rattle.std.proofs.Common.{take}
use Rattle.ev_inst.specs.Asked.{AddsGuards}
use Rattle.ev_inst.proofs.guarding.add_effects.Given as goal

abbrev pub invariant-effects : goal.invariant-effects
invariant-effects l = AddsGuards l.side (take l.at l.effects) l.initial.guarded l.guarded
