use Rattle.std.proofs.Common.{◌≡◌, ◌≤◌, take, length, filter_map}
use Rattle.ev_check.specs.Drawn.{causes_of, effects_of}
use Rattle.ev_check.proofs.arrows.draw.Given as goal

abbrev pub invariant-loop-statement : goal.invariant-loop-statement
invariant-loop-statement l = record {
  nodes : l.arrows.nodes ≡ length l.events;
  causes : l.arrows.causes ≡ filter_map (causes_of l.events) (take l.statement-index l.statements);
  effects : l.arrows.effects
      ≡ filter_map (effects_of l.events) (take l.statement-index l.statements);
  few : length l.arrows.causes ≤ l.statement-index;
}
