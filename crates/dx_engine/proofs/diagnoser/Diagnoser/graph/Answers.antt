use Rattle.dx_rules.specs.Rulebooks.{rules_in}
use Rattle.dx_engine.specs.Standing.{state_of}
use Rattle.dx_step.proofs.Stepping.{lawful_is}
use Rattle.dx_engine.proofs.diagnoser.Diagnoser.graph.Goals as goal

pub graph-requires : goal.graph-requires
graph-requires c =
    rw c.conf.ensures (lawful_is (rules_in c.self.inside.rules) (state_of c.self.inside.standing)
    c.self.invariant.parts.lawful).there
