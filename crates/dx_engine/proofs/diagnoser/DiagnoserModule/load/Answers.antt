use Rattle.dx_rules.specs.Rulebooks.{rules_in}
use Rattle.dx_engine.specs.Standing.{state_of}
use Rattle.dx_step.proofs.Stepping.{lawful_is}
use Rattle.dx_engine.proofs.diagnoser.DiagnoserModule.load.Goals as goal

pub load_standing-requires : goal.load_standing-requires
load_standing-requires c =
    (lawful_is (rules_in c.self.inside.rules) (state_of c.self.inside.standing)
    c.self.invariant.parts.lawful).rules
