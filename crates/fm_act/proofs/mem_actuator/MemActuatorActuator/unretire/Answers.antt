use Rattle.std.proofs.Common.{refl, sym, ap, ◌∙◌}
use Rattle.fm_act.specs.MemActuator.{are_in_order}
use Rattle.fm_act.proofs.InMemory.{takes_told}
use Rattle.fm_act.specs.ToldLaws.{ascending_is}
use Rattle.fm_act.proofs.mem_actuator.MemActuatorActuator.unretire.Goals as goal

pub invariant_of-self : goal.invariant_of-self
invariant_of-self c = (ascending_is c.remove.new.self.keys c.remove.ensures.ordered, tt)

pub returns-clause-ok : goal.returns-clause-ok
returns-clause-ok c =
    let was = sym (ap (λ m. m.held) (c.self.view_is ∙ c.answer.ensures.state)) in
    takes_told c.args.path.now c.args.self.now
    (record c.answer.new.self { held = c.remove.new.self.keys }) c.self.inside.paths
    c.remove.new.self
    was refl (ap are_in_order was ∙ c.self.invariant.0)
    (ascending_is c.remove.new.self.keys c.remove.ensures.ordered)
    c.remove.ensures.updates
