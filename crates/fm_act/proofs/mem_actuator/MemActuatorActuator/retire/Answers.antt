use Rattle.std.proofs.Common.{true, refl, sym, ap, ◌∙◌, subst}
use Rattle.std.specs.BTreeSet.{Updates}
use Rattle.fm_name.specs.Order.{path_cmp}
use Rattle.fm_act.specs.MemActuator.{are_in_order}
use Rattle.fm_act.proofs.InMemory.{adds_told}
use Rattle.fm_act.specs.ToldLaws.{ascending_is}
use Rattle.fm_act.proofs.mem_actuator.MemActuatorActuator.retire.Goals as goal

pub invariant_of-self-2 : goal.invariant_of-self-2
invariant_of-self-2 c = (ascending_is c.insert.new.self.keys c.insert.ensures.ordered, tt)

pub returns-clause-ok : goal.returns-clause-ok
returns-clause-ok c =
    let was = sym (ap (λ m. m.held) (c.self.view_is ∙ c.answer.ensures.state)) in
    adds_told c.args.path.now c.args.self.now
    (record c.answer.new.self { held = c.insert.new.self.keys }) c.self.inside.paths
    c.insert.new.self
    was refl (ap are_in_order was ∙ c.self.invariant.0)
    (ascending_is c.insert.new.self.keys c.insert.ensures.ordered)
    (subst (λ k. Updates path_cmp c.self.inside.paths c.insert.new.self k true)
    c.in_ok-copy.ensures c.in_ok-insert.ensures.updates)
