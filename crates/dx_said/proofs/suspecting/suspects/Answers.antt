use Rattle.std.proofs.Common.{◌∙◌, ap, subst, length, arith, sym, IsTrue, nat_le}
use Rattle.std.specs.List.{list_all}
use Rattle.dx_step.proofs.Certain.{certain_low, certain_many}
use Rattle.dx_said.proofs.Pushing.{rates_many}
use Rattle.dx_said.proofs.suspecting.suspects.Goals as goal

pub certainties-requires : goal.certainties-requires
certainties-requires c =
    let many = rates_many c.args.graph.now c.args.numbers.now c.requires.below in
    omega (arith, c.requires.few, ap length c.deref.ensures.value, ap length c.in_ok-rates.ensures)

pub suspects_with-requires-clause-many : goal.suspects_with-requires-clause-many
suspects_with-requires-clause-many c =
    ap length (c.deref-2.ensures.value ∙ c.in_ok-certainties.ensures)
    ∙ certain_many c.deref.result.now
    ∙ ap length (c.deref.ensures.value ∙ c.in_ok-rates.ensures)
    ∙ rates_many c.args.graph.now c.args.numbers.now c.requires.below

pub suspects_with-requires-clause-low : goal.suspects_with-requires-clause-low
suspects_with-requires-clause-low c =
    subst (λ ps. IsTrue (list_all (λ p. nat_le p 100) ps))
    (sym (c.deref-2.ensures.value ∙ c.in_ok-certainties.ensures)) (certain_low c.deref.result.now)
