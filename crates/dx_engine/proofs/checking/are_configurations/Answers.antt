use Rattle.std.proofs.Common.{◌≤◌, ◌∙◌, ◌^◌, ap, sym, subst, length}
use Rattle.std.specs.List.{list_all}
use Rattle.dx_rules.specs.Rulebooks.{ruled_of, configurations_of}
use Rattle.dx_state.specs.LawfulState.{is_formed_configuration}
use Rattle.dx_step.specs.Lawful.{are_configurations}
use Rattle.dx_engine.proofs.Forming.{listed_formed}
use Rattle.dx_engine.proofs.checking.are_configurations.Goals as goal

pub returns-then-len : goal.returns-then-len
returns-then-len c =
    let few = subst (λ n. n ≤ 2 ^ 32)
    (c.len.ensures ∙ sym c.as_slice.ensures.len ∙ ap length c.as_slice.ensures.value)
    c.if-len.true in
    c.are_formed.ensures
    ∙ ap (list_all (λ x. is_formed_configuration (ruled_of x))) c.as_slice.ensures.value
    ∙ listed_formed c.in-Listed.list.items few
    ∙ ap (λ k. are_configurations (configurations_of k)) (sym c.in-Listed.is)
