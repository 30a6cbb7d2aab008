use Rattle.std.proofs.Common.{Option, sym, ap, ◌∙◌}
use Rattle.ev_graph.specs.Cutting.{is_cut}
use Rattle.ev_guards.specs.Guards.{GuardsValue}
use Rattle.ev_guards.proofs.GuardedLinks.{cut_same}
use Rattle.dx_rules.specs.Rulebooks.{guarding_if_any}
use Rattle.dx_rules.proofs.ruled.RuledCutTest.has.Goals as goal

pub returns-in-Some : goal.returns-in-Some
returns-in-Some c =
    c.is_guarded.ensures
    ∙ (sym (cut_same c.in-Some.guards c.args.instance c.args.effect)
    ∙ ap (λ (o : Option GuardsValue).
    is_cut (guarding_if_any o).guarded c.args.instance c.args.effect) (sym c.in-Some.is))
