use Rattle.std.proofs.Common.{sym, ◌∙◌, ap, refl}
use Rattle.ev_graph.specs.Lawful.{GraphValue}
use Rattle.dx_turn.specs.Reloading.{fresh_rates}
use Rattle.dx_turn.proofs.Reloads.{above_there, reload_not, reload_done}
use Rattle.dx_turn.proofs.reloading.reload_to.Goals as goal

pub graph-requires : goal.graph-requires
graph-requires c =
    above_there c.args.ground.now c.args.conf
    (sym c.is_above.ensures ∙ c.if-not-is_above.false)

pub returns-then-not-is_above-clause-ok : goal.returns-then-not-is_above-clause-ok
returns-then-not-is_above-clause-ok c =
    reload_not c.args.ground.now c.args.conf c.args.work.now
    (sym c.is_above.ensures ∙ c.if-not-is_above.true) c.requires.work

pub returns-clause-ok : goal.returns-clause-ok
returns-clause-ok c =
    reload_done c.args.ground.now (record { conf = c.args.conf; engines = c.in_ok-engines.engines })
    c.args.work.now _ (sym c.is_above.ensures ∙ c.if-not-is_above.false) refl
    (c.in_ok-engines.ensures ∙ ap (λ (g : GraphValue). fresh_rates g.engines) c.graph.ensures)
    c.in_ok-decide_all.ensures.ok c.in_ok-decide_all.ensures.none
    (c.forget.ensures _)
