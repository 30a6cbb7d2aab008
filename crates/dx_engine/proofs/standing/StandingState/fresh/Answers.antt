use Rattle.std.proofs.Common.{◌∙◌, ap}
use Rattle.ev_graph.specs.Lawful.{GraphValue}
use Rattle.dx_rules.specs.Rulebooks.{rules_in}
use Rattle.dx_turn.specs.Reloading.{fresh_rates}
use Rattle.dx_engine.proofs.Beginnings.{fresh_state, fresh_stands}
use Rattle.dx_engine.proofs.standing.StandingState.fresh.Goals as goal

pub returns-clause-state : goal.returns-clause-state
returns-clause-state c =
    fresh_state (rules_in c.args.rules.now) c.first_of-conf.result c.new.result.items
    c.new-3.result.items c.in_ok-engines.engines.items (record {
      first = c.first_of-conf.ensures;
      none_open = c.new.ensures.items;
      none_solved = c.new-3.ensures.items;
      fresh = c.in_ok-engines.ensures
          ∙ ap (λ (g : GraphValue). fresh_rates g.engines) c.graph.ensures;
    })

pub returns-clause-standing : goal.returns-clause-standing
returns-clause-standing c =
    record {
      parts = fresh_stands (rules_in c.args.rules.now) c.first_of-conf.result c.new.result.items
          c.new-3.result.items c.in_ok-engines.engines.items c.requires.rules c.requires.there
          (record {
            first = c.first_of-conf.ensures;
            none_open = c.new.ensures.items;
            none_solved = c.new-3.ensures.items;
            fresh = c.in_ok-engines.ensures
                ∙ ap (λ (g : GraphValue). fresh_rates g.engines) c.graph.ensures;
          });
      starts = c.new-2.ensures _;
    }
