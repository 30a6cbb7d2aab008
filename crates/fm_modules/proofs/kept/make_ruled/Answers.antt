-- The graph that is made, with its guards.
use Rattle.std.proofs.Common.{sym, subst}
use Rattle.ev_graph.specs.Lawful.{GraphValue}
use Rattle.dx_rules.specs.Rulebooks.{ruled_of}
use Rattle.fm_modules.specs.KeptTexts.{MakesGuarding}
use Rattle.fm_modules.proofs.kept.make_ruled.Goals as goal

pub guard_graph-requires : goal.guard_graph-requires
guard_graph-requires c = record {
  skipped = c.in_ok-made.made.skipped;
  is = c.in_ok-made.ensures.made.graph;
}

pub returns-clause-makes : goal.returns-clause-makes
returns-clause-makes c = record {
  made = c.in_ok-made.made;
  is_made = c.in_ok-made.ensures.made;
  graph_is = c.in_ok-ruled.ensures.graph;
  is_graph = c.in_ok-ruled.ensures.is_graph;
  guarding = subst (λ (g : GraphValue). MakesGuarding c.args.checked.now c.args.topo.now g
      (ruled_of c.in_ok-ruled.ruled).guarding) (sym c.in_ok-ruled.ensures.graph)
      c.in_ok-ruled.ensures.guarding;
}
