use Rattle.std.proofs.Common.{sym, subst, IsTrue}
use Rattle.std.specs.List.{list_all}
use Rattle.ev_graph.specs.Lawful.{has_engine_limits}
use Rattle.dx_turn.proofs.Reloads.{graph_limits}
use Rattle.dx_turn.proofs.reloading.fresh_engines.Goals as goal

pub engines_like-requires : goal.engines_like-requires
engines_like-requires c =
    subst (λ es. IsTrue (list_all has_engine_limits es)) (sym c.engines.ensures.engines)
    (graph_limits c.args.graph.now c.engines.ensures.graph)
