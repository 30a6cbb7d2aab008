use Rattle.std.proofs.Common.{rules}
use Rattle.std.proofs.lemmas.List.Sorted.{answers_always}
use Rattle.ev_graph.specs.Lawful.{is_before_node}
use Rattle.ev_incidence.proofs.Ascending.{ascends_is}
use Rattle.ev_graph.proofs.checks.nodes_ascend.Goals as goal

pub returns : goal.returns
returns c =
    ascends_is is_before_node c.args.nodes.now c.is_sorted_by.result
    (c.is_sorted_by.ensures.cases is_before_node (answers_always _ _ _ (λ f a r q k. search rules)))
