use Rattle.std.proofs.Common.{length, sym, ap, ◌∙◌, subst, arith}
use Rattle.std.proofs.lemmas.Option.{slice_get_read}
use Rattle.dx_rules.specs.ReportIndex.{IndexesFirst}
use Rattle.dx_rules.proofs.Indexing.{node_put, all_put}
use Rattle.dx_rules.proofs.report_index.numbers_of.Goals as goal

pub nodes-preserved : goal.nodes-preserved
nodes-preserved c =
    let nodes = c.nodes-nodes.result.now in
    node_put nodes c.nodes.at c.index-nodes-at.result c.nodes.numbers.entries
    c.put_report.new.numbers.entries
    (slice_get_read nodes c.node_count-at-end.result c.nodes.at c.index-nodes-at.result
    (c.node_count-at-end.ensures.count ∙ sym (ap length c.nodes-nodes.ensures.nodes))
    c.nodes-test.true c.index-nodes-at.is)
    c.in_ok-put_report.ensures c.nodes.invariant

pub returns : goal.returns
returns c =
    all_put c.args.graph.now c.nodes.at c.nodes.numbers.entries c.nodes-nodes.ensures.graph
    (let same = c.node_count-at-end.ensures.count in omega (arith, same, c.nodes-test.false))
    (subst (λ nodes. IndexesFirst nodes c.nodes.at c.nodes.numbers.entries)
    c.nodes-nodes.ensures.nodes c.nodes.invariant)
