use Rattle.std.proofs.Common.{◌<◌, ◌∙◌, sym, rules, length}
use Rattle.std.proofs.lemmas.Bool.{both_ways}
use Rattle.dx_story.specs.Tests.{are_nodes, are_reports, has_one_root}
use Rattle.dx_story.proofs.Exact.{refused, nodes_from, reports_from, root_from, exact_from}
use Rattle.dx_story.proofs.Exact.{fits_from}
use Rattle.dx_story.proofs.check.check_story_less.Goals as goal

pub returns-then-not-are_nodes : goal.returns-then-not-are_nodes
returns-then-not-are_nodes c =
    let n = length c.args.graph.now.nodes in
    let seen = c.args.seen.now in
    refused (λ t. both_ways (are_nodes n seen)
    (rw c.node_count-count.ensures.count at (sym c.are_nodes.ensures ∙ c.if-not-are_nodes.true))
    (nodes_from n seen t.seen_ascends t.seen_below))

pub returns-then-not-are_nodes-2 : goal.returns-then-not-are_nodes-2
returns-then-not-are_nodes-2 c =
    let n = length c.args.graph.now.nodes in
    let story = c.args.story.now in
    refused (λ t. both_ways (are_nodes n story)
    (rw c.node_count-count.ensures.count at
    (sym c.are_nodes-2.ensures ∙ c.if-not-are_nodes-2.true))
    (nodes_from n story t.story_ascends t.story_below))

pub returns-then-not-are_reports : goal.returns-then-not-are_reports
returns-then-not-are_reports c =
    let nodes = c.args.graph.now.nodes in
    let seen = c.args.seen.now in
    let story = c.args.story.now in
    refused (λ t. both_ways (are_reports nodes seen story)
    (rw c.nodes-nodes.ensures.nodes at (sym c.are_reports.ensures ∙ c.if-not-are_reports.true))
    (reports_from nodes seen story t.reports))

pub returns-then-not-has_one_root : goal.returns-then-not-has_one_root
returns-then-not-has_one_root c =
    let nodes = c.args.graph.now.nodes in
    let root = c.args.root in
    let story = c.args.story.now in
    refused (λ t. both_ways (has_one_root nodes root story)
    (rw c.nodes-nodes.ensures.nodes at (sym c.has_one_root.ensures ∙ c.if-not-has_one_root.true))
    (root_from nodes root story t.is_story.root_kind t.is_story.has_root t.is_story.only_root))

pub returns : goal.returns
returns c =
    let g = c.args.graph.now in
    let v = c.incidence.result.now in
    let less = c.args.less.now in
    let root = c.args.root in
    let seen = c.args.seen.now in
    let story = c.args.story.now in
    let h = c.incidence.ensures.incidence in
    let some : 0 < length seen = search rules in (
      λ fit. exact_from g v less root seen story h
          (rw c.node_count-count.ensures.count at (sym c.are_nodes.ensures
          ∙ c.if-not-are_nodes.false))
          (rw c.node_count-count.ensures.count at
          (sym c.are_nodes-2.ensures ∙ c.if-not-are_nodes-2.false))
          some
          (rw c.nodes-nodes.ensures.nodes at
          (sym c.are_reports.ensures ∙ c.if-not-are_reports.false))
          (rw c.nodes-nodes.ensures.nodes at
          (sym c.has_one_root.ensures ∙ c.if-not-has_one_root.false))
          (sym c.all_fit.ensures ∙ fit),
      λ t. c.all_fit.ensures ∙ fits_from g v less root seen story h t,
    )
