use Rattle.std.proofs.Common.{◌≡◌, take, map, true}
use Rattle.ev_incidence.specs.Sets.{ascends_by}
use Rattle.ev_graph.specs.Cutting.{is_before_link}
use Rattle.dx_explain.specs.Cases.{with_links, broken_of}
use Rattle.dx_case.proofs.lists.put_links.Given as goal

abbrev pub invariant-loop-link : goal.invariant-loop-link
invariant-loop-link l = record {
  put : map broken_of l.list.items
      ≡ with_links (take l.link-index l.links) (map broken_of l.initial.list.items);
  ascend : ascends_by is_before_link l.list.items ≡ true;
}
