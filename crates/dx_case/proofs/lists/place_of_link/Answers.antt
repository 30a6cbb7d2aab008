use Rattle.std.proofs.Common.{rules, arith}
use Rattle.std.proofs.lemmas.Fn.{always_returns_same}
use Rattle.ev_graph.specs.Cutting.{is_before_link}
use Rattle.ev_graph.proofs.CutLists.{parted_links}
use Rattle.dx_case.proofs.lists.place_of_link.Goals as goal

pub returns : goal.returns
returns c =
    let xs = c.args.list.now in
    let x = c.args.link.now in
    let p = c.partition_point.ensures.partitioned (λ y. is_before_link y x)
    (always_returns_same _ _ _ (λ a r q k. search rules)) (parted_links xs x c.requires) in
    record {
      inside = c.partition_point.ensures.bound;
      low = λ k d l. p.0 k d (omega arith) l;
      high = λ k d l m. p.1 k d l m;
    }
