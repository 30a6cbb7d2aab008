use Rattle.std.proofs.Common.{arith}
use Rattle.ev_graph.specs.Kinds.{is_root_kind}
use Rattle.ev_graph.proofs.KindBelow.{kind_below}
use Rattle.dx_live.specs.Live.{LiveValue, live_over, no_cut, all_allowed}
use Rattle.dx_live.proofs.Opening.{live_first, best_live, cost_first}
use Rattle.dx_live.proofs.Tables.{best_of, cost_at}
use Rattle.dx_live.proofs.live.Live.new.Goals as goal

pub new-requires : goal.new-requires
new-requires c =
    omega (
      arith,
      kind_below is_root_kind c.args.graph.now.nodes c.args.root c.requires,
      c.incidence-table.ensures.incidence.nodes,
    )

pub number_of_root-here-requires-clause-there : goal.number_of_root-here-requires-clause-there
number_of_root-here-requires-clause-there c =
    rw c.nodes.ensures.nodes c.in_ok-region.ensures.region.root_in

pub returns-clause-live : goal.returns-clause-live
returns-clause-live c =
    let l : LiveValue = record {
      region = c.in_ok-region.region;
      sets = c.in_ok-sets.sets;
      cuts = c.in_ok-cuts.cuts;
      here = c.number_of_root-here.result;
    } in
    let v = c.incidence-table.result.now in
    record {
      table = v;
      incidence = c.incidence-table.ensures.incidence;
      over = live_first c.args.graph.now c.incidence-table.ensures.graph v
          c.incidence-table.ensures.incidence c.args.root c.requires (live_over v l)
          c.in_ok-region.ensures.region
          (rw c.table-local.ensures at c.in_ok-cuts.ensures.starts) c.in_ok-cuts.ensures.none
          (rw c.nodes.ensures.nodes at c.number_of_root-here.ensures.inside)
          (rw c.nodes.ensures.nodes at c.number_of_root-here.ensures.is)
          (rw c.table-local.ensures at c.in_ok-sets.ensures.steady) c.in_ok-sets.ensures.over;
    }

pub returns-clause-root : goal.returns-clause-root
returns-clause-root c = rw c.nodes.ensures.nodes at c.number_of_root-here.ensures.is

pub returns-clause-best : goal.returns-clause-best
returns-clause-best c =
    let l : LiveValue = record {
      region = c.in_ok-region.region;
      sets = c.in_ok-sets.sets;
      cuts = c.in_ok-cuts.cuts;
      here = c.number_of_root-here.result;
    } in
    let v = c.incidence-table.result.now in
    best_of c.args.graph.now v c.incidence-table.ensures.incidence no_cut all_allowed l
    (best_live c.args.graph.now c.incidence-table.ensures.graph v
    c.incidence-table.ensures.incidence c.args.root c.requires (live_over v l)
    c.in_ok-region.ensures.region
    (rw c.table-local.ensures at c.in_ok-cuts.ensures.starts) c.in_ok-cuts.ensures.none
    (rw c.nodes.ensures.nodes at c.number_of_root-here.ensures.inside)
    (rw c.nodes.ensures.nodes at c.number_of_root-here.ensures.is)
    (rw c.table-local.ensures at c.in_ok-sets.ensures.steady) c.in_ok-sets.ensures.over
    (rw c.table-local.ensures at c.in_ok-sets.ensures.every))

pub returns-clause-cost : goal.returns-clause-cost
returns-clause-cost c =
    let l : LiveValue = record {
      region = c.in_ok-region.region;
      sets = c.in_ok-sets.sets;
      cuts = c.in_ok-cuts.cuts;
      here = c.number_of_root-here.result;
    } in
    let v = c.incidence-table.result.now in
    omega (
      arith,
      cost_at c.args.graph.now v c.incidence-table.ensures.incidence c.in_ok-region.region.own
          c.in_ok-sets.sets,
      cost_first c.args.graph.now c.incidence-table.ensures.graph v
          c.incidence-table.ensures.incidence c.args.root c.requires (live_over v l)
          c.in_ok-region.ensures.region
          (rw c.table-local.ensures at c.in_ok-cuts.ensures.starts) c.in_ok-cuts.ensures.none
          (rw c.nodes.ensures.nodes at c.number_of_root-here.ensures.inside)
          (rw c.nodes.ensures.nodes at c.number_of_root-here.ensures.is)
          (rw c.table-local.ensures at c.in_ok-sets.ensures.steady) c.in_ok-sets.ensures.over
          c.in_ok-region.ensures.part c.in_ok-region.ensures.local,
    )
