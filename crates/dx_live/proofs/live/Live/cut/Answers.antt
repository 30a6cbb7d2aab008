use Rattle.std.proofs.Common.{arith}
use Rattle.dx_live.specs.Live.{LiveValue, live_over}
use Rattle.dx_live.proofs.CutLinks.{cut_best, uncut_best, live_with}
use Rattle.dx_live.proofs.Tables.{live_at, best_at, best_of, cost_at}
use Rattle.dx_live.proofs.live.Live.cut.Goals as goal

pub cut_link-requires-clause-cuts : goal.cut_link-requires-clause-cuts
cut_link-requires-clause-cuts g c =
    let l : LiveValue = record {
      region = c.self.inside.region;
      sets = c.self.inside.sets;
      cuts = c.self.inside.cuts;
      here = c.self.inside.here;
    } in
    let live = live_at c.args.graph.now c.incidence-whole.result.now
    c.incidence-whole.ensures.incidence l (rw (← c.self.view_is) at c.requires) in
    rw c.table-table.ensures live.cuts

pub cut_link-requires-clause-steady : goal.cut_link-requires-clause-steady
cut_link-requires-clause-steady g c =
    let l : LiveValue = record {
      region = c.self.inside.region;
      sets = c.self.inside.sets;
      cuts = c.self.inside.cuts;
      here = c.self.inside.here;
    } in
    let live = live_at c.args.graph.now c.incidence-whole.result.now
    c.incidence-whole.ensures.incidence l (rw (← c.self.view_is) at c.requires) in
    rw c.table-table.ensures live.steady

pub cut_link-requires-clause-over : goal.cut_link-requires-clause-over
cut_link-requires-clause-over g c =
    let l : LiveValue = record {
      region = c.self.inside.region;
      sets = c.self.inside.sets;
      cuts = c.self.inside.cuts;
      here = c.self.inside.here;
    } in
    let live = live_at c.args.graph.now c.incidence-whole.result.now
    c.incidence-whole.ensures.incidence l (rw (← c.self.view_is) at c.requires) in
    live.over

pub returns-in-Some-clause-live : goal.returns-in-Some-clause-live
returns-in-Some-clause-live g c =
    let l : LiveValue = record {
      region = c.self.inside.region;
      sets = c.self.inside.sets;
      cuts = c.self.inside.cuts;
      here = c.self.inside.here;
    } in
    let v = c.incidence-whole.result.now in
    let live = live_at c.args.graph.now v c.incidence-whole.ensures.incidence l
    (rw (← c.self.view_is) at c.requires) in
    record {
      table = v;
      incidence = c.incidence-whole.ensures.incidence;
      over = live_with c.args.graph.now (live_over v l) live c.in-Some.link c.cut_link.new.cuts
          c.cut_link.new.sets (rw c.table-table.ensures at c.cut_link.ensures.made);
    }

pub returns-in-Some-clause-best : goal.returns-in-Some-clause-best
returns-in-Some-clause-best g c =
    let l : LiveValue = record {
      region = c.self.inside.region;
      sets = c.self.inside.sets;
      cuts = c.self.inside.cuts;
      here = c.self.inside.here;
    } in
    let n : LiveValue = record {
      region = c.self.inside.region;
      sets = c.cut_link.new.sets;
      cuts = c.cut_link.new.cuts;
      here = c.self.inside.here;
    } in
    let graph = c.args.graph.now in
    let v = c.incidence-whole.result.now in
    let inc = c.incidence-whole.ensures.incidence in
    let live = live_at graph v inc l (rw (← c.self.view_is) at c.requires) in
    rw (← c.self.view_is) (λ cut allowed b. best_of graph v inc _ allowed n
    (cut_best graph c.incidence-whole.ensures.graph (live_over v l) live c.args.gone cut allowed
    (best_at graph v inc cut allowed l b) c.in-Some.link c.in-Some.ensures.found
    c.cut_link.new.cuts c.cut_link.new.sets (rw c.table-table.ensures at c.cut_link.ensures.made)))

pub returns-in-Some-clause-cost : goal.returns-in-Some-clause-cost
returns-in-Some-clause-cost g c =
    let graph = c.args.graph.now in
    let v = c.incidence-whole.result.now in
    let inc = c.incidence-whole.ensures.incidence in
    rw (← c.self.view_is) (omega (
      arith,
      rw c.table-table.ensures at c.cut_link.ensures.cost,
      cost_at graph v inc c.self.inside.region.own c.cut_link.new.sets,
      cost_at graph v inc c.self.inside.region.own c.self.inside.sets,
    ))

pub returns-in-Some-clause-counted : goal.returns-in-Some-clause-counted
returns-in-Some-clause-counted g c =
    let graph = c.args.graph.now in
    let v = c.incidence-whole.result.now in
    let inc = c.incidence-whole.ensures.incidence in
    rw (← c.self.view_is) (omega (
      arith,
      rw c.table-table.ensures at c.cut_link.ensures.counted,
      cost_at graph v inc c.self.inside.region.own c.cut_link.new.sets,
      cost_at graph v inc c.self.inside.region.own c.self.inside.sets,
    ))

pub returns-in-None-clause-best : goal.returns-in-None-clause-best
returns-in-None-clause-best g c =
    let l : LiveValue = record {
      region = c.self.inside.region;
      sets = c.self.inside.sets;
      cuts = c.self.inside.cuts;
      here = c.self.inside.here;
    } in
    let graph = c.args.graph.now in
    let v = c.incidence-whole.result.now in
    let inc = c.incidence-whole.ensures.incidence in
    let live = live_at graph v inc l (rw (← c.self.view_is) at c.requires) in
    rw (← c.self.view_is) (λ cut allowed b. best_of graph v inc _ allowed l
    (uncut_best graph c.incidence-whole.ensures.graph (live_over v l) live c.args.gone cut allowed
    (best_at graph v inc cut allowed l b) (c.local_link.ensures.none c.in-None.is)))
