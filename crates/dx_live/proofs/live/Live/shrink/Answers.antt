use Rattle.std.proofs.Common.{arith}
use Rattle.dx_live.specs.Live.{LiveValue, live_over}
use Rattle.dx_live.proofs.Shrinks.{shrunk_live, shrunk_some, shrunk_none}
use Rattle.dx_live.proofs.Tables.{live_at, best_at, best_of, cost_at}
use Rattle.dx_live.proofs.live.Live.shrink.Goals as goal

pub lose_member-requires : goal.lose_member-requires
lose_member-requires g c =
    let l : LiveValue = record {
      region = c.self.inside.region;
      sets = c.self.inside.sets;
      cuts = c.self.inside.cuts;
      here = c.self.inside.here;
    } in
    let live = live_at c.args.graph.now c.incidence-whole.result.now
    c.incidence-whole.ensures.incidence l (rw (← c.self.view_is) at c.requires.live) in
    rw c.table-table.ensures live.steady

pub returns-in-Some-clause-live : goal.returns-in-Some-clause-live
returns-in-Some-clause-live g c =
    let l : LiveValue = record {
      region = c.self.inside.region;
      sets = c.self.inside.sets;
      cuts = c.self.inside.cuts;
      here = c.self.inside.here;
    } in
    let v = c.incidence-whole.result.now in
    let live = live_at c.args.graph.now v c.incidence-whole.ensures.incidence l
    (rw (← c.self.view_is) at c.requires.live) in
    record {
      table = v;
      incidence = c.incidence-whole.ensures.incidence;
      over = shrunk_live c.args.graph.now (live_over v l) live c.lose_member.new.sets
          (rw c.table-table.ensures at c.lose_member.ensures.steady) c.lose_member.ensures.over;
    }

pub returns-in-Some-clause-best : goal.returns-in-Some-clause-best
returns-in-Some-clause-best g c =
    let l : LiveValue = record {
      region = c.self.inside.region;
      sets = c.self.inside.sets;
      cuts = c.self.inside.cuts;
      here = c.self.inside.here;
    } in
    let n : LiveValue = record {
      region = c.self.inside.region;
      sets = c.lose_member.new.sets;
      cuts = c.self.inside.cuts;
      here = c.self.inside.here;
    } in
    let graph = c.args.graph.now in
    let v = c.incidence-whole.result.now in
    let inc = c.incidence-whole.ensures.incidence in
    let live = live_at graph v inc l (rw (← c.self.view_is) at c.requires.live) in
    let found = rw c.nodes.ensures.nodes at c.in-Some.ensures.found in
    rw (← c.self.view_is) (λ cut allowed b. best_of graph v inc cut _ n
    (shrunk_some graph c.incidence-whole.ensures.graph (live_over v l) live
    c.args.gone c.requires.report c.in-Some.at found.0 found.1 c.lose_member.new.sets
    (rw c.table-table.ensures at c.lose_member.ensures.steady) c.lose_member.ensures.over
    (rw c.table-table.ensures at c.lose_member.ensures.settles) cut allowed
    (best_at graph v inc cut allowed l b)))

pub returns-in-Some-clause-cost : goal.returns-in-Some-clause-cost
returns-in-Some-clause-cost g c =
    let graph = c.args.graph.now in
    let v = c.incidence-whole.result.now in
    let inc = c.incidence-whole.ensures.incidence in
    rw (← c.self.view_is) (omega (
      arith,
      rw c.table-table.ensures at c.lose_member.ensures.cost,
      cost_at graph v inc c.self.inside.region.own c.lose_member.new.sets,
      cost_at graph v inc c.self.inside.region.own c.self.inside.sets,
    ))

pub returns-in-None-clause-best : goal.returns-in-None-clause-best
returns-in-None-clause-best g c =
    let l : LiveValue = record {
      region = c.self.inside.region;
      sets = c.self.inside.sets;
      cuts = c.self.inside.cuts;
      here = c.self.inside.here;
    } in
    let graph = c.args.graph.now in
    let v = c.incidence-whole.result.now in
    let inc = c.incidence-whole.ensures.incidence in
    let live = live_at graph v inc l (rw (← c.self.view_is) at c.requires.live) in
    let none = rw c.nodes.ensures.nodes at (c.place_among.ensures.none c.in-None.is) in
    rw (← c.self.view_is) (λ cut allowed b. best_of graph v inc cut _ l
    (shrunk_none graph c.incidence-whole.ensures.graph (live_over v l) live
    c.args.gone c.requires.report none cut allowed (best_at graph v inc cut allowed l b)))
