use Rattle.std.proofs.Common.{sym, ap, Ok, ◌∙◌}
use Rattle.std.proofs.lemmas.Bool.{OnTrue_at, OnFalse_at}
use Rattle.ev_graph.specs.Lawful.{GraphValue}
use Rattle.ev_graph.proofs.Building.{kinds_refused, is_kindred, have_causes, is_built}
use Rattle.ev_graph.proofs.Building.{cyclic_refused}
use Rattle.ev_graph.proofs.graph.examine.Goals as goal

pub returns-then-trips-clause-fault : goal.returns-then-trips-clause-fault
returns-then-trips-clause-fault c =
    let g : GraphValue = record {
      nodes = c.args.nodes.now;
      engines =
          c.args.engines.now;
      instances = c.args.instances.now;
    } in
    kinds_refused g c.in_ok-table.table c.in_ok-table.ensures c.in_ok-check.ensures.numbered
    (OnTrue_at c.if-trips.true c.in_ok-trips.ensures.trips)

pub returns-then-not-are_counted-clause-fault : goal.returns-then-not-are_counted-clause-fault
returns-then-not-are_counted-clause-fault c =
    let g : GraphValue = record {
      nodes = c.args.nodes.now;
      engines =
          c.args.engines.now;
      instances = c.args.instances.now;
    } in (
      is_kindred g c.in_ok-table.table c.in_ok-table.ensures c.in_ok-check.ensures.numbered
          c.in_ok-check.ensures.kinds
          (OnFalse_at c.if-trips.false c.in_ok-trips.ensures.apart),
      sym c.are_counted.ensures
          ∙ c.if-not-are_counted.true,
    )

pub ranks_of-requires : goal.ranks_of-requires
ranks_of-requires c =
    let g : GraphValue = record {
      nodes = c.args.nodes.now;
      engines =
          c.args.engines.now;
      instances = c.args.instances.now;
    } in
    have_causes g c.in_ok-table.table c.in_ok-table.ensures (sym c.are_counted.ensures
    ∙ c.if-not-are_counted.false)

pub returns-in-Some-clause-built : goal.returns-in-Some-clause-built
returns-in-Some-clause-built c =
    let g : GraphValue = record {
      nodes = c.args.nodes.now;
      engines =
          c.args.engines.now;
      instances = c.args.instances.now;
    } in
    is_built g c.in_ok-table.table c.in_ok-table.ensures c.in-Some.ranks.items
    (record {
      kindred = is_kindred g c.in_ok-table.table c.in_ok-table.ensures
          c.in_ok-check.ensures.numbered c.in_ok-check.ensures.kinds
          (OnFalse_at c.if-trips.false c.in_ok-trips.ensures.apart);
      counts = sym c.are_counted.ensures ∙ c.if-not-are_counted.false;
    })
    (rw c.in-Some.is at c.in_ok-ranks.ensures.ranked)

pub returns-in-None-clause-fault : goal.returns-in-None-clause-fault
returns-in-None-clause-fault c =
    let g : GraphValue = record {
      nodes = c.args.nodes.now;
      engines =
          c.args.engines.now;
      instances = c.args.instances.now;
    } in
    cyclic_refused g c.in_ok-table.table c.in_ok-table.ensures
    (record {
      kindred = is_kindred g c.in_ok-table.table c.in_ok-table.ensures
          c.in_ok-check.ensures.numbered c.in_ok-check.ensures.kinds
          (OnFalse_at c.if-trips.false c.in_ok-trips.ensures.apart);
      counts = sym c.are_counted.ensures ∙ c.if-not-are_counted.false;
    })
    (c.in_ok-ranks.ensures.cyclic (ap Ok c.in-None.is))
