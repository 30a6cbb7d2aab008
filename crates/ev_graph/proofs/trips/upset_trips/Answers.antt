use Rattle.std.proofs.Common.{◌∙◌, sym, ap, arith, ℕ, [], get_or}
use Rattle.std.proofs.lemmas.Bool.{OnTrue_from, OnFalse_from}
use Rattle.ev_graph.proofs.Building.{can_search_forwards, upset_trips, no_upset_trips}
use Rattle.ev_graph.proofs.Building.{upset_in_range}
use Rattle.ev_graph.proofs.trips.upset_trips.Goals as goal

pub search-requires : goal.search-requires
search-requires c =
    let v = c.args.table.now in
    let upsets = c.in_ok-upsets.upsets.items in
    rw (c.forwards.ensures.index, c.forwards.ensures.rows, c.as_slice.ensures.value)
    (can_search_forwards v upsets c.in_ok-reached.reached c.in_ok-places.places
    c.forwards.ensures.incidence
    (c.in_ok-reached.ensures
    ∙ ap (λ (n : ℕ). record { size = n; items = [] }) c.nodes.ensures.count)
    (c.in_ok-places.ensures
    ∙ ap (λ (n : ℕ). record { size = n; items = [] }) c.count.ensures.count)
    (λ i l. omega (
      arith,
      c.requires.count,
      upset_in_range c.args.nodes.now (get_or upsets i 0) (c.in_ok-upsets.ensures.each i l),
    )))

pub returns-clause-trips : goal.returns-clause-trips
returns-clause-trips c =
    let r = rw (c.forwards.ensures.index, c.forwards.ensures.rows, c.as_slice.ensures.value) at
    c.in_ok-search.ensures.reach in
    OnTrue_from c.some_trip_is_in.result _ (λ h.
    upset_trips c.args.table.now c.args.nodes.now c.args.engines.now c.in_ok-upsets.upsets.items
    c.search.new.nodes.items
    c.search.new.places.items c.forwards.ensures.incidence c.in_ok-upsets.ensures r
    c.requires.reports (sym c.some_trip_is_in.ensures ∙ h))

pub returns-clause-apart : goal.returns-clause-apart
returns-clause-apart c =
    let r = rw (c.forwards.ensures.index, c.forwards.ensures.rows, c.as_slice.ensures.value) at
    c.in_ok-search.ensures.reach in
    OnFalse_from c.some_trip_is_in.result _ (λ h.
    no_upset_trips c.args.table.now c.args.nodes.now c.args.engines.now
    c.in_ok-upsets.upsets.items c.search.new.nodes.items
    c.search.new.places.items c.forwards.ensures.incidence c.in_ok-upsets.ensures r
    (sym c.some_trip_is_in.ensures ∙ h))
