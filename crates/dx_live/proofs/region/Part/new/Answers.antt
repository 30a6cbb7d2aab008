use Rattle.std.proofs.Common.{◌∷◌, [], ℕ, List, length, ap, sym, ◌∙◌, arith}
use Rattle.ev_incidence.specs.Sets.{is_member}
use Rattle.ev_incidence.specs.Reached.{MarkedValue}
use Rattle.ev_graph.proofs.Building.{can_search_forwards}
use Rattle.dx_live.proofs.Reaching.{region_is, start_below}
use Rattle.dx_live.proofs.Wholes.{whole_region, whole_part, whole_table}
use Rattle.dx_live.proofs.region.Part.new.Goals as goal

pub search-requires : goal.search-requires
search-requires c =
    let v = c.args.table.now in
    rw (c.forwards.ensures.index, c.forwards.ensures.rows) (can_search_forwards v
    (c.args.root ∷ []) c.in_ok-reached.reached c.in_ok-taken.taken c.forwards.ensures.incidence
    (rw c.nodes.ensures.count at c.in_ok-reached.ensures)
    (rw c.count.ensures.count at c.in_ok-taken.ensures)
    (λ i l. start_below c.args.root (length v.uses) i c.requires l))

pub returns-clause-region : goal.returns-clause-region
returns-clause-region c =
    let reach = rw (c.forwards.ensures.index, c.forwards.ensures.rows) at
    c.in_ok-search.ensures.reach in
    let table = rw (c.as_slice-4.ensures.value, c.as_slice-5.ensures.value) at
    c.in_ok-table.ensures in
    region_is c.args.table.now c.args.root c.search.new.nodes.items c.search.new.places.items
    c.in_ok-nodes.nodes.items c.in_ok-places.places.items c.in_ok-table.table
    c.forwards.ensures.incidence reach
    (record {
      ascend = c.in_ok-nodes.ensures.ascend;
      same = λ e. c.in_ok-nodes.ensures.same e
          ∙ ap (λ (xs : List ℕ). is_member xs e) c.as_slice-2.ensures.items;
      few = omega (
        arith,
        c.in_ok-nodes.ensures.few,
        ap length c.as_slice-2.ensures.items,
        c.as_slice-2.ensures.few,
        c.in_ok-search.ensures.size,
        ap (λ (m : MarkedValue). m.size) c.in_ok-reached.ensures,
        c.nodes.ensures.few,
      );
    })
    (record {
      ascend = c.in_ok-places.ensures.ascend;
      same = λ e. c.in_ok-places.ensures.same e
          ∙ ap (λ (xs : List ℕ). is_member xs e) c.as_slice-3.ensures.items;
      few = omega (
        arith,
        c.in_ok-places.ensures.few,
        ap length c.as_slice-3.ensures.items,
        c.as_slice-3.ensures.few,
        c.in_ok-search.ensures.places_size,
        ap (λ (m : MarkedValue). m.size) c.in_ok-taken.ensures,
        c.count.ensures.few,
      );
    }) table

pub returns-clause-part : goal.returns-clause-part
returns-clause-part c = record {
  nodes = λ e i.
      let same = c.in_ok-nodes.ensures.same e
      ∙ ap (λ (xs : List ℕ). is_member xs e) c.as_slice-2.ensures.items in
      omega (
        arith,
        c.as_slice-2.ensures.below e (sym same ∙ i),
        c.in_ok-search.ensures.size,
        ap (λ (m : MarkedValue). m.size) c.in_ok-reached.ensures,
        c.nodes.ensures.count,
      );
  places = λ j i.
      let same = c.in_ok-places.ensures.same j
      ∙ ap (λ (xs : List ℕ). is_member xs j) c.as_slice-3.ensures.items in
      omega (
        arith,
        c.as_slice-3.ensures.below j (sym same ∙ i),
        c.in_ok-search.ensures.places_size,
        ap (λ (m : MarkedValue). m.size) c.in_ok-taken.ensures,
        c.count.ensures.count,
      );
}

pub returns-then-are_most-clause-region : goal.returns-then-are_most-clause-region
returns-then-are_most-clause-region c =
    let v = c.args.table.now in
    let w = c.in_ok-part.ensures in
    rw w.own (whole_region v c.forwards.ensures.incidence c.in_ok-part.part.nodes
    c.in_ok-part.part.places w.nodes w.places c.args.root c.requires
    (omega (arith, c.nodes.ensures.count, c.nodes.ensures.few))
    (omega (arith, c.count.ensures.count, c.count.ensures.few)))

pub returns-then-are_most-clause-part : goal.returns-then-are_most-clause-part
returns-then-are_most-clause-part c =
    let w = c.in_ok-part.ensures in
    rw w.own (whole_part c.args.table.now c.forwards.ensures.incidence c.in_ok-part.part.nodes
    c.in_ok-part.part.places w.nodes w.places)

pub returns-then-are_most-clause-local : goal.returns-then-are_most-clause-local
returns-then-are_most-clause-local c =
    let w = c.in_ok-part.ensures in
    rw w.own (whole_table c.args.table.now c.forwards.ensures.incidence c.in_ok-part.part.nodes
    c.in_ok-part.part.places w.nodes w.places)
