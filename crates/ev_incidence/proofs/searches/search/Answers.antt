use Rattle.std.proofs.Common.{◌∙◌, ap, arith, subst, List, ℕ, get_or, length}
use Rattle.ev_incidence.specs.Table.{row_at}
use Rattle.ev_incidence.specs.Reached.{TakesRows}
use Rattle.ev_incidence.proofs.Searching.{search_more, search_end}
use Rattle.ev_incidence.proofs.SortedTail.{searching_sorted}
use Rattle.ev_incidence.proofs.searches.search.Goals as goal

pub loop-at-preserved : goal.loop-at-preserved
loop-at-preserved c =
    let index = c.args.index.now in
    let rows = c.args.rows.now in
    let a = c.sort_wave-sorted.new.nodes.items in
    let b = c.loop-at.places.items in
    let d = c.take_rows.new.nodes.items in
    let e = c.take_rows.new.places.items in
    let at = c.loop-at.at in
    let own = c.row.ensures.row
    ∙ ap (λ (xs : List ℕ). row_at index (get_or xs at 0)) c.as_slice-in-loop-at.ensures.items in
    let P : List ℕ → Type 0 = λ us. TakesRows rows us a b d e in
    record {
      searching = search_more index rows c.args.starts.now at a b d e
          (omega (
            arith,
            ap length c.as_slice.ensures.items,
            c.sort_wave-sorted.ensures.sorted.count,
          ))
          (searching_sorted index rows c.args.starts.now at c.loop-at.nodes.items a b
          c.sort_wave-sorted.ensures.sorted c.loop-at.invariant.searching)
          (subst P own c.in_ok-take_rows.ensures.nodes);
      size = c.in_ok-take_rows.ensures.size ∙ (c.sort_wave-sorted.ensures.size
          ∙ c.loop-at.invariant.size);
      places_size = c.in_ok-take_rows.ensures.places_size ∙ c.loop-at.invariant.places_size;
    }

pub returns-clause-reach : goal.returns-clause-reach
returns-clause-reach c =
    search_end c.args.index.now c.args.rows.now c.args.starts.now c.loop-at.at c.loop-at.nodes.items
    c.loop-at.places.items (omega (arith, ap length c.as_slice.ensures.items))
    c.loop-at.invariant.searching
