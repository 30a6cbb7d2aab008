use Rattle.std.proofs.Common.{◌∙◌, arith}
use Rattle.ev_incidence.proofs.Searching.{rows_more}
use Rattle.ev_incidence.proofs.searches.take_rows.Goals as goal

pub loop-place-preserved : goal.loop-place-preserved
loop-place-preserved c = record {
  taken = rows_more c.args.rows.now c.args.own.now c.args.nodes.now.items c.args.places.now.items
      c.loop-place.nodes.items c.loop-place.places.items
      c.take_row.new.nodes.items c.take_row.new.places.items c.loop-place.place-index (omega arith)
      c.loop-place.invariant.taken
      c.in_ok-take_row.ensures.nodes c.in_ok-take_row.ensures.there;
  size = c.in_ok-take_row.ensures.size ∙ c.loop-place.invariant.size;
  places_size = c.in_ok-take_row.ensures.places_size ∙ c.loop-place.invariant.places_size;
}
