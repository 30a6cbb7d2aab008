use Rattle.std.proofs.Common.{◌≡◌, take}
use Rattle.ev_incidence.specs.Reached.{TakesRows}
use Rattle.ev_incidence.proofs.searches.take_rows.Given as goal

abbrev pub invariant-loop-place : goal.invariant-loop-place
invariant-loop-place l = record {
  taken : TakesRows l.rows (take l.place-index l.own) l.initial.nodes.items l.initial.places.items
      l.nodes.items l.places.items;
  size : l.nodes.size ≡ l.initial.nodes.size;
  places_size : l.places.size ≡ l.initial.places.size;
}
