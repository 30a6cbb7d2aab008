use Rattle.std.proofs.Common.{◌≡◌, ◌-◌}
use Rattle.ev_incidence.specs.Reached.{IsSearching}
use Rattle.ev_incidence.proofs.searches.search.Given as goal

abbrev pub invariant-loop-at : goal.invariant-loop-at
invariant-loop-at l = record {
  searching : IsSearching l.index l.rows l.starts l.at l.nodes.items l.places.items;
  size : l.nodes.size ≡ l.fn.nodes.size;
  places_size : l.places.size ≡ l.fn.places.size;
}

abbrev pub decreases-loop-at : goal.decreases-loop-at
decreases-loop-at l = l.nodes.size - l.at
