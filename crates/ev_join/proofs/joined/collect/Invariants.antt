use Rattle.std.proofs.Common.{◌≡◌, ◌+◌, sum_by}
use Rattle.ev_join.specs.Candidates.{links_at}
use Rattle.ev_join.proofs.Collecting.{Collected}
use Rattle.ev_join.proofs.joined.collect.Given as goal

-- the candidates so far, and what their links leave of the limit
abbrev pub invariant-candidates : goal.invariant-candidates
invariant-candidates l = record {
  collected : Collected l.tables l.count l.front.items l.value l.bindings;
  linked : l.left + sum_by (links_at l.tables) l.bindings ≡ l.limit;
}

abbrev pub decreases-candidates : goal.decreases-candidates
decreases-candidates l = l.left
