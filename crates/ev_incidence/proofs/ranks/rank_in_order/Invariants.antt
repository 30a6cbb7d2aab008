use Rattle.ev_incidence.specs.Ranking.{IsRanking}
use Rattle.ev_incidence.proofs.ranks.rank_in_order.Given as goal

abbrev pub invariant-loop-at : goal.invariant-loop-at
invariant-loop-at l = IsRanking l.table l.ranks l.levels l.done
