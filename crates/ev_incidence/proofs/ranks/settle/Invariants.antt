use Rattle.ev_incidence.specs.Ranking.{IsRanking}
use Rattle.ev_incidence.proofs.ranks.settle.Given as goal

abbrev pub invariant-loop-place : goal.invariant-loop-place
invariant-loop-place l = IsRanking l.table l.ranks l.levels l.done
