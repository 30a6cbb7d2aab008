use Rattle.std.proofs.Common.{◌-◌, length}
use Rattle.ev_incidence.specs.Ranking.{IsRanking}
use Rattle.ev_incidence.proofs.ranks.are_ranked.Given as goal

abbrev pub invariant-loop-done : goal.invariant-loop-done
invariant-loop-done l = IsRanking l.table l.ranks l.levels l.done

abbrev pub decreases-loop-done : goal.decreases-loop-done
decreases-loop-done l = length l.fn.ranks - l.done
