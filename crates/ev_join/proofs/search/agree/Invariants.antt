use Rattle.std.proofs.Common.{◌-◌}
use Rattle.ev_join.proofs.Rounds.{Sought}
use Rattle.ev_join.proofs.search.agree.Given as goal

abbrev pub invariant-rounds : goal.invariant-rounds
invariant-rounds l = Sought l.tables l.front l.value l.least

abbrev pub decreases-rounds : goal.decreases-rounds
decreases-rounds l = 4294967296 - l.least
