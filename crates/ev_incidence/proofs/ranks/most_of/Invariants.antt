use Rattle.std.proofs.Common.{take}
use Rattle.ev_incidence.specs.Ranking.{IsMost}
use Rattle.ev_incidence.proofs.ranks.most_of.Given as goal

abbrev pub invariant-loop-number : goal.invariant-loop-number
invariant-loop-number l = IsMost (take l.number-index l.numbers) l.values l.most
