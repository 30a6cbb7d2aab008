use Rattle.std.proofs.Common.{arith, get_or-set_same}
use Rattle.ev_incidence.proofs.Ranked.{level_given, most_positive}
use Rattle.ev_incidence.proofs.ranks.level_place.Goals as goal

pub returns-in-Some-clause-ranking : goal.returns-in-Some-clause-ranking
returns-in-Some-clause-ranking c =
    level_given c.args.table.now c.args.ranks.now c.args.levels.now c.args.done c.args.place
    c.in-Some.most c.requires.ranking c.requires.place (omega arith)
    (rw c.causes.ensures.causes at c.in-Some.ensures)

pub returns-in-Some-clause-stuck : goal.returns-in-Some-clause-stuck
returns-in-Some-clause-stuck c =
    λ none. absurd (omega (
      arith,
      none,
      get_or-set_same c.args.levels.now c.args.place c.in-Some.most 0
          c.requires.place,
      most_positive c.args.table.now c.args.ranks.now c.args.place c.in-Some.most
          (c.requires.causes.each c.args.place
          (omega (arith, c.requires.place, c.requires.ranking.levels_count)))
          (rw c.causes.ensures.causes at c.in-Some.ensures),
    ))
