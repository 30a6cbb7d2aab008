use Rattle.std.proofs.Common.{sym, subst, arith, List, ℕ}
use Rattle.ev_incidence.specs.Ranking.{ArePlacesStuck}
use Rattle.ev_incidence.proofs.Ranked.{ranked_all, stuck_cycle}
use Rattle.ev_incidence.proofs.ranks.are_ranked.Goals as goal

pub returns-in-Some-clause-cyclic : goal.returns-in-Some-clause-cyclic
returns-in-Some-clause-cyclic c =
    let v = c.args.table.now in
    let stuck = c.rank_all-ranked.ensures.stuck c.if-ranked-done.true in
    let P : List ℕ → Type 0 = λ rs. ArePlacesStuck v rs c.level_all.new.levels in
    stuck_cycle v c.rank_all-ranked.new.ranks c.level_all.new.levels c.in-Some.field-0
    c.requires.incidence
    (subst P (sym stuck.0) c.level_all.ensures.stuck) stuck.1
    (omega (arith, c.in-Some.ensures.some.0, c.rank_all-ranked.ensures.ranking.ranks_count))
    c.in-Some.ensures.some.1

pub returns-in-None-clause-ranked : goal.returns-in-None-clause-ranked
returns-in-None-clause-ranked c =
    ranked_all c.args.table.now c.rank_all-ranked.new.ranks c.level_all.new.levels
    c.rank_all-ranked.result c.requires.incidence
    c.rank_all-ranked.ensures.ranking (c.zero_at.ensures.none c.in-None.is)
