use Rattle.std.proofs.Common.{◌≡◌, ◌<◌, ℕ, slice_index}
use Rattle.ev_incidence.specs.Table.{row_at}
use Rattle.ev_incidence.specs.Ranking.{IsRanking, LacksOne}
use Rattle.ev_incidence.proofs.ranks.level_all.Given as goal

abbrev pub invariant-loop-place : goal.invariant-loop-place
invariant-loop-place l = record {
  ranking : IsRanking l.table l.ranks l.levels l.done;
  stuck : (j : ℕ) → j < l.place → slice_index l.levels j ≡ 0
      → LacksOne (row_at l.table.causes j) l.ranks;
}
