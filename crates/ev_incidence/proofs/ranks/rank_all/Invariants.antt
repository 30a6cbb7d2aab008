use Rattle.std.proofs.Common.{◌≡◌, ◌<◌, ◌≤◌, ℕ, slice_index}
use Rattle.ev_incidence.specs.Table.{row_at}
use Rattle.ev_incidence.specs.Ranking.{IsRanking, LacksOne}
use Rattle.ev_incidence.proofs.ranks.rank_all.Given as goal

abbrev pub invariant-loop-node : goal.invariant-loop-node
invariant-loop-node l = record {
  ranking : IsRanking l.table l.ranks l.levels l.done_now;
  more : l.done ≤ l.done_now;
  same : l.done_now ≡ l.done → l.ranks ≡ l.initial.ranks;
  stuck : l.done_now ≡ l.done → (x : ℕ) → x < l.node → slice_index l.ranks x ≡ 0
      → LacksOne (row_at l.table.gets x) l.levels;
}
