-- The names from the place on are distinct, and are those of the set.
use Rattle.std.proofs.Common.{◌≡◌, ◌≤◌, ℕ, List, true, Bor, nat_cmp}
use Rattle.std.specs.BTreeSet.{contains}
use Rattle.std.specs.Cmp.Lexicographic.{slice_cmp}
use Rattle.fm_nv.specs.Data.{count, from, has}
use Rattle.fm_nv.specs.Spelled.{distinct}
use Rattle.fm_nv.proofs.distinct.are_distinct.Given as goal

abbrev pub invariant-pairs : goal.invariant-pairs
invariant-pairs l =
    (l.at ≤ count l.pairs)
    × ((q : Bor (List ℕ))
    → contains (λ a b. slice_cmp nat_cmp a.now b.now) l.behind q
    ≡ has q.now (from l.at l.pairs))
    × (distinct (from l.at l.pairs) ≡ true)

abbrev pub decreases-pairs : goal.decreases-pairs
decreases-pairs l = l.at
