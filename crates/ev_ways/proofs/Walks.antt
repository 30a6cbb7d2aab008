-- Lemmas on ways: one more step at the end, and ways turned round.
use Rattle.std.proofs.Common.{ℕ, zero, suc, ◌+◌, ◌<◌, List, refl, sym, subst, add-one}
use Rattle.ev_ways.specs.Lists.{RowsBelow}
use Rattle.ev_ways.specs.Ways.{Leads, Way, Comes, Reaches}

pub way_more : (causes effects : List (List ℕ)) (n x y z : ℕ) → Way causes effects n x y
    → Leads causes effects y z → Way causes effects (suc n) x z
way_more causes effects zero x y z w l =
    (z, (let P : ℕ → Type 0 = λ a. Leads causes effects a z in subst P (sym w) l), refl)
way_more causes effects (suc n) x y z (a, first, rest) l =
    (a, first, way_more causes effects n a y z rest l)

pub leads_back : {causes effects : List (List ℕ)} {x y : ℕ} → Leads causes effects x y
    → Leads effects causes y x
leads_back l = record { arrow = l.arrow; cause = l.effect; effect = l.cause }

pub way_back : (causes effects : List (List ℕ)) (n x y : ℕ) → Way causes effects n x y
    → Way effects causes n y x
way_back causes effects zero x y w = sym w
way_back causes effects (suc n) x y (a, first, rest) =
    way_more effects causes n y a x (way_back causes effects n a y rest) (leads_back first)

-- a node on a cycle has a next one on it
pub cycle_next : (causes effects : List (List ℕ)) (x : ℕ) → Reaches causes effects x x → (y : ℕ)
    × Leads causes effects x y × Reaches causes effects y y
cycle_next causes effects x (n, (y, first, rest)) =
    (y, first, (n, way_more causes effects n y x y rest first))

pub reaches_back : (causes effects : List (List ℕ)) (x : ℕ) → Reaches causes effects x x
    → Reaches effects causes x x
reaches_back causes effects x (n, w) = (n, way_back causes effects (suc n) x x w)

pub comes_more : (causes effects : List (List ℕ)) (starts : List ℕ) (n y z : ℕ)
    → Comes causes effects starts n y → Leads causes effects y z
    → Comes causes effects starts (n + 1) z
comes_more causes effects starts n y z (s, start, w) l =
    (s, start, rw add-one (way_more causes effects n s y z w l))

-- a node that leads on is one of those of which arrows speak
pub reaches_within : (causes effects : List (List ℕ)) (n x : ℕ) → RowsBelow n causes
    → Reaches causes effects x x → x < n
reaches_within causes effects n x below (m, (y, first, rest)) =
    let P : ℕ → Type 0 = λ z. z < n in
    subst P first.cause.stands (below first.arrow first.cause.place first.cause.within)
