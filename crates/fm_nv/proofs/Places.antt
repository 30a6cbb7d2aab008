-- The pairs of a list by their places.
use Rattle.std.proofs.Common.{Bool, true, false, ◌||◌, bytes_eq, Option, Some, is_some}
use Rattle.std.proofs.Common.{if◌then◌else◌, ◌≡◌, ℕ, zero, suc, ◌+◌, ◌<◌, ◌≤◌, List, [], ◌∷◌}
use Rattle.std.proofs.Common.{length, get_or, refl, ap, arith, subst}
use Rattle.fm_nv.specs.Data.{Pairs, Data, no_pairs, pair, count, has, find, lists_of, lists_count}
use Rattle.fm_nv.specs.Data.{lists_depth, depth, data_depth, name_at, value_at, from}

-- a value of a list is less deep than the list
pub value_at-smaller : (ps : Pairs) (n : ℕ) → n < count ps → data_depth (value_at n ps) < depth ps
value_at-smaller no_pairs n h = absurd (omega arith)
value_at-smaller (pair k d ps) zero h = omega arith
value_at-smaller (pair k d ps) (suc n) h = let ih = value_at-smaller ps n (omega arith) in
    omega (arith, ih)

from_suc : (ps : Pairs) (n : ℕ) → n < count ps
    → from n ps ≡ pair (name_at n ps) (value_at n ps) (from (suc n) ps)
from_suc no_pairs n h = absurd (omega arith)
from_suc (pair k d no_pairs) zero h = refl
from_suc (pair k d (pair j e ps)) zero h = refl
from_suc (pair k d ps) (suc n) h = from_suc ps n (omega arith)

-- the pairs from a place on begin with the pair at that place
pub from_step : (ps : Pairs) (n : ℕ) → n < count ps
    → from n ps ≡ pair (name_at n ps) (value_at n ps) (from (n + 1) ps)
from_step ps n h =
    let e : suc n ≡ n + 1 = omega arith in
    subst (λ (m : ℕ). from n ps ≡ pair (name_at n ps) (value_at n ps) (from m ps)) e
    (from_suc ps n h)

-- past the end there is nothing
pub from_end : (ps : Pairs) → from (count ps) ps ≡ no_pairs
from_end no_pairs = refl
from_end (pair k d ps) = from_end ps

-- from the first place on there are all
pub from_zero : (ps : Pairs) (n : ℕ) → n ≡ 0 → from n ps ≡ ps
from_zero no_pairs n h = refl
from_zero (pair k d ps) zero h = refl
from_zero (pair k d ps) (suc n) h = absurd (omega arith)

or_found : (b : Bool) (d : Data) (rest : Option Data) (there : Bool) → there ≡ is_some rest
    → (b || there) ≡ is_some (if b then Some d else rest)
or_found true d rest there h = refl
or_found false d rest there h = h

-- a name is there where a value is found at it
pub has_found : (name : List ℕ) (ps : Pairs) → has name ps ≡ is_some (find name ps)
has_found name no_pairs = refl
has_found name (pair k d ps) =
    or_found (bytes_eq k name) d (find name ps) (has name ps) (has_found name ps)

-- a list of no pair
pub none_there : (ps : Pairs) → count ps ≡ 0 → ps ≡ no_pairs
none_there no_pairs h = refl
none_there (pair k d ps) h = absurd (omega arith)

pub from_past : (ps : Pairs) (n : ℕ) → count ps ≤ n → from n ps ≡ no_pairs
from_past no_pairs n h = refl
from_past (pair k d ps) zero h = absurd (omega arith)
from_past (pair k d ps) (suc n) h = from_past ps n (omega arith)

-- an array has as many lists as items
pub lists_count_of : (xs : List Pairs) → lists_count (lists_of xs) ≡ length xs
lists_count_of [] = refl
lists_count_of (x ∷ xs) = ap suc (lists_count_of xs)

-- a list of an array is no deeper than the array
pub list_smaller : (xs : List Pairs) (n : ℕ) (p : Pairs) → n < length xs → p ≡ get_or xs n p
    → depth p ≤ lists_depth (lists_of xs)
list_smaller [] n p h e = absurd (omega arith)
list_smaller (x ∷ xs) zero p h e = omega (arith, ap depth e)
list_smaller (x ∷ xs) (suc n) p h e = let ih = list_smaller xs n p (omega arith) e in
    omega (arith, ih)

-- a list is at least one deep
pub depth_positive : (ps : Pairs) → 1 ≤ depth ps
depth_positive no_pairs = omega arith
depth_positive (pair k d ps) = omega arith
