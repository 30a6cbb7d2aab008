-- Rate engines: when noting a moment fires, and which moments are kept.
use Rattle.std.specs.Prelude.{◌≡◌, ℕ, ◌-◌, ◌≤◌, ◌^◌, Bool, true, false, ◌&&◌, not, nat_le}
use Rattle.std.specs.Prelude.{IsTrue}
use Rattle.std.specs.Prelude.{List, [], ◌∷◌, ◌++◌, length, if◌then◌else◌, Option, None, Some}
use Rattle.std.specs.List.{list_all, count_by}
use Rattle.circular_buffer.specs.Buffer.{keep_last}

-- A rate engine: it fires where n moments lie within t nanoseconds; and the moments that are kept.
pub record RateOf : Type 0 where
  pub n : ℕ
  pub t : ℕ
  pub kept : List ℕ

abbrev pub rate_of : ℕ → ℕ → List ℕ → RateOf
rate_of n t kept = record { n = n; t = t; kept = kept }

-- a moment lies between m - t and m, both included; where t is greater than m, between 0 and m
abbrev pub lies_within : ℕ → ℕ → ℕ → Bool
lies_within t m x = nat_le (m - t) x && nat_le x m

-- whether noting the moment m fires, where these were noted since the last reset: at least n of
-- these and m lie within t
abbrev pub fires : ℕ → ℕ → List ℕ → ℕ → Bool
fires n t since m = nat_le n (count_by (lies_within t m) (since ++ m ∷ []))

-- the moments since the last reset, after the moment m was noted: firing is a reset
abbrev pub since_after : ℕ → ℕ → List ℕ → ℕ → List ℕ
since_after n t since m = if fires n t since m then [] else since ++ m ∷ []

-- the moments that are kept after the moment m was noted: the last n since the last reset
abbrev pub kept_after : ℕ → ℕ → List ℕ → ℕ → List ℕ
kept_after n t kept m = if fires n t kept m then [] else keep_last n (kept ++ m ∷ [])

-- there is a moment, and it is not below another
abbrev pub is_there_from : ℕ → Option ℕ → Bool
is_there_from low None = false
is_there_from low (Some x) = nat_le low x

-- whether moments do not fall, and none is below a moment
abbrev pub is_rising_from : ℕ → List ℕ → Bool
is_rising_from a [] = true
is_rising_from a (x ∷ xs) = nat_le a x && is_rising_from x xs

-- whether moments do not fall
abbrev pub is_rising : List ℕ → Bool
is_rising xs = is_rising_from 0 xs

-- whether none of some moments is past another
abbrev pub none_past : ℕ → List ℕ → Bool
none_past m xs = list_all (λ x. nat_le x m) xs

-- whether there are n moments, and none is more than t past the first
abbrev pub is_rate : ℕ → ℕ → List ℕ → Bool
is_rate n t [] = false
is_rate n t (x ∷ xs) = nat_le n (length (x ∷ xs)) && list_all (λ y. nat_le (y - x) t) xs

-- whether an engine can keep these moments: they do not fall, and at most n are kept, of which n do
-- not lie within t, since it would have fired
abbrev pub are_kept : ℕ → ℕ → List ℕ → Bool
are_kept n t kept = is_rising kept && (nat_le (length kept) n && not (is_rate n t kept))

-- the limits of an engine
pub record IsLimited (n t : ℕ) : Type 0 where
  pub some : 1 ≤ n
  pub few : n ≤ 1024
  pub some_time : 1 ≤ t
  pub time_fits : t ≤ 2 ^ 60

-- which of some moments fire, noted one after the other, by all moments since the last reset
abbrev pub fired_by_all : ℕ → ℕ → List ℕ → List ℕ → List Bool
fired_by_all n t since [] = []
fired_by_all n t since (m ∷ ms) =
    fires n t since m ∷ fired_by_all n t (since_after n t since m) ms

-- and by those that are kept alone
abbrev pub fired_by_kept : ℕ → ℕ → List ℕ → List ℕ → List Bool
fired_by_kept n t kept [] = []
fired_by_kept n t kept (m ∷ ms) = fires n t kept m ∷ fired_by_kept n t (kept_after n t kept m) ms

-- The last n moments decide as all do: noting m fires alike, and so does each of the moments that
-- are noted after it.
pub record LastDecide (n t : ℕ) (since ms : List ℕ) : Type 0 where
  pub fires_alike : fired_by_kept n t (keep_last n since) ms ≡ fired_by_all n t since ms

-- What an engine keeps after a moment can be kept, and none of it is past that moment or a later
-- one.
pub record StaysKept (n t : ℕ) (kept : List ℕ) (m : ℕ) : Type 0 where
  pub are : IsTrue (are_kept n t (kept_after n t kept m))
  pub not_past : (later : ℕ) → m ≤ later → IsTrue (none_past later (kept_after n t kept m))
