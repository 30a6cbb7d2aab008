-- The search for the first candidate from a list of numbers on.
use Rattle.std.specs.Prelude.{◌≡◌, ℕ, ◌<◌, ◌≤◌, ◌+◌, ◌*◌, ◌-◌, zero, suc, List}
use Rattle.std.specs.Prelude.{[], ◌∷◌, ◌++◌, length, Option, Some, None, true, false, not}
use Rattle.std.specs.List.{AllWithin}
use Rattle.ev_join.specs.declared.table.Row.{Row}
use Rattle.ev_join.specs.Order.{IsNotBefore, AreSmall, is_not_before}
use Rattle.ev_join.specs.Tables.{TableValue}
use Rattle.ev_join.specs.Candidates.{HasRows, IsJoined}

-- the least number from x on that has P; none has it
abbrev pub IsLeastFrom : (ℕ → Type 0) → ℕ → Option ℕ → Type 0
IsLeastFrom P x None = (z : ℕ) → x ≤ z → P z → ⊥
IsLeastFrom P x (Some v) = (x ≤ v) × (P v × ((z : ℕ) → x ≤ z → P z → v ≤ z))

-- the rows before a place are before some numbers, and none of those from it on is
pub record IsFirstFrom (rows : List Row) (values : List ℕ) (at : ℕ) : Type 0 where
  pub within : at ≤ length rows
  pub before : AllWithin (λ (r : Row). not (is_not_before r.values values) ≡ true) rows 0 at
  pub from : AllWithin (λ (r : Row). not (is_not_before r.values values) ≡ false) rows at
      (length rows)

-- the beginning of a binding, with one more number
pub record GoesOn (tables : List TableValue) (front : List ℕ) (z : ℕ) : Type 0 where
  pub small : z < 4294967296
  pub fits : HasRows tables (front ++ z ∷ [])

-- what asking each table once comes to: no number from x on goes on with all; or none below v does,
-- and x does where it is v
abbrev pub IsRound : List TableValue → List ℕ → ℕ → Option ℕ → Type 0
IsRound tables front x None = (z : ℕ) → x ≤ z → HasRows tables (front ++ z ∷ []) → ⊥
IsRound tables front x (Some v) =
    (x ≤ v) × (((z : ℕ) → x ≤ z → HasRows tables (front ++ z ∷ []) → v ≤ z)
    × (v ≡ x → HasRows tables (front ++ x ∷ [])))

-- the beginning of a binding that fits, with room for a number from which to go on
pub record IsOpen (tables : List TableValue) (n : ℕ) (front : List ℕ) (value : ℕ) : Type 0 where
  pub short : length front < n
  pub small : AreSmall front
  pub room : value ≤ 4294967296
  pub fits : HasRows tables front

-- the first candidate from a list on
pub record IsFirstCandidate (tables : List TableValue) (n : ℕ) (old b : List ℕ) : Type 0 where
  pub candidate : IsJoined tables n b
  pub from : IsNotBefore b old
  pub least : (c : List ℕ) → IsJoined tables n c → IsNotBefore c old → IsNotBefore c b

-- there is none
pub record HasNoCandidate (tables : List TableValue) (n : ℕ) (old : List ℕ) : Type 0 where
  pub none : (c : List ℕ) → IsJoined tables n c → IsNotBefore c old → ⊥

-- the same candidates stand from either list on
pub record MovesTo (tables : List TableValue) (n : ℕ) (old new : List ℕ) : Type 0 where
  pub on : (c : List ℕ) → IsJoined tables n c → IsNotBefore c old → IsNotBefore c new
  pub back : (c : List ℕ) → IsJoined tables n c → IsNotBefore c new → IsNotBefore c old

-- how many beginnings of n numbers there are at most from a list on: a bound on the steps of a
-- search
abbrev pub lists : ℕ → ℕ
lists zero = 1
lists (suc n) = 4294967298 * lists n

abbrev pub steps_left : ℕ → List ℕ → ℕ
steps_left n [] = lists n
steps_left zero (x ∷ b) = 0
steps_left (suc n) (x ∷ b) = (4294967296 - x) * lists n + steps_left n b

-- the last number is taken off, and the value is the next one
pub record IsRaised (old new : List ℕ) (value : ℕ) : Type 0 where
  pub last : ℕ
  pub was : old ≡ new ++ last ∷ []
  pub next : value ≡ last + 1
