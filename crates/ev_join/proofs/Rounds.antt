-- Rounds over the tables: each is asked for the least number with which it goes on.
use Rattle.std.proofs.Common.{◌≡◌, ◌<◌, ◌≤◌, ◌+◌, ℕ, List, [], ◌∷◌, ◌++◌, length, slice_get}
use Rattle.std.proofs.Common.{inl, inr, arith, ap, sym, ◌∙◌, subst, Some, None, ◌==◌}
use Rattle.std.proofs.lemmas.Bool.{cases_Bool}
use Rattle.std.proofs.lemmas.Grind.{common_steps}
use Rattle.std.proofs.lemmas.Option.{slice_get_within}
use Rattle.ev_join.specs.Tables.{TableValue, HasRow, bound_values}
use Rattle.ev_join.specs.Candidates.{HasRows}
use Rattle.ev_join.specs.Search.{IsLeastFrom, IsRound, GoesOn}

-- what a table says of a number behind a beginning
abbrev pub TableGoes : TableValue → List ℕ → ℕ → Type 0
TableGoes t front z = HasRow t.rows (bound_values t.columns (front ++ z ∷ []))

-- the tables below i were asked from x on, and v is the greatest answer
pub record Asked (tables : List TableValue) (front : List ℕ) (x i v : ℕ) : Type 0 where
  pub from : x ≤ v
  pub least : (z : ℕ) → x ≤ z → HasRows tables (front ++ z ∷ []) → v ≤ z
  pub held : v ≡ x → (j : ℕ) (t : TableValue) → j < i → slice_get tables j ≡ Some t
      → TableGoes t front x

pub asked_more : (tables : List TableValue) (front : List ℕ) (x i v w : ℕ) (t : TableValue)
    → slice_get tables i ≡ Some t → Asked tables front x i v
    → IsLeastFrom (TableGoes t front) v (Some w) → Asked tables front x (i + 1) w
asked_more tables front x i v w t stands h least = record {
  from = omega (arith, h.from, least.0);
  least = λ z le fits. least.1.1 z (h.least z le fits) (fits.each i t stands);
  held = λ same j u below at. elim (cases_Bool (j == i)) [
    | inl so ↦
        let here : j ≡ i = grind (arith, common_steps, so) in
        let is : Some u ≡ Some t = sym at ∙ ap (slice_get tables) here ∙ stands in
        let equal : u ≡ t = cc in
        subst (λ (y : TableValue). TableGoes y front x) (sym equal)
        (subst (TableGoes t front) same least.1.0)
    | inr not_so ↦
        let less : j < i = grind (arith, common_steps, not_so, below) in
        let old : v ≡ x = omega (arith, h.from, least.0, same) in h.held old j u less at
  ];
}

pub asked_none : (tables : List TableValue) (front : List ℕ) (x i v : ℕ) (t : TableValue)
    → slice_get tables i ≡ Some t → Asked tables front x i v
    → IsLeastFrom (TableGoes t front) v None → IsRound tables front x None
asked_none tables front x i v t stands h none z le fits =
    none z (h.least z le fits) (fits.each i t stands)

pub asked_all : (tables : List TableValue) (front : List ℕ) (x i v : ℕ) → length tables ≤ i
    → Asked tables front x i v → IsRound tables front x (Some v)
asked_all tables front x i v all h = (
  h.from,
  (
    h.least,
    λ same. record {
      each = λ j t at. h.held same j t
          (let within = slice_get_within tables j t at in omega (arith, within, all)) at;
    },
  ),
)

-- rounds up to a number that all tables hold, or past all numbers
pub record Sought (tables : List TableValue) (front : List ℕ) (x v : ℕ) : Type 0 where
  pub from : x ≤ v
  pub least : (z : ℕ) → x ≤ z → GoesOn tables front z → v ≤ z

pub sought_more : (tables : List TableValue) (front : List ℕ) (x v w : ℕ) → Sought tables front x v
    → IsRound tables front v (Some w) → Sought tables front x w
sought_more tables front x v w h r = record {
  from = omega (arith, h.from, r.0);
  least = λ z le goes. r.1.0 z (h.least z le goes) goes.fits;
}

pub sought_none : (tables : List TableValue) (front : List ℕ) (x v : ℕ) → Sought tables front x v
    → IsRound tables front v None → IsLeastFrom (GoesOn tables front) x None
sought_none tables front x v h r z le goes = r z (h.least z le goes) goes.fits

pub sought_past : (tables : List TableValue) (front : List ℕ) (x v : ℕ) → 4294967296 ≤ v
    → Sought tables front x v → IsLeastFrom (GoesOn tables front) x None
sought_past tables front x v past h z le goes = omega (arith, past, h.least z le goes, goes.small)

pub sought_here : (tables : List TableValue) (front : List ℕ) (x v w : ℕ) → v < 4294967296
    → Sought tables front x v → IsRound tables front v (Some w) → w ≡ v
    → IsLeastFrom (GoesOn tables front) x (Some v)
sought_here tables front x v w small h r same =
    (h.from, (record { small = small; fits = r.1.1 same }, h.least))
