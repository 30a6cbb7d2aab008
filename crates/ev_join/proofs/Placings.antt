-- Where a list stands to another, and the order.
use Rattle.std.proofs.Common.{◌≡◌, ℕ, true, false, ◌==◌, nat_lt}
use Rattle.std.proofs.Common.{List}
use Rattle.std.proofs.Common.{[], ◌∷◌, ◌++◌, inl, inr, refl, arith, ap, ◌∙◌}
use Rattle.std.proofs.lemmas.Bool.{cases_Bool}
use Rattle.std.proofs.lemmas.Grind.{common_steps}
use Rattle.ev_join.specs.Order.{Placing, Before, Past, Begins, placing, is_placed_from}
use Rattle.ev_join.specs.Order.{is_not_before}
use Rattle.ev_join.specs.Order.{IsNotBefore, is_begun}

-- whether a list is not before others and a last one, by where it stands to the others
pub placed_from : (c k last : List ℕ)
    → is_not_before c (k ++ last) ≡ is_placed_from (placing c k) last
placed_from c [] last = refl
placed_from [] (y ∷ k) last = refl
placed_from (x ∷ c) (y ∷ k) last =
    let more = placed_from c k last in
    elim (cases_Bool (nat_lt y x)) [
      | inl past ↦ rw past
      | inr not_past ↦ elim (cases_Bool (nat_lt x y)) [
        | inl before ↦
            let other : (x == y) ≡ false = grind (arith, common_steps, before) in
            rw (not_past, before, other)
        | inr not_before ↦
            let same : (x == y) ≡ true = grind (arith, common_steps, not_past, not_before) in
            rw (not_past, not_before, same, more)
      ]
    ]

-- a list that begins with another
pub placing_begun : (k rest : List ℕ) → placing (k ++ rest) k ≡ Begins rest
placing_begun [] rest = refl
placing_begun (y ∷ k) rest =
    let no : nat_lt y y ≡ false = grind (arith, common_steps) in rw (no, placing_begun k rest)

pub placing_is : (c k rest : List ℕ) → placing c k ≡ Begins rest → c ≡ k ++ rest
placing_is c [] rest e = cc
placing_is [] (y ∷ k) rest e = absurd (let no : ⊥ = cc in no)
placing_is (x ∷ c) (y ∷ k) rest e =
    elim (cases_Bool (nat_lt y x)) [
      | inl past ↦ let f = rw past at e in absurd (let no : ⊥ = cc in no)
      | inr not_past ↦ elim (cases_Bool (nat_lt x y)) [
        | inl before ↦
            let f = rw (not_past, before) at e in absurd (let no : ⊥ = cc in no)
        | inr not_before ↦
            let f = rw (not_past, not_before) at e in
            let same : x ≡ y = grind (arith, common_steps, not_past, not_before) in
            ap (λ z. z ∷ c) same ∙ ap (λ r. y ∷ r) (placing_is c k rest f)
      ]
    ]

-- what stands between a list and one that begins with it begins with it
pub squeezed_begun : (k r rest : List ℕ) → IsNotBefore r k → IsNotBefore (k ++ rest) r
    → is_begun (placing r k) ≡ true
squeezed_begun [] r rest p q = refl
squeezed_begun (a ∷ k) [] rest p q = absurd p
squeezed_begun (a ∷ k) (b ∷ r) rest (inl l) (inl m) = absurd (omega (arith, l, m))
squeezed_begun (a ∷ k) (b ∷ r) rest (inl l) (inr (f, q)) = absurd (omega (arith, l, f))
squeezed_begun (a ∷ k) (b ∷ r) rest (inr (e, p)) (inl m) = absurd (omega (arith, e, m))
squeezed_begun (a ∷ k) (b ∷ r) rest (inr (e, p)) (inr (f, q)) =
    let more = squeezed_begun k r rest p q in
    let not_past : nat_lt a b ≡ false = grind (arith, common_steps, e) in
    let not_before : nat_lt b a ≡ false = grind (arith, common_steps, e) in
    rw (not_past, not_before, more)

-- the numbers that follow, where a list begins with another
pub record Begun (c k : List ℕ) : Type 0 where
  pub rest : List ℕ
  pub is : c ≡ k ++ rest

pub begun : (c k : List ℕ) → is_begun (placing c k) ≡ true → Begun c k
begun c k e = begun_as (placing c k) refl e where
  begun_as : (p : Placing) → placing c k ≡ p → is_begun p ≡ true → Begun c k
  begun_as Before is so = absurd (let no : ⊥ = cc in no)
  begun_as Past is so = absurd (let no : ⊥ = cc in no)
  begun_as (Begins rest) is so = record { rest = rest; is = placing_is c k rest is }
