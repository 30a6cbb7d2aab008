-- The order of lists of numbers, and lists that go on from others.
use Rattle.std.proofs.Common.{◌≡◌, ◌<◌, ◌≤◌, ◌+◌, ◌⊎◌, ℕ, true, nat_lt}
use Rattle.std.proofs.Common.{List}
use Rattle.std.proofs.Common.{[], ◌∷◌, ◌++◌, length, inl, inr, refl, arith, ap, ◌∙◌}
use Rattle.std.proofs.lemmas.Bool.{cases_Bool}
use Rattle.std.proofs.lemmas.Grind.{common_steps}
use Rattle.ev_join.specs.Order.{IsNotBefore, is_not_before}

-- ---- the order
pub not_before_itself : (r : List ℕ) → IsNotBefore r r
not_before_itself [] = tt
not_before_itself (x ∷ r) = inr (refl, not_before_itself r)

pub not_before_trans : (c b a : List ℕ) → IsNotBefore c b → IsNotBefore b a → IsNotBefore c a
not_before_trans c b [] p q = tt
not_before_trans c [] (z ∷ a) p q = absurd q
not_before_trans [] (y ∷ b) (z ∷ a) p q = absurd p
not_before_trans (x ∷ c) (y ∷ b) (z ∷ a) (inl l) (inl m) = inl (omega (arith, l, m))
not_before_trans (x ∷ c) (y ∷ b) (z ∷ a) (inl l) (inr (f, m)) = inl (omega (arith, l, f))
not_before_trans (x ∷ c) (y ∷ b) (z ∷ a) (inr (e, l)) (inl m) = inl (omega (arith, e, m))
not_before_trans (x ∷ c) (y ∷ b) (z ∷ a) (inr (e, l)) (inr (f, m)) =
    inr (e ∙ f, not_before_trans c b a l m)

-- the test and what it tests
pub from_test : (c b : List ℕ) → is_not_before c b ≡ true → IsNotBefore c b
from_test c [] e = tt
from_test [] (y ∷ b) e = absurd (let no : ⊥ = cc in no)
from_test (x ∷ c) (y ∷ b) e =
    elim (cases_Bool (nat_lt y x)) [
      | inl less ↦ inl (grind (arith, common_steps, less))
      | inr other ↦
          let both : (x ≡ y) × (is_not_before c b ≡ true) = grind (arith, common_steps, other, e) in
          inr (both.0, from_test c b both.1)
    ]

pub to_test : (c b : List ℕ) → IsNotBefore c b → is_not_before c b ≡ true
to_test c [] p = refl
to_test [] (y ∷ b) p = absurd p
to_test (x ∷ c) (y ∷ b) (inl l) = grind (arith, common_steps, l)
to_test (x ∷ c) (y ∷ b) (inr (e, p)) =
    let more = to_test c b p in grind (arith, common_steps, e, more)

-- a list behind another in the middle of it, whatever follows
abbrev pub IsPast : List ℕ → List ℕ → Type 0
IsPast c [] = ⊥
IsPast [] (y ∷ q) = ⊥
IsPast (x ∷ c) (y ∷ q) = (y < x) ⊎ ((x ≡ y) × IsPast c q)

-- a list that begins with another and goes on with a number at least so large
pub record GoesFrom (c q : List ℕ) (y : ℕ) : Type 0 where
  pub value : ℕ
  pub more : List ℕ
  pub is : c ≡ q ++ value ∷ more
  pub from : y ≤ value

-- a list that is not before another and a number is past the other, or goes on from there
pub parts : (q c : List ℕ) (y : ℕ) → IsNotBefore c (q ++ y ∷ []) → IsPast c q ⊎ GoesFrom c q y
parts [] [] y p = absurd p
parts [] (x ∷ c) y (inl l) =
    inr (record { value = x; more = c; is = refl; from = omega (arith, l) })
parts [] (x ∷ c) y (inr (e, p)) =
    inr (record { value = x; more = c; is = refl; from = omega (arith, e) })
parts (a ∷ q) [] y p = absurd p
parts (a ∷ q) (x ∷ c) y (inl l) = inl (inl l)
parts (a ∷ q) (x ∷ c) y (inr (e, p)) = elim (parts q c y p) [
  | inl past ↦ inl (inr (e, past))
  | inr goes ↦ inr (record {
    value = goes.value;
    more = goes.more;
    is = ap (λ z. z ∷ c) e ∙ ap (λ r. a ∷ r) goes.is;
    from = goes.from;
  })
]

pub past_any : (q c ys : List ℕ) → IsPast c q → IsNotBefore c (q ++ ys)
past_any [] c ys p = absurd p
past_any (a ∷ q) [] ys p = absurd p
past_any (a ∷ q) (x ∷ c) ys (inl l) = inl l
past_any (a ∷ q) (x ∷ c) ys (inr (e, p)) = inr (e, past_any q c ys p)

-- a list that begins with another is not before it
pub goes_all : (q more : List ℕ) → IsNotBefore (q ++ more) q
goes_all [] more = tt
goes_all (a ∷ q) more = inr (refl, goes_all q more)

-- a list that goes on with a number at least so large is not before
pub goes_any : (q more : List ℕ) (y z : ℕ) → y ≤ z → IsNotBefore (q ++ z ∷ more) (q ++ y ∷ [])
goes_any [] more y z le = elim (cases_Bool (nat_lt y z)) [
  | inl less ↦ inl (grind (arith, common_steps, less))
  | inr other ↦
      let same : z ≡ y = grind (arith, common_steps, other, le) in inr (same, tt)
]
goes_any (a ∷ q) more y z le = inr (refl, goes_any q more y z le)

pub goes_back : (c q : List ℕ) (y : ℕ) → GoesFrom c q y → IsNotBefore c (q ++ y ∷ [])
goes_back c q y g = rw g.is (goes_any q g.more y g.value g.from)

-- the last number raised by one
pub raised : (q c : List ℕ) (x : ℕ) → IsPast c (q ++ x ∷ []) → IsNotBefore c (q ++ (x + 1) ∷ [])
raised [] [] x p = absurd p
raised [] (z ∷ c) x (inl l) = goes_any [] c (x + 1) z (omega (arith, l))
raised [] (z ∷ c) x (inr (e, p)) = absurd p
raised (a ∷ q) [] x p = absurd p
raised (a ∷ q) (z ∷ c) x (inl l) = inl l
raised (a ∷ q) (z ∷ c) x (inr (e, p)) = inr (e, raised q c x p)

pub lowered : (q c ys : List ℕ) (x : ℕ) → IsNotBefore c (q ++ (x + 1) ∷ [])
    → IsNotBefore c (q ++ x ∷ ys)
lowered [] [] ys x p = absurd p
lowered [] (z ∷ c) ys x (inl l) = inl (omega (arith, l))
lowered [] (z ∷ c) ys x (inr (e, p)) = inl (omega (arith, e))
lowered (a ∷ q) [] ys x p = absurd p
lowered (a ∷ q) (z ∷ c) ys x (inl l) = inl l
lowered (a ∷ q) (z ∷ c) ys x (inr (e, p)) = inr (e, lowered q c ys x p)

-- a longer list that is not before another is not before it with a 0 behind it
pub deeper : (q c : List ℕ) → length q < length c → IsNotBefore c q → IsNotBefore c (q ++ 0 ∷ [])
deeper [] [] less p = absurd (omega (arith, less))
deeper [] (z ∷ c) less p = goes_any [] c 0 z (omega arith)
deeper (a ∷ q) [] less p = absurd p
deeper (a ∷ q) (z ∷ c) less (inl l) = inl l
deeper (a ∷ q) (z ∷ c) less (inr (e, p)) = inr (e, deeper q c (omega (arith, less)) p)

pub shallower : (q c ys : List ℕ) → IsNotBefore c (q ++ ys) → IsNotBefore c q
shallower [] c ys p = tt
shallower (a ∷ q) [] ys p = absurd p
shallower (a ∷ q) (z ∷ c) ys (inl l) = inl l
shallower (a ∷ q) (z ∷ c) ys (inr (e, p)) = inr (e, shallower q c ys p)

-- what stands between two lists that begin with k begins with k
pub record Squeezed (k r : List ℕ) (x z : ℕ) : Type 0 where
  pub value : ℕ
  pub more : List ℕ
  pub is : r ≡ k ++ value ∷ more
  pub from : x ≤ value
  pub to : value ≤ z

pub squeeze : (k r rest : List ℕ) (x z : ℕ) → IsNotBefore r (k ++ x ∷ [])
    → IsNotBefore (k ++ z ∷ rest) r → Squeezed k r x z
squeeze [] [] rest x z p q = absurd p
squeeze [] (v ∷ r) rest x z p q =
    let low : x ≤ v = elim p [
      | inl l ↦ omega (arith, l)
      | inr same ↦ omega (arith, same.0)
    ] in
    let high : v ≤ z = elim q [
      | inl l ↦ omega (arith, l)
      | inr same ↦ omega (arith, same.0)
    ] in
    record { value = v; more = r; is = refl; from = low; to = high }
squeeze (a ∷ k) [] rest x z p q = absurd p
squeeze (a ∷ k) (b ∷ r) rest x z (inl l) (inl m) = absurd (omega (arith, l, m))
squeeze (a ∷ k) (b ∷ r) rest x z (inl l) (inr (f, q)) = absurd (omega (arith, l, f))
squeeze (a ∷ k) (b ∷ r) rest x z (inr (e, p)) (inl m) = absurd (omega (arith, e, m))
squeeze (a ∷ k) (b ∷ r) rest x z (inr (e, p)) (inr (f, q)) =
    let s = squeeze k r rest x z p q in
    record {
      value = s.value;
      more = s.more;
      is = ap (λ y. y ∷ r) e ∙ ap (λ y. a ∷ y) s.is;
      from = s.from;
      to = s.to;
    }
