-- Bindings that are put in order: some list has them in order, and where no two are the same it
-- ascends.
use Rattle.std.specs.Prelude.{⊤}
use Rattle.std.proofs.Common.{◌≡◌, ◌<◌, ◌&&◌, ℕ, zero, suc, Bool, true, false, ◌==◌, List}
use Rattle.std.proofs.Common.{[], ◌∷◌, slice_get, get_or, Some, Contains, IsPermutation}
use Rattle.std.proofs.Common.{inl, inr, refl, sym, ap, ◌∙◌, subst, arith, if◌then◌else◌}
use Rattle.std.specs.List.{IsDistinct}
use Rattle.std.proofs.lemmas.Bool.{cases_Bool}
use Rattle.std.proofs.lemmas.Grind.{common_steps}
use Rattle.std.proofs.lemmas.List.Sorted.{Contains-permutation, IsPermutation-cons}
use Rattle.std.proofs.lemmas.List.Sorted.{IsPermutation-middle, IsPermutation-refl}
use Rattle.std.proofs.lemmas.List.Sorted.{IsPermutation-sym, IsPermutation-trans}
use Rattle.std.proofs.lemmas.Map.Keys.{IsDistinct-IsPermutation, IsDistinct-from_apart}
use Rattle.std.proofs.lemmas.Map.Keys.{apart_from_distinct}
use Rattle.std.proofs.lemmas.Option.{get_or_from_slice_get, slice_get-get_or, slice_get_within}
use Rattle.ev_join.specs.Order.{IsNotBefore, is_not_before}
use Rattle.ev_join.specs.Candidates.{AreInOrder, IsAmong}
use Rattle.ev_join.proofs.Ordering.{from_test, not_before_trans, to_test}

-- ---- the order is total
pub not_before_other : (c b : List ℕ) → is_not_before c b ≡ false → IsNotBefore b c
not_before_other c [] e = absurd (let no : ⊥ = cc in no)
not_before_other [] (y ∷ b) e = tt
not_before_other (x ∷ c) (y ∷ b) e = elim (cases_Bool (x == y)) [
  | inl so ↦
      let same : y ≡ x = grind (arith, common_steps, so) in
      let more : is_not_before c b ≡ false = grind (arith, common_steps, e, so) in
      inr (same, not_before_other c b more)
  | inr not_so ↦ inl (grind (arith, common_steps, e, not_so))
]

pub not_before_both : (c b : List ℕ) → IsNotBefore c b → IsNotBefore b c → c ≡ b
not_before_both [] [] p q = refl
not_before_both [] (y ∷ b) p q = absurd p
not_before_both (x ∷ c) [] p q = absurd q
not_before_both (x ∷ c) (y ∷ b) (inl l) (inl m) = absurd (omega (arith, l, m))
not_before_both (x ∷ c) (y ∷ b) (inl l) (inr (f, q)) = absurd (omega (arith, l, f))
not_before_both (x ∷ c) (y ∷ b) (inr (e, p)) (inl m) = absurd (omega (arith, e, m))
not_before_both (x ∷ c) (y ∷ b) (inr (e, p)) (inr (f, q)) =
    λ i. e i ∷ not_before_both c b p q i

-- ---- a list in order
-- none of these is before b
abbrev IsLeast : List ℕ → List (List ℕ) → Type 0
IsLeast b cs = (i : ℕ) (c : List ℕ) → slice_get cs i ≡ Some c → IsNotBefore c b

abbrev Rise : List (List ℕ) → Type 0
Rise [] = ⊤
Rise (c ∷ cs) = IsLeast c cs × Rise cs

some_is : (b c : List ℕ) → Some b ≡ Some c → b ≡ c
some_is b c h = cc

rise_far : (cs : List (List ℕ)) → Rise cs → (i j : ℕ) (a b : List ℕ) → i < j
    → slice_get cs i ≡ Some a → slice_get cs j ≡ Some b → IsNotBefore b a
rise_far [] h i j a b less at to = absurd (let no : ⊥ = cc in no)
rise_far (c ∷ cs) h i zero a b less at to = absurd (omega (arith, less))
rise_far (c ∷ cs) h zero (suc j) a b less at to =
    subst (IsNotBefore b) (some_is c a at) (h.0 j b to)
rise_far (c ∷ cs) h (suc i) (suc j) a b less at to =
    rise_far cs h.1 i j a b (omega (arith, less)) at to

abbrev put : List ℕ → List (List ℕ) → List (List ℕ)
put b [] = b ∷ []
put b (c ∷ cs) = if is_not_before c b then b ∷ c ∷ cs else c ∷ put b cs

put_least : (c b : List ℕ) (cs : List (List ℕ)) → IsNotBefore b c → IsLeast c cs
    → IsLeast c (put b cs)
put_least c b [] p h = only where
  only : IsLeast c (b ∷ [])
  only zero d at = subst (λ (e : List ℕ). IsNotBefore e c) (some_is b d at) p
  only (suc i) d at = absurd (let no : ⊥ = cc in no)
put_least c b (e ∷ cs) p h = elim (cases_Bool (is_not_before e b)) [
  | inl so ↦ rw so first
  | inr not_so ↦ rw not_so (later (put_least c b cs p (λ i. h (suc i))))
] where
  first : IsLeast c (b ∷ e ∷ cs)
  first zero d at = subst (λ (x : List ℕ). IsNotBefore x c) (some_is b d at) p
  first (suc i) d at = h i d at

  later : IsLeast c (put b cs) → IsLeast c (e ∷ put b cs)
  later more zero d at = h zero d at
  later more (suc i) d at = more i d at

put_rise : (b : List ℕ) (cs : List (List ℕ)) → Rise cs → Rise (put b cs)
put_rise b [] h = ((λ i c at. absurd (let no : ⊥ = cc in no)), tt)
put_rise b (c ∷ cs) h = elim (cases_Bool (is_not_before c b)) [
  | inl so ↦ rw so (least (from_test c b so), h)
  | inr not_so ↦
      rw not_so (put_least c b cs (not_before_other c b not_so) h.0, put_rise b cs h.1)
] where
  least : IsNotBefore c b → IsLeast b (c ∷ cs)
  least p zero d at = subst (λ (x : List ℕ). IsNotBefore x b) (some_is c d at) p
  least p (suc i) d at = not_before_trans d c b (h.0 i d at) p

put_same : (b : List ℕ) (cs : List (List ℕ)) → IsPermutation (b ∷ cs) (put b cs)
put_same b [] = IsPermutation-refl (b ∷ [])
put_same b (c ∷ cs) = elim (cases_Bool (is_not_before c b)) [
  | inl so ↦ rw so (IsPermutation-refl (b ∷ c ∷ cs))
  | inr not_so ↦
      rw not_so (IsPermutation-trans _ _ _ (IsPermutation-middle (b ∷ []) c cs)
      (IsPermutation-cons c _ _ (put_same b cs)))
]

abbrev ordered : List (List ℕ) → List (List ℕ)
ordered [] = []
ordered (b ∷ bs) = put b (ordered bs)

ordered_rise : (bs : List (List ℕ)) → Rise (ordered bs)
ordered_rise [] = tt
ordered_rise (b ∷ bs) = put_rise b (ordered bs) (ordered_rise bs)

ordered_same : (bs : List (List ℕ)) → IsPermutation bs (ordered bs)
ordered_same [] = IsPermutation-refl []
ordered_same (b ∷ bs) =
    IsPermutation-trans _ _ _ (IsPermutation-cons b _ _ (ordered_same bs))
    (put_same b (ordered bs))

pub some_order : (bs : List (List ℕ)) → (cs : List (List ℕ)) × AreInOrder bs cs
some_order bs = (
  ordered bs,
  record { same = ordered_same bs; order = rise_far (ordered bs) (ordered_rise bs) },
)

-- ---- the same bindings
among_moved : (bs cs : List (List ℕ)) (b : List ℕ) → IsPermutation bs cs → IsAmong b bs
    → IsAmong b cs
among_moved bs cs b moved h =
    let within = slice_get_within bs h.place b h.stands in
    let there : Contains bs b =
    (h.place, within, get_or_from_slice_get bs h.place b b h.stands) in
    let found = Contains-permutation bs cs b moved there in
    record {
      place = found.0;
      stands = slice_get-get_or cs found.0 b found.1 ∙ ap Some found.2;
    }

module _ (bs cs : List (List ℕ)) (h : AreInOrder bs cs) where
  pub among_ordered : (b : List ℕ) → IsAmong b bs → IsAmong b cs
  among_ordered b = among_moved bs cs b h.same

  pub among_before : (b : List ℕ) → IsAmong b cs → IsAmong b bs
  among_before b = among_moved cs bs b (IsPermutation-sym bs cs h.same)

  abbrev alike : List ℕ → List ℕ → Bool
  alike a b = is_not_before a b && is_not_before b a

  flips : (a b : List ℕ) → alike a b ≡ alike b a
  flips a b = grind (arith, common_steps)

  apart_from : (a b : List ℕ) → (a ≡ b → ⊥) → alike a b ≡ false
  apart_from a b differ = elim (cases_Bool (alike a b)) [
    | inl so ↦
        let both : (is_not_before a b ≡ true) × (is_not_before b a ≡ true) =
        grind (arith, common_steps, so) in
        absurd (differ (not_before_both a b (from_test a b both.0) (from_test b a both.1)))
    | inr not_so ↦ not_so
  ]

  pub ascend_apart : ((i j : ℕ) (a b : List ℕ) → i < j → slice_get bs i ≡ Some a
      → slice_get bs j ≡ Some b → a ≡ b → ⊥)
      → (i j : ℕ) (a b : List ℕ) → i < j → slice_get cs i ≡ Some a
      → slice_get cs j ≡ Some b → IsNotBefore a b → ⊥
  ascend_apart differ i j a b less at to p =
      let distinct : IsDistinct alike bs = IsDistinct-from_apart alike bs (λ k m d below within.
      apart_from (get_or bs k d) (get_or bs m d)
      (differ k m (get_or bs k d) (get_or bs m d) below
      (slice_get-get_or bs k d (omega (arith, below, within)))
      (slice_get-get_or bs m d within))) in
      let moved = IsDistinct-IsPermutation alike flips bs cs h.same distinct in
      let apart = apart_from_distinct alike cs i j a moved less (slice_get_within cs j b to) in
      let at_i = get_or_from_slice_get cs i a a at in
      let at_j = get_or_from_slice_get cs j b a to in
      let here : alike a b ≡ false = (λ k. alike (sym at_i k) (sym at_j k)) ∙ apart in
      let one = to_test a b p in
      let two = to_test b a (h.order i j a b less at to) in
      let no : ⊥ = grind (arith, common_steps, here, one, two) in no
