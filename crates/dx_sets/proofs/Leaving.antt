-- What it does when a node leaves the set, and when it is looked at.
use Rattle.std.proofs.Common.{◌≡◌, ◌≢◌, ◌+◌, ◌<◌, ◌++◌, ℕ, Bool, true, false}
use Rattle.std.proofs.Common.{cond, List, [], ◌∷◌, length, set, refl, sym, ap, subst, ◌∙◌}
use Rattle.std.proofs.Common.{arith, inl, inr, get_or-set_same, get_or-set_other}
use Rattle.std.specs.List.{sum_by, count_by}
use Rattle.std.proofs.lemmas.List.{get_or_past, length-set}
use Rattle.std.proofs.lemmas.List.Sums.{sum_by_push, sum_by-cons}
use Rattle.std.proofs.lemmas.Bool.{cases_lt, cases_eq, cases_Bool, false≢true}
use Rattle.ev_incidence.specs.Sets.{has_mark, occurs}
use Rattle.dx_sets.specs.Sets.{SetsValue, removed, weight, sum_held, sum_below, Moves}
use Rattle.dx_sets.proofs.Sums.{count_unmark, sum_unmark}

pub marked_below : (marks : List Bool) (e : ℕ) → has_mark marks e ≡ true → e < length marks
marked_below marks e h = elim (cases_lt e (length marks)) [
  | inl l ↦ l
  | inr past ↦ absurd (false≢true (sym (get_or_past marks e false past) ∙ h))
]

pub moves_self : (s : SetsValue) → Moves s s
moves_self s = record { shrinks = λ e h. h; size = refl; weights = λ xs. refl; sums = λ f. refl }

pub moves_on : {s t u : SetsValue} → Moves s t → Moves t u → Moves s u
moves_on a b = record {
  shrinks = λ e h. a.shrinks e (b.shrinks e h);
  size = b.size ∙ a.size;
  weights = λ xs. b.weights xs ∙ a.weights xs;
  sums = λ f. b.sums f ∙ a.sums f;
}

-- a state that differs in the counters alone
pub moves_same : (s t : SetsValue) → t.marks ≡ s.marks → t.pending ≡ s.pending → Moves s t
moves_same s t m p = record {
  shrinks = λ e h. ap (λ (ms : List Bool). has_mark ms e) (sym m) ∙ h;
  size = ap length m;
  weights = λ xs. ap (λ (ms : List Bool). count_by (has_mark ms) xs + sum_by (λ v. occurs v xs)
      t.pending) m
      ∙ ap (λ (ps : List ℕ). count_by (has_mark s.marks) xs + sum_by (λ v. occurs v xs) ps) p;
  sums = λ f. ap (λ (ms : List Bool). sum_below (length ms) (λ i. cond (has_mark ms i) (f i) 0) +
      sum_by f t.pending) m
      ∙ ap (λ (ps : List ℕ). sum_below (length s.marks) (λ i. cond (has_mark s.marks i) (f i) 0) +
      sum_by f ps) p;
}

abbrev gone : SetsValue → ℕ → SetsValue
gone s e = record {
  marks = set s.marks e false;
  pending = s.pending ++ e ∷ [];
  causes_left =
      s.causes_left;
  effects_left = s.effects_left;
  support = s.support;
}

gone_moves : (s : SetsValue) (e : ℕ) → has_mark s.marks e ≡ true → Moves s (gone s e)
gone_moves s e here =
    let l = marked_below s.marks e here in
    record {
      shrinks = λ x h. elim (cases_eq x e) [
        | inl same ↦ absurd (false≢true (sym (get_or-set_same s.marks e false false l)
            ∙ (let P : ℕ → Type 0 = λ z. has_mark (set s.marks e false) z ≡ true in
            subst P same h)))
        | inr ne ↦ sym (get_or-set_other s.marks e x false false ne) ∙ h
      ];
      size = length-set s.marks e false;
      weights = λ xs. omega
          (arith, count_unmark s.marks e xs here l, sum_by_push (λ v. occurs v xs) s.pending e);
      sums = λ f.
          let n = length-set s.marks e false in
          let at_n = ap (λ (m : ℕ).
          sum_below m (λ i. cond (has_mark (set s.marks e false) i) (f i) 0)) n in
          omega (arith, at_n, sum_unmark s.marks e f here l, sum_by_push f s.pending e);
    }

-- a node leaves, or is not there
pub removed_moves : (s : SetsValue) (e : ℕ) → Moves s (removed s e)
removed_moves s e = elim (cases_Bool (has_mark s.marks e)) [
  | inl here ↦ let P : Bool → Type 0 = λ b. Moves s (cond b (gone s e) s) in
      subst P (sym here) (gone_moves s e here)
  | inr away ↦ let P : Bool → Type 0 = λ b. Moves s (cond b (gone s e) s) in
      subst P (sym away) (moves_self s)
]

pub removed_gone : (s : SetsValue) (e : ℕ) → has_mark (removed s e).marks e ≡ false
removed_gone s e = elim (cases_Bool (has_mark s.marks e)) [
  | inl here ↦ let P : Bool → Type 0 = λ b. has_mark (cond b (gone s e) s).marks e ≡ false in
      subst P (sym here) (get_or-set_same s.marks e false false (marked_below s.marks e here))
  | inr away ↦ let P : Bool → Type 0 = λ b. has_mark (cond b (gone s e) s).marks e ≡ false in
      subst P (sym away) away
]

pub removed_other : (s : SetsValue) (e x : ℕ) → x ≢ e
    → has_mark (removed s e).marks x ≡ has_mark s.marks x
removed_other s e x ne =
    elim (has_mark s.marks e) as (λ b. has_mark (cond b (gone s e) s).marks x ≡ has_mark s.marks x)
    [ true ↦ get_or-set_other s.marks e x false false ne | false ↦ refl ]

-- the counters stay
pub removed_causes : (s : SetsValue) (e : ℕ) → (removed s e).causes_left ≡ s.causes_left
removed_causes s e = elim (has_mark s.marks e) as
    (λ b. (cond b (gone s e) s).causes_left ≡ s.causes_left) [ true ↦ refl | false ↦ refl ]

pub removed_effects : (s : SetsValue) (e : ℕ) → (removed s e).effects_left ≡ s.effects_left
removed_effects s e =
    elim (has_mark s.marks e) as (λ b. (cond b (gone s e) s).effects_left ≡ s.effects_left)
    [ true ↦ refl | false ↦ refl ]

pub removed_support : (s : SetsValue) (e : ℕ) → (removed s e).support ≡ s.support
removed_support s e =
    elim (has_mark s.marks e) as (λ b. (cond b (gone s e) s).support ≡ s.support)
    [ true ↦ refl | false ↦ refl ]

-- the first node that waits is looked at
pub popped_weight : (t : SetsValue) (e : ℕ) (xs : List ℕ)
    → count_by (has_mark t.marks) xs + sum_by (λ v. occurs v xs) (e ∷ t.pending)
    ≡ weight t xs + occurs e xs
popped_weight t e xs = omega (arith, sum_by-cons (λ v. occurs v xs) e t.pending)

pub popped_held : (t : SetsValue) (e : ℕ) (f : ℕ → ℕ)
    → sum_below (length t.marks) (λ i. cond (has_mark t.marks i) (f i) 0) + sum_by f
    (e ∷ t.pending) ≡ sum_held t f + f e
popped_held t e f = omega (arith, sum_by-cons f e t.pending)
