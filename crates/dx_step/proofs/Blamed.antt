-- The roots of a kind that explain a case.
use Rattle.std.proofs.Common.{◌≡◌, ℕ, zero, suc, ◌==◌, ◌<◌, Bool, true, false, ◌&&◌, ◌||◌}
use Rattle.std.proofs.Common.{nat_lt, IsTrue, List, [], ◌∷◌, ◌++◌, length, refl, sym, ap, ◌∙◌}
use Rattle.std.proofs.Common.{arith}
use Rattle.std.proofs.Common.{slice_get, if◌then◌else◌}
use Rattle.std.specs.List.{list_all, filter}
use Rattle.std.proofs.lemmas.Bool.{false≢true, and_from, and_parts, ltb-true, lt-ltb, eqb-true}
use Rattle.std.proofs.lemmas.Bool.{eq-eqb}
use Rattle.std.proofs.lemmas.List.Folds.{list_all-append, list_any-append}
use Rattle.ev_incidence.specs.Sets.{ascends, is_member}
use Rattle.ev_graph.specs.Kinds.{has_kind}
use Rattle.ev_graph.specs.Lawful.{GraphValue}
use Rattle.ev_graph.specs.declared.nodes.NodeKind.{NodeKind}
use Rattle.fm_core.specs.Meaning.{OpenCase}
use Rattle.dx_explain.specs.Search.{numbers_below}
use Rattle.dx_explain.specs.Stories.{explains}
use Rattle.dx_explain.specs.Cases.{blamed, cuts_of}
use Rattle.dx_state.proofs.Lists.{all_other, is_strict, ascends_of}
use Rattle.ev_graph.proofs.KindBelow.{kind_below}

-- a number more behind numbers that are below it
pub strict_push : (n : ℕ) (xs : List ℕ) → IsTrue (list_all (λ x. nat_lt x n) xs)
    → IsTrue (is_strict xs) → IsTrue (is_strict (xs ++ n ∷ []))
strict_push n [] h s = refl
strict_push n (x ∷ xs) h s =
    let low = and_parts (nat_lt x n) _ h in
    let parts = and_parts (list_all (nat_lt x) xs) (is_strict xs) s in
    and_from (list_all (nat_lt x) (xs ++ n ∷ [])) (is_strict (xs ++ n ∷ []))
    (list_all-append (nat_lt x) xs (n ∷ [])
    ∙ and_from (list_all (nat_lt x) xs) (nat_lt x n && true) parts.0
    (and_from (nat_lt x n) true low.0 refl))
    (strict_push n xs low.1 parts.1)

below_more : (n : ℕ) (xs : List ℕ) → IsTrue (list_all (λ x. nat_lt x n) xs)
    → IsTrue (list_all (λ x. nat_lt x (suc n)) xs)
below_more n xs h =
    all_other (λ x. nat_lt x n) (λ x. nat_lt x (suc n))
    (λ x k. let low = ltb-true x n k in lt-ltb x (suc n) (omega arith)) xs h

record AreBelow (n : ℕ) (xs : List ℕ) : Type 0 where
  strict : IsTrue (is_strict xs)
  below : IsTrue (list_all (λ x. nat_lt x n) xs)

numbers_are : (n : ℕ) → AreBelow n (numbers_below n)
unfolding numbers_below
numbers_are zero = record { strict = refl; below = refl }
numbers_are (suc n) =
    let rest = numbers_are n in
    record {
      strict = strict_push n (numbers_below n) rest.below rest.strict;
      below =
          list_all-append (λ x. nat_lt x (suc n)) (numbers_below n) (n ∷ [])
          ∙ and_from (list_all (λ x. nat_lt x (suc n)) (numbers_below n))
          (nat_lt n (suc n) && true)
          (below_more n (numbers_below n) rest.below)
          (and_from (nat_lt n (suc n)) true (lt-ltb n (suc n) (omega arith)) refl);
    }

pub all_filtered : {X : Type 0} (p q : X → Bool) (xs : List X) → IsTrue (list_all p xs)
    → IsTrue (list_all p (filter q xs))
all_filtered p q [] h = refl
all_filtered p q (x ∷ xs) h =
    let parts = and_parts (p x) (list_all p xs) h in
    let rest = all_filtered p q xs parts.1 in
    elim (q x) as (λ (b : Bool). IsTrue (list_all p (if b then x ∷ filter q xs else filter q xs))) [
      | true ↦ and_from (p x) (list_all p (filter q xs)) parts.0 rest
      | false ↦ rest
    ]

filter_passes : {X : Type 0} (q : X → Bool) (xs : List X) → IsTrue (list_all q (filter q xs))
filter_passes q [] = refl
filter_passes q (x ∷ xs) =
    elim (q x) as (λ (b : Bool). q x ≡ b
    → IsTrue (list_all q (if b then x ∷ filter q xs else filter q xs))) [
      | true ↦ λ is. and_from (q x) (list_all q (filter q xs)) is (filter_passes q xs)
      | false ↦ λ is. filter_passes q xs
    ] refl

strict_filtered : (q : ℕ → Bool) (xs : List ℕ) → IsTrue (is_strict xs)
    → IsTrue (is_strict (filter q xs))
strict_filtered q [] h = refl
strict_filtered q (x ∷ xs) h =
    let parts = and_parts (list_all (nat_lt x) xs) (is_strict xs) h in
    let rest = strict_filtered q xs parts.1 in
    elim (q x) as (λ (b : Bool). IsTrue (is_strict (if b then x ∷ filter q xs else filter q xs))) [
      | true ↦
          and_from (list_all (nat_lt x) (filter q xs)) (is_strict (filter q xs))
          (all_filtered (nat_lt x) q xs parts.0) rest
      | false ↦ rest
    ]

-- members of a filtered list
member_filtered : (q : ℕ → Bool) (xs : List ℕ) (e : ℕ)
    → is_member (filter q xs) e ≡ (is_member xs e && q e)
member_filtered q [] e = refl
member_filtered q (x ∷ xs) e =
    let rest = member_filtered q xs e in
    elim (q x) as (λ (b : Bool). q x ≡ b
    → is_member (if b then x ∷ filter q xs else filter q xs) e
    ≡ (((x == e) || is_member xs e) && q e)) [
      | true ↦ λ is.
          elim (x == e) as (λ (t : Bool). (x == e) ≡ t → (t || is_member (filter q xs) e)
          ≡ ((t || is_member xs e) && q e)) [
            | true ↦ λ same. sym (ap q (sym (eqb-true x e same)) ∙ is)
            | false ↦ λ same. rest
          ] refl
      | false ↦ λ is.
          elim (x == e) as (λ (t : Bool). (x == e) ≡ t → is_member (filter q xs) e
          ≡ ((t || is_member xs e) && q e)) [
            | true ↦ λ same.
                let off : q e ≡ false = ap q (sym (eqb-true x e same)) ∙ is in
                rest ∙ ap (λ (b : Bool). is_member xs e && b) off
                ∙ and_off (is_member xs e) ∙ sym off
            | false ↦ λ same. rest
          ] refl
    ] refl where
      and_off : (b : Bool) → (b && false) ≡ false
      and_off true = refl
      and_off false = refl

-- the numbers below n have each of them
or_true : (a b : Bool) → IsTrue b → IsTrue (a || b)
or_true true b h = refl
or_true false b h = h

or_first : (a b : Bool) → IsTrue a → IsTrue (a || b)
or_first true b h = refl
or_first false b h = absurd (false≢true h)

numbers_have : (n e : ℕ) → e < n → IsTrue (is_member (numbers_below n) e)
unfolding numbers_below
numbers_have zero e h = absurd (omega arith)
numbers_have (suc n) e h =
    list_any-append (λ x. x == e) (numbers_below n) (n ∷ [])
    ∙ elim (n == e) as (λ (b : Bool). (n == e) ≡ b
    → IsTrue (is_member (numbers_below n) e || (b || false))) [
      | true ↦ λ same. or_true (is_member (numbers_below n) e) true refl
      | false ↦ λ same.
          let apart : (n ≡ e → ⊥) = λ is. false≢true (sym same ∙ eqb_of n e is) in
          or_first (is_member (numbers_below n) e) false (numbers_have n e (omega arith))
    ] refl where
      eqb_of : (a b : ℕ) → a ≡ b → IsTrue (a == b)
      eqb_of a b h = eq-eqb a b h

pub record AreBlamed (kind : NodeKind → Bool) (g : GraphValue) (c : OpenCase) (es : List ℕ) : Type 0
  where
    pub ascend : IsTrue (ascends es)
    pub strict : IsTrue (is_strict es)
    pub below : IsTrue (list_all (λ e. nat_lt e (length g.nodes)) es)
    pub kinds : IsTrue (list_all (λ e. has_kind kind (slice_get g.nodes e)) es)
    pub each : (e : ℕ) → is_member es e
        ≡ (has_kind kind (slice_get g.nodes e) && explains g (cuts_of c) c.observed e)

pub are_blamed : (kind : NodeKind → Bool) (g : GraphValue) (c : OpenCase)
    → AreBlamed kind g c (blamed kind g c)
unfolding blamed
are_blamed kind g c =
    let test : ℕ → Bool =
    λ e. has_kind kind (slice_get g.nodes e) && explains g (cuts_of c) c.observed e in
    let all = numbers_are (length g.nodes) in
    let strict = strict_filtered test (numbers_below (length g.nodes)) all.strict in
    record {
      ascend = ascends_of (filter test (numbers_below (length g.nodes))) strict;
      strict = strict;
      below = all_filtered (λ e. nat_lt e (length g.nodes)) test (numbers_below (length g.nodes))
          all.below;
      kinds = all_other test (λ e. has_kind kind (slice_get g.nodes e))
          (λ e h. (and_parts (has_kind kind (slice_get g.nodes e)) _ h).0)
          (filter test (numbers_below (length g.nodes)))
          (filter_passes test (numbers_below (length g.nodes)));
      each = λ e.
          member_filtered test (numbers_below (length g.nodes)) e
          ∙ elim (has_kind kind (slice_get g.nodes e)) as (λ (b : Bool).
          has_kind kind (slice_get g.nodes e) ≡ b
          → (is_member (numbers_below (length g.nodes)) e
          && (b && explains g (cuts_of c) c.observed e))
          ≡ (b && explains g (cuts_of c) c.observed e)) [
            | true ↦ λ is.
                ap (λ (t : Bool). t && explains g (cuts_of c) c.observed e)
                (numbers_have (length g.nodes) e (kind_below kind g.nodes e is))
            | false ↦ λ is. and_off (is_member (numbers_below (length g.nodes)) e)
          ] refl;
    } where
      and_off : (b : Bool) → (b && false) ≡ false
      and_off true = refl
      and_off false = refl
