-- Lists of which each item passes a test, and lists in order.
use Rattle.std.proofs.Common.{◌≡◌, ℕ, suc, ◌+◌, ◌<◌, ◌≤◌, ◌==◌, Bool, true, false, not, ◌&&◌, ◌||◌}
use Rattle.std.proofs.Common.{nat_lt, nat_le, IsTrue, List, [], ◌∷◌, length, refl, sym, ap, ◌∙◌}
use Rattle.std.proofs.Common.{arith, zero, Some, slice_get, if◌then◌else◌}
use Rattle.std.specs.List.{list_all, filter}
use Rattle.std.proofs.lemmas.Bool.{false≢true, and_from, and_parts}
use Rattle.std.proofs.lemmas.Bool.Decides.{nat_tests}
use Rattle.fm_entry.specs.declared.broken.Broken.{Broken}
use Rattle.fm_entry.specs.Words.{is_link_before, links_ascend}
use Rattle.ev_incidence.specs.Sets.{ascends}
use Rattle.ev_graph.specs.Cutting.{is_cut}
use Rattle.ev_graph.specs.declared.instances.Link.{Link}

pub all_other : {X : Type 0} (p q : X → Bool) → ((x : X) → IsTrue (p x) → IsTrue (q x))
    → (xs : List X) → IsTrue (list_all p xs) → IsTrue (list_all q xs)
all_other p q f [] h = refl
all_other p q f (x ∷ xs) h =
    let parts = and_parts (p x) (list_all p xs) h in
    and_from (q x) (list_all q xs) (f x parts.0) (all_other p q f xs parts.1)

-- of two tests that each item passes, a third
pub all_both : {X : Type 0} (p q r : X → Bool)
    → ((x : X) → IsTrue (p x) → IsTrue (q x) → IsTrue (r x))
    → (xs : List X) → IsTrue (list_all p xs) → IsTrue (list_all q xs) → IsTrue (list_all r xs)
all_both p q r f [] h k = refl
all_both p q r f (x ∷ xs) h k =
    let parts = and_parts (p x) (list_all p xs) h in
    let others = and_parts (q x) (list_all q xs) k in
    and_from (r x) (list_all r xs) (f x parts.0 others.0) (all_both p q r f xs parts.1 others.1)

-- a test that each number passes
pub all_pass : {X : Type 0} (p : X → Bool) → ((x : X) → IsTrue (p x)) → (xs : List X)
    → IsTrue (list_all p xs)
all_pass p f [] = refl
all_pass p f (x ∷ xs) = and_from (p x) (list_all p xs) (f x) (all_pass p f xs)

pub all_at : {X : Type 0} (p : X → Bool) (xs : List X) (i : ℕ) (x : X) → IsTrue (list_all p xs)
    → slice_get xs i ≡ Some x → IsTrue (p x)
all_at p [] i x h e = absurd (let never : ⊥ = cc in never)
all_at p (y ∷ ys) zero x h e =
    let same : y ≡ x = cc in
    ap p (sym same) ∙ (and_parts (p y) (list_all p ys) h).0
all_at p (y ∷ ys) (suc i) x h e = all_at p ys i x (and_parts (p y) (list_all p ys) h).1 e

-- numbers of which each is below all that follow it
abbrev pub is_strict : List ℕ → Bool
is_strict [] = true
is_strict (x ∷ xs) = list_all (nat_lt x) xs && is_strict xs

below_all : (x y : ℕ) (zs : List ℕ) → IsTrue (nat_lt x y) → IsTrue (list_all (nat_lt y) zs)
    → IsTrue (list_all (nat_lt x) zs)
below_all x y zs h k = all_other (nat_lt y) (nat_lt x) (λ z l. grind (arith, nat_tests)) zs k

pub strict_of : (xs : List ℕ) → IsTrue (ascends xs) → IsTrue (is_strict xs)
strict_of [] h = refl
strict_of (x ∷ []) h = refl
strict_of (x ∷ y ∷ ys) h =
    let parts = and_parts (nat_lt x y) (ascends (y ∷ ys)) h in
    let rest = strict_of (y ∷ ys) parts.1 in
    let more = and_parts (list_all (nat_lt y) ys) (is_strict ys) rest in
    and_from (list_all (nat_lt x) (y ∷ ys)) (is_strict (y ∷ ys))
    (and_from (nat_lt x y) (list_all (nat_lt x) ys) parts.0 (below_all x y ys parts.0 more.0)) rest

pub ascends_of : (xs : List ℕ) → IsTrue (is_strict xs) → IsTrue (ascends xs)
ascends_of [] h = refl
ascends_of (x ∷ []) h = refl
ascends_of (x ∷ y ∷ ys) h =
    let parts = and_parts (list_all (nat_lt x) (y ∷ ys)) (is_strict (y ∷ ys)) h in
    and_from (nat_lt x y) (ascends (y ∷ ys))
    (and_parts (nat_lt x y) (list_all (nat_lt x) ys) parts.0).0 (ascends_of (y ∷ ys) parts.1)

-- numbers that ascend from one and stay below another are few
pub strict_few : (low high : ℕ) (xs : List ℕ) → low ≤ high
    → IsTrue (list_all (nat_le low) xs) → IsTrue (list_all (λ x. nat_lt x high) xs)
    → IsTrue (is_strict xs) → length xs + low ≤ high
strict_few low high [] l h k s = omega arith
strict_few low high (x ∷ xs) l h k s =
    let above = and_parts (nat_le low x) (list_all (nat_le low) xs) h in
    let below = and_parts (nat_lt x high) (list_all (λ x. nat_lt x high) xs) k in
    let parts = and_parts (list_all (nat_lt x) xs) (is_strict xs) s in
    let first : low ≤ x = grind (arith, nat_tests) in
    let last : x < high = grind (arith, nat_tests) in
    let rest : length xs + suc x ≤ high =
    strict_few (suc x) high xs (omega arith)
    (all_other (nat_lt x) (nat_le (suc x)) (λ z a. grind (arith, nat_tests)) xs parts.0) below.1
    parts.1 in
    omega arith

-- the link of two numbers
abbrev is_same : Link → Broken → Bool
is_same l b = (l.instance == b.instance) && (l.effect == b.effect)

abbrev others : Link → List Broken → List Broken
others l bs = filter (λ b. not (is_same l b)) bs

all_kept : {X : Type 0} (p : X → Bool) (xs : List X) → IsTrue (list_all p xs)
    → filter p xs ≡ xs
all_kept p [] h = refl
all_kept p (x ∷ xs) h =
    let parts = and_parts (p x) (list_all p xs) h in
    ap (λ (b : Bool). if b then x ∷ filter p xs else filter p xs) parts.0
    ∙ ap (λ ys. x ∷ ys) (all_kept p xs parts.1)

all_filtered : {X : Type 0} (p q : X → Bool) (xs : List X) → IsTrue (list_all p xs)
    → IsTrue (list_all p (filter q xs))
all_filtered p q [] h = refl
all_filtered p q (x ∷ xs) h =
    let parts = and_parts (p x) (list_all p xs) h in
    let rest = all_filtered p q xs parts.1 in
    elim (q x) as (λ (b : Bool). IsTrue (list_all p (if b then x ∷ filter q xs else filter q xs))) [
      | true ↦ and_from (p x) (list_all p (filter q xs)) parts.0 rest
      | false ↦ rest
    ]

others_ascend : (l : Link) (bs : List Broken) → IsTrue (links_ascend bs)
    → IsTrue (links_ascend (others l bs))
others_ascend l [] h = refl
others_ascend l (b ∷ bs) h =
    let parts = and_parts (list_all (is_link_before b) bs) (links_ascend bs) h in
    let rest = others_ascend l bs parts.1 in
    elim (not (is_same l b)) as (λ (t : Bool). IsTrue (links_ascend
    (if t then b ∷ others l bs else others l bs))) [
      | true ↦
          and_from (list_all (is_link_before b) (others l bs)) (links_ascend (others l bs))
          (all_filtered (is_link_before b) (λ b. not (is_same l b)) bs parts.0) rest
      | false ↦ rest
    ]

differs : (l : Link) (a b : Broken) → IsTrue (is_same l a) → IsTrue (is_link_before a b)
    → IsTrue (not (is_same l b))
differs l a b h k = grind (arith, nat_tests)

-- all but one of links in order are others
others_many : (l : Link) (bs : List Broken) → IsTrue (links_ascend bs)
    → length bs ≤ suc (length (others l bs))
others_many l [] h = omega arith
others_many l (b ∷ bs) h =
    let parts = and_parts (list_all (is_link_before b) bs) (links_ascend bs) h in
    let rest = others_many l bs parts.1 in
    elim (is_same l b) as (λ (t : Bool). is_same l b ≡ t → length (b ∷ bs)
    ≤ suc (length (if not t then b ∷ others l bs else others l bs))) [
      | true ↦ λ is.
          let kept : others l bs ≡ bs =
          all_kept (λ b. not (is_same l b)) bs
          (all_other (is_link_before b) (λ b. not (is_same l b)) (λ c k. differs l b c is k) bs
          parts.0) in
          let same : length (others l bs) ≡ length bs = ap length kept in
          omega (arith, same)
      | false ↦ λ is. omega (arith, rest)
    ] refl

or_left : (a b : Bool) → IsTrue (a || b) → a ≡ false → IsTrue b
or_left true b h e = absurd (false≢true (sym e))
or_left false b h e = h

not_false_of : (a : Bool) → IsTrue (not a) → a ≡ false
not_false_of true h = absurd (false≢true h)
not_false_of false h = refl

-- those that are among some links and not the first are among the rest
among_rest : (l : Link) (ls : List Link) (bs : List Broken)
    → IsTrue (list_all (λ b. is_cut (l ∷ ls) b.instance b.effect) bs)
    → IsTrue (list_all (λ b. is_cut ls b.instance b.effect) (others l bs))
among_rest l ls [] h = refl
among_rest l ls (b ∷ bs) h =
    let parts = and_parts (is_cut (l ∷ ls) b.instance b.effect)
    (list_all (λ b. is_cut (l ∷ ls) b.instance b.effect) bs) h in
    let rest = among_rest l ls bs parts.1 in
    elim (is_same l b) as (λ (t : Bool). is_same l b ≡ t
    → IsTrue (list_all (λ b. is_cut ls b.instance b.effect)
    (if not t then b ∷ others l bs else others l bs))) [
      | true ↦ λ is. rest
      | false ↦ λ is.
          and_from (is_cut ls b.instance b.effect)
          (list_all (λ b. is_cut ls b.instance b.effect) (others l bs))
          (or_left (is_same l b) (is_cut ls b.instance b.effect) parts.0 is) rest
    ] refl

-- broken links that are among some links are no more than these
pub links_few : (ls : List Link) (bs : List Broken) → IsTrue (links_ascend bs)
    → IsTrue (list_all (λ b. is_cut ls b.instance b.effect) bs) → length bs ≤ length ls
links_few [] [] h k = omega arith
links_few [] (b ∷ bs) h k = absurd (false≢true k)
links_few (l ∷ ls) bs h k =
    let rest = links_few ls (others l bs) (others_ascend l bs h) (among_rest l ls bs k) in
    let many = others_many l bs h in
    omega arith
