-- Names that come into a set.
use Rattle.std.proofs.Common.{◌≡◌, ℕ, ◌+◌, ◌<◌, ◌++◌, ◌∷◌, [], List, length, get_or, take, Bool}
use Rattle.std.proofs.Common.{true, false, ◌||◌, if◌then◌else◌, refl, sym, ap, ◌∙◌}
use Rattle.std.specs.List.{list_any}
use Rattle.std.specs.Cmp.Lexicographic.{bytes_decides}
use Rattle.std.proofs.lemmas.List.Folds.{list_any-append, list_any_more}
use Rattle.ev_words.specs.Iterators.{Adds, same_name}

or_none : (b : Bool) → (b || false) ≡ b
or_none true = refl
or_none false = refl

or_group : (a b c : Bool) → ((a || b) || c) ≡ (a || (b || c))
or_group true b c = refl
or_group false b c = refl

-- a name that is put into a list of names, if none in it is the same
module _ {A : Type 0} (f : A → List ℕ) (k : A) (ks : List A) (v : List ℕ) where
  abbrev has : List ℕ → Bool
  has w = list_any (λ x. same_name w (f x)) ks

  abbrev grown : Bool → Bool
  grown b = list_any (λ x. same_name v (f x)) (if b then ks else ks ++ k ∷ [])

  there : (d : Bool) → same_name v (f k) ≡ d → has (f k) ≡ true → has v ≡ (has v || d)
  there true d e = let h : has v ≡ true = ap has ((bytes_decides v (f k)).0 d) ∙ e in h
      ∙ sym (ap (λ b. b || true) h)
  there false d e = sym (or_none (has v))

  by : (b : Bool) → has (f k) ≡ b → grown b ≡ (has v || same_name v (f k))
  by true e = there (same_name v (f k)) refl e
  by false e = list_any-append (λ x. same_name v (f x)) ks (k ∷ [])
      ∙ ap (λ b. has v || b) (or_none (same_name v (f k)))

  pub name_added : list_any (λ x. same_name v (f x))
      (if list_any (λ x. same_name (f k) (f x)) ks then ks else ks ++ k ∷ [])
      ≡ (list_any (λ x. same_name v (f x)) ks || same_name v (f k))
  name_added = by (has (f k)) refl

-- nothing is added
pub adds_none : (test added : List ℕ → Bool) → ((v : List ℕ) → added v ≡ false)
    → Adds test test added
adds_none test added none = λ v. sym (ap (λ b. test v || b) (none v) ∙ or_none (test v))

-- what is added, by another name
pub adds_same : (old new one other : List ℕ → Bool) → ((v : List ℕ) → one v ≡ other v)
    → Adds old new one → Adds old new other
adds_same old new one other is adds = λ v. adds v ∙ ap (λ b. old v || b) (is v)

-- one more element of a list, at a step of a loop
pub adds_more : {X : Type 0} (p : List ℕ → X → Bool) (xs : List X) (n : ℕ) (x : X)
    (first old new : List ℕ → Bool) → n < length xs → x ≡ get_or xs n x
    → Adds first old (λ v. list_any (p v) (take n xs)) → Adds old new (λ v. p v x)
    → Adds first new (λ v. list_any (p v) (take (n + 1) xs))
adds_more p xs n x first old new lt is before more = λ v.
    more v ∙ ap (λ b. b || p v x) (before v)
    ∙ or_group (first v) (list_any (p v) (take n xs)) (p v x)
    ∙ ap (λ b. first v || b) (ap (λ y. list_any (p v) (take n xs) || p v y) is
    ∙ sym (list_any_more (p v) xs n x lt))

-- what comes in after something else
pub adds_both : (first middle last one other : List ℕ → Bool) → Adds first middle one
    → Adds middle last other → Adds first last (λ v. one v || other v)
adds_both first middle last one other before after = λ v. after v
    ∙ ap (λ b. b || other v) (before v) ∙ or_group (first v) (one v) (other v)

-- a set that was empty has what came in
pub adds_only : (first last added : List ℕ → Bool) → ((v : List ℕ) → first v ≡ false)
    → Adds first last added → last ≡ added
adds_only first last added none adds = λ i v. (adds v ∙ ap (λ b. b || added v) (none v)) i

-- a name that is put into a set of texts
pub name_in : {A : Type 0} (f : A → List ℕ) (k : A) (ks new : List A) (name : List ℕ)
    → new ≡ (if list_any (λ x. same_name (f k) (f x)) ks then ks else ks ++ k ∷ []) → f k ≡ name
    → Adds (λ v. list_any (λ x. same_name v (f x)) ks) (λ v. list_any (λ x. same_name v (f x)) new)
    (λ v. same_name v name)
name_in f k ks new name is e = λ v. ap (list_any (λ x. same_name v (f x))) is ∙ name_added f k ks v
    ∙ ap (λ n. list_any (λ x. same_name v (f x)) ks || same_name v n) e
