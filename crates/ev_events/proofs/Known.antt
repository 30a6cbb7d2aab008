-- The names of a propagation have the vertical iterators of each of its patterns.
use Rattle.std.proofs.Common.{◌≡◌, ◌||◌, ℕ, suc, zero, Bool, true, false, List, [], ◌∷◌}
use Rattle.std.proofs.Common.{Option, Some, None, slice_get, refl, sym, ap, ◌∙◌, subst, inl, inr}
use Rattle.std.specs.List.{list_any}
use Rattle.std.proofs.lemmas.Bool.{cases_Bool, or_left, or_right}
use Rattle.std.proofs.lemmas.List.Folds.{list_any-append}
use Rattle.std.proofs.lemmas.Option.{same_Some}
use Rattle.ev_tree.specs.Pattern.{Pattern}
use Rattle.ev_tree.specs.declared.tree.Part.{Part}
use Rattle.ev_check.specs.CheckedFile.{Linking}
use Rattle.ev_words.specs.Iterators.{same_name}
use Rattle.ev_events.specs.Names.{iterator_of, with_name, with_any, with_parts, with_patterns}
use Rattle.ev_events.specs.Names.{iterators, Knows, KnowSides}
use Rattle.ev_events.proofs.Places.{none_is_not}
use Rattle.ev_events.proofs.Agreeing.{same_from}

pub or_false : (a : Bool) → (a || false) ≡ a
or_false true = refl
or_false false = refl

module _ (v : List ℕ) where
  abbrev knows : List (List ℕ) → Bool
  knows names = list_any (same_name v) names

  stays_name : (names : List (List ℕ)) (w : List ℕ) → knows names ≡ true
      → knows (with_name names w) ≡ true
  stays_name names w h = elim (cases_Bool (list_any (same_name w) names)) [
    | inl so ↦ rw so h
    | inr not_so ↦
        rw not_so (list_any-append (same_name v) names (w ∷ []) ∙ or_left (knows names) _ h)
  ]

  has_name : (names : List (List ℕ)) → knows (with_name names v) ≡ true
  has_name names = elim (cases_Bool (knows names)) [
    | inl so ↦ rw so so
    | inr not_so ↦
        rw not_so (list_any-append (same_name v) names (v ∷ [])
        ∙ or_right (knows names) _ (or_left (same_name v v) false (same_from v v refl)))
  ]

  stays_any : (names : List (List ℕ)) (o : Option (List ℕ)) → knows names ≡ true
      → knows (with_any names o) ≡ true
  stays_any names None h = h
  stays_any names (Some w) h = stays_name names w h

  has_any : (names : List (List ℕ)) (o : Option (List ℕ)) → o ≡ Some v
      → knows (with_any names o) ≡ true
  has_any names None e = none_is_not v e
  has_any names (Some w) e =
      subst (λ (u : List ℕ). knows (with_name names u) ≡ true) (sym (same_Some w v e))
      (has_name names)

  stays_parts : (ps : List Part) (names : List (List ℕ)) → knows names ≡ true
      → knows (with_parts names ps) ≡ true
  stays_parts [] names h = h
  stays_parts (p ∷ ps) names h =
      stays_parts ps (with_any names (iterator_of p)) (stays_any names (iterator_of p) h)

  has_parts : (ps : List Part) (names : List (List ℕ)) (i : ℕ) (p : Part)
      → slice_get ps i ≡ Some p → iterator_of p ≡ Some v → knows (with_parts names ps) ≡ true
  has_parts [] names i p s e = none_is_not p s
  has_parts (q ∷ ps) names zero p s e =
      stays_parts ps (with_any names (iterator_of q))
      (has_any names (iterator_of q) (ap iterator_of (same_Some q p s) ∙ e))
  has_parts (q ∷ ps) names (suc i) p s e = has_parts ps (with_any names (iterator_of q)) i p s e

  stays_patterns : (qs : List Pattern) (names : List (List ℕ)) → knows names ≡ true
      → knows (with_patterns names qs) ≡ true
  stays_patterns [] names h = h
  stays_patterns (q ∷ qs) names h =
      stays_patterns qs (with_parts names q.parts) (stays_parts q.parts names h)

  has_patterns : (qs : List Pattern) (names : List (List ℕ)) (j : ℕ) (q : Pattern)
      → slice_get qs j ≡ Some q → (i : ℕ) (p : Part) → slice_get q.parts i ≡ Some p
      → iterator_of p ≡ Some v → knows (with_patterns names qs) ≡ true
  has_patterns [] names j q at i p s e = none_is_not q at
  has_patterns (r ∷ qs) names zero q at i p s e =
      stays_patterns qs (with_parts names r.parts)
      (has_parts r.parts names i p
      (ap (λ (x : Pattern). slice_get x.parts i) (same_Some r q at) ∙ s) e)
  has_patterns (r ∷ qs) names (suc j) q at i p s e =
      has_patterns qs (with_parts names r.parts) j q at i p s e

knows_left : (l : Linking) (j : ℕ) (q : Pattern) → slice_get l.left j ≡ Some q
    → Knows (iterators l) q.parts
knows_left l j q at = record {
  each = λ i p v s e.
      stays_patterns v l.right (with_patterns [] l.left)
      (has_patterns v l.left [] j q at i p s e);
}

knows_right : (l : Linking) (j : ℕ) (q : Pattern) → slice_get l.right j ≡ Some q
    → Knows (iterators l) q.parts
knows_right l j q at = record {
  each = λ i p v s e. has_patterns v l.right (with_patterns [] l.left) j q at i p s e;
}

-- those of a propagation, and any with the same names, are names of all its vertical iterators
pub know_sides : (l : Linking) → KnowSides (iterators l) l
know_sides l = record { left = knows_left l; right = knows_right l }

pub know_alike : (l : Linking) (vs ws : List (List ℕ))
    → ((v : List ℕ) → list_any (same_name v) ws ≡ list_any (same_name v) vs) → KnowSides vs l
    → KnowSides ws l
know_alike l vs ws same h = record {
  left = λ j q at. each q.parts (h.left j q at);
  right = λ j q at. each q.parts (h.right j q at);
} where
  each : (parts : List Part) → Knows vs parts → Knows ws parts
  each parts k = record { each = λ i p v s e. same v ∙ k.each i p v s e }
