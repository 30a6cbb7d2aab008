-- What a binding gives to names, name by name.
use Rattle.std.proofs.Common.{◌≡◌, ◌<◌, ◌+◌, ◌++◌, ℕ, suc, zero, List, [], ◌∷◌, length, drop}
use Rattle.std.proofs.Common.{get_or, slice_get, Option, Some, None, refl, sym, ap, ◌∙◌, arith}
use Rattle.std.proofs.Common.{append_assoc, append-nil, Bor, option_copied}
use Rattle.std.proofs.lemmas.Option.{same_Some}
use Rattle.ev_expr.specs.declared.settings.Bound.{Bound}
use Rattle.ev_events.proofs.Places.{none_is_not}
use Rattle.ev_events.specs.Asking.{names_down}

step : (vs : List (List ℕ)) (b : List ℕ) (i : ℕ) (v : List ℕ) → slice_get vs i ≡ Some v
    → i < length b
    → names_down (drop i vs) (drop i b)
    ≡ record { name = v; instance = get_or b i 0 } ∷ names_down (drop (suc i) vs) (drop (suc i) b)
step [] b i v s less = none_is_not v s
step (w ∷ vs) [] i v s less = absurd (omega (arith, less))
step (w ∷ vs) (x ∷ b) zero v s less =
    ap (λ (z : List ℕ). record { name = z; instance = x } ∷ names_down vs b) (same_Some w v s)
step (w ∷ vs) (x ∷ b) (suc i) v s less = step vs b i v s (omega (arith, less))

past : (vs : List (List ℕ)) (b : List ℕ) (i : ℕ) → ◌≡◌ {A = Option (List ℕ)} (slice_get vs i) None
    → names_down (drop i vs) (drop i b) ≡ []
past [] [] zero h = refl
past [] (x ∷ b) zero h = refl
past [] [] (suc i) h = refl
past [] (x ∷ b) (suc i) h = refl
past (w ∷ vs) b zero h = none_is_not w (sym h)
past (w ∷ vs) [] (suc i) h = none_left (drop i vs) where
  none_left : (us : List (List ℕ)) → names_down us [] ≡ []
  none_left [] = refl
  none_left (u ∷ us) = refl
past (w ∷ vs) (x ∷ b) (suc i) h = past vs b i h

spent : (vs : List (List ℕ)) (b : List ℕ) → names_down (drop (length b) vs) (drop (length b) b) ≡ []
spent [] [] = refl
spent [] (x ∷ b) = refl
spent (w ∷ vs) [] = refl
spent (w ∷ vs) (x ∷ b) = spent vs b

module _ (vs : List (List ℕ)) (b : List ℕ) (first found : List Bound) (i : ℕ)
    (before : found ++ names_down (drop i vs) (drop i b) ≡ first ++ names_down vs b) where
  pub name_added : (v : List ℕ) (x : ℕ) (new : List Bound) → slice_get vs i ≡ Some v
      → i < length b → x ≡ get_or b i 0
      → new ≡ found ++ record { name = v; instance = x } ∷ []
      → new ++ names_down (drop (i + 1) vs) (drop (i + 1) b) ≡ first ++ names_down vs b
  name_added v x new s less is put =
      let one : i + 1 ≡ suc i = omega arith in
      let rest = names_down (drop (suc i) vs) (drop (suc i) b) in
      ap (λ (n : ℕ). new ++ names_down (drop n vs) (drop n b)) one
      ∙ ap (λ (l : List Bound). l ++ rest) put
      ∙ append_assoc found (record { name = v; instance = x } ∷ []) rest
      ∙ ap (λ (z : ℕ). found ++ record { name = v; instance = z } ∷ rest) is
      ∙ ap (λ (l : List Bound). found ++ l) (sym (step vs b i v s less)) ∙ before

  pub names_past : ◌≡◌ {A = Option (List ℕ)} (slice_get vs i) None
      → found ≡ first ++ names_down vs b
  names_past h =
      sym (append-nil found) ∙ ap (λ (l : List Bound). found ++ l) (sym (past vs b i h)) ∙ before

  pub names_spent : i ≡ length b → found ≡ first ++ names_down vs b
  names_spent e =
      sym (append-nil found)
      ∙ ap (λ (l : List Bound). found ++ l) (sym (ap (λ (n : ℕ).
      names_down (drop n vs) (drop n b)) e ∙ spent vs b)) ∙ before

-- a name that is lent
pub copied_none : (o : Option (Bor (List ℕ))) {r : Option (List ℕ)} → o ≡ None
    → option_copied o ≡ r → r ≡ None
copied_none o e h = sym h ∙ ap option_copied e

pub copied_some : (o : Option (Bor (List ℕ))) (x : Bor (List ℕ)) {r : Option (List ℕ)}
    → o ≡ Some x → option_copied o ≡ r → r ≡ Some x.now
copied_some o x e h = sym h ∙ ap option_copied e
