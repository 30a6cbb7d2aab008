-- The hands and cursors of modules, one after another.
use Rattle.std.proofs.Common.{◌≡◌, ℕ, suc, ◌+◌, ◌<◌, max, List, [], ◌∷◌, ◌++◌, length, Some}
use Rattle.std.proofs.Common.{get_or, sym, ◌∙◌, ap, arith, slice_get, append_assoc}
use Rattle.std.proofs.Common.{length-append}
use Rattle.std.specs.List.{remove}
use Rattle.fm_core.specs.Hands.{HandOf}
use Rattle.fm_core.specs.Meaning.{Meaning}
use Rattle.fm_core.specs.declared.module.Module.{Ghosts}
use Rattle.fm_retrace.specs.Retracing.{cursors_of, hands_from, meanings_of}
use Rattle.fm_retrace.specs.declared.retraced.Retraced.{Retraced}

-- the first of a list, and what is left of it
pub front : {A : Type 0} (xs : List A) (x : A) (rest : List A) → 0 < length xs
    → x ≡ get_or xs 0 x → rest ≡ remove xs 0 → xs ≡ x ∷ rest
front [] x rest some is left = absurd (let no : ⊥ = omega arith in no)
front (y ∷ xs) x rest some is left =
    let one : x ≡ y = is in let others : rest ≡ xs = left in cc

module _ {M : Type 0} (base : ℕ) (modules rest left : List (Retraced M)) (own : Retraced M)
    (is : rest ≡ own ∷ left) where
  -- a hand more
  pub hands_next : (hands next : List (HandOf M)) (h : HandOf M) (n cursor : ℕ)
      → next ≡ hands ++ h ∷ []
      → h ≡ record { number = n; cursor = cursor; object = own.object } → n ≡ length hands
      → cursor ≡ max base own.past
      → hands ++ hands_from base (length hands) rest ≡ hands_from base 0 modules
      → next ++ hands_from base (length next) left ≡ hands_from base 0 modules
  hands_next hands next h n cursor pushed made n_is cursor_is so_far =
      ap (λ (l : List (HandOf M)). l ++ hands_from base (length l) left) pushed
      ∙ append_assoc hands (h ∷ []) (hands_from base (length (hands ++ h ∷ [])) left)
      ∙ ap (λ (k : ℕ). hands ++ h ∷ hands_from base k left) (length-append hands (h ∷ []))
      ∙ ap (λ (x : HandOf M). hands ++ x ∷ hands_from base (length hands + 1) left) made
      ∙ ap (λ (k : ℕ). hands ++ record { number = k; cursor = cursor; object = own.object }
      ∷ hands_from base (length hands + 1) left) n_is
      ∙ ap (λ (k : ℕ). hands ++ record { number = length hands; cursor = k; object = own.object }
      ∷ hands_from base (length hands + 1) left) cursor_is
      ∙ ap (λ (l : List (Retraced M)). hands ++ hands_from base (length hands) l) (sym is)
      ∙ so_far

  pub cursors_next : (cursors next : List ℕ) (cursor : ℕ) → next ≡ cursors ++ cursor ∷ []
      → cursor ≡ max base own.past
      → cursors ++ cursors_of base rest ≡ cursors_of base modules
      → next ++ cursors_of base left ≡ cursors_of base modules
  cursors_next cursors next cursor pushed made so_far =
      ap (λ (l : List ℕ). l ++ cursors_of base left) pushed
      ∙ append_assoc cursors (cursor ∷ []) (cursors_of base left)
      ∙ ap (λ (x : ℕ). cursors ++ x ∷ cursors_of base left) made
      ∙ ap (λ (l : List (Retraced M)). cursors ++ cursors_of base l) (sym is)
      ∙ so_far

  -- as many as were there
  pub counted_next : (hands next : List (HandOf M)) (h : HandOf M) (n : ℕ)
      → next ≡ hands ++ h ∷ [] → length hands + length rest ≡ n → length next + length left ≡ n
  counted_next hands next h n pushed so_far =
      omega (
        arith,
        so_far,
        ap (λ (l : List (HandOf M)). length l) pushed,
        length-append hands (h ∷ []),
        ap (λ (l : List (Retraced M)). length l) is,
      )

  -- the numbers of those that are left
  pub numbers_next : (g : Ghosts M) (hands next : List (HandOf M)) (h : HandOf M)
      → next ≡ hands ++ h ∷ []
      → ((j : ℕ) (m : Meaning) → slice_get (meanings_of g rest) j ≡ Some m
      → m.own ≡ length hands + j)
      → (j : ℕ) (m : Meaning) → slice_get (meanings_of g left) j ≡ Some m
      → m.own ≡ length next + j
  numbers_next g hands next h pushed numbered j m there =
      let on : slice_get (meanings_of g rest) (suc j) ≡ Some m =
      ap (λ (l : List (Retraced M)). slice_get (meanings_of g l) (suc j)) is ∙ there in
      omega (
        arith,
        numbered (suc j) m on,
        ap (λ (l : List (HandOf M)). length l) pushed,
        length-append hands (h ∷ []),
      )

  pub first_number : (g : Ghosts M) (n : ℕ)
      → ((j : ℕ) (m : Meaning) → slice_get (meanings_of g rest) j ≡ Some m → m.own ≡ n + j)
      → (g.meaning own.object).own ≡ n
  first_number g n numbered =
      let on : slice_get (meanings_of g rest) 0 ≡ Some (g.meaning own.object) =
      ap (λ (l : List (Retraced M)). slice_get (meanings_of g l) 0) is in
      omega (arith, numbered 0 (g.meaning own.object) on)
