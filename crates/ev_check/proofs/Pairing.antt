-- Lists of names that are the same, pair by pair.
use Rattle.std.proofs.Common.{◌≡◌, ◌∷◌, [], List, length, zip, Bool, true, false, ◌&&◌, nat_eq}
use Rattle.std.proofs.Common.{refl, sym, ap, ◌∙◌, arith}
use Rattle.std.specs.List.{list_all}
use Rattle.std.specs.Cmp.Lexicographic.{pointwise, unequal}
use Rattle.std.proofs.lemmas.Bool.{false≢true}
use Rattle.std.proofs.lemmas.Bool.Decides.{Decides-eqb}

module _ {A : Type 0} (E : A → A → Bool) where
  pairs_long : (xs ys : List A) → length xs ≡ length ys
      → pointwise E xs ys ≡ list_all (λ p. E p.0 p.1) (zip xs ys)
  pairs_long [] [] h = refl
  pairs_long [] (y ∷ ys) h = absurd (omega (arith, h))
  pairs_long (x ∷ xs) [] h = absurd (omega (arith, h))
  pairs_long (x ∷ xs) (y ∷ ys) h = ap (λ b. E x y && b) (pairs_long xs ys (omega (arith, h)))

  -- lists are the same pair by pair where they are as long and all pairs are the same
  pub pairs_same : (xs ys : List A)
      → pointwise E xs ys ≡
      (nat_eq (length xs) (length ys) && list_all (λ p. E p.0 p.1) (zip xs ys))
  pairs_same xs ys = by (nat_eq (length xs) (length ys)) refl
    where
      all : Bool
      all = list_all (λ p. E p.0 p.1) (zip xs ys)

      by : (b : Bool) → nat_eq (length xs) (length ys) ≡ b → pointwise E xs ys ≡ (b && all)
      by true e = pairs_long xs ys ((Decides-eqb (length xs) (length ys)).0 e)
      by false e = unequal E xs ys
          (λ h. false≢true (sym e ∙ (Decides-eqb (length xs) (length ys)).1 h))
