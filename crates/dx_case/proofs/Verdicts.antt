-- Verdicts by whether lists are empty.
use Rattle.std.proofs.Common.{◌≡◌, ℕ, true, false, List, [], ◌∷◌, eqb, length, refl, sym, arith}
use Rattle.std.proofs.lemmas.Bool.{false≢true, eqb-true}
use Rattle.dx_explain.specs.Cases.{Solving, Upsetting, Unexplained, verdict}

pub solving : (fs us : List ℕ) → eqb (length fs) 0 ≡ false → Solving fs ≡ verdict fs us
solving [] us h = absurd (false≢true (sym h))
solving (f ∷ fs) us h = refl

pub upsetting : (fs us : List ℕ) → eqb (length fs) 0 ≡ true → eqb (length us) 0 ≡ false
    → Upsetting us ≡ verdict fs us
upsetting [] [] e h = absurd (false≢true (sym h))
upsetting [] (u ∷ us) e h = refl
upsetting (f ∷ fs) us e h = absurd (omega (arith, eqb-true (length (f ∷ fs)) 0 e))

pub unexplained : (fs us : List ℕ) → eqb (length fs) 0 ≡ true → eqb (length us) 0 ≡ true
    → Unexplained ≡ verdict fs us
unexplained [] [] e h = refl
unexplained [] (u ∷ us) e h = absurd (omega (arith, eqb-true (length (u ∷ us)) 0 h))
unexplained (f ∷ fs) us e h = absurd (omega (arith, eqb-true (length (f ∷ fs)) 0 e))
