-- Lists without items.
use Rattle.std.proofs.Common.{◌≡◌, ◌==◌, suc, true, List, [], ◌∷◌, length, refl, arith}
use Rattle.std.proofs.lemmas.Bool.{eqb-true}

pub none_long : {X : Type 0} (xs : List X) → (length xs == 0) ≡ true → xs ≡ []
none_long [] h = refl
none_long (x ∷ xs) h =
    let no : suc (length xs) ≡ 0 = eqb-true (suc (length xs)) 0 h in
    absurd (omega (arith, no))
