-- Payloads that spell values, with one more.
use Rattle.std.proofs.Common.{ℕ, List, [], ◌∷◌, ◌++◌}
use Rattle.fm_payloads.specs.Spelling.{EachSpells}

-- one payload more spells one value more
pub each_push : {A : Type 0} (spells : List ℕ → A → Type 0) (payloads : List (List ℕ)) (xs : List A)
    (payload : List ℕ) (x : A) → EachSpells spells payloads xs → spells payload x
    → EachSpells spells (payloads ++ payload ∷ []) (xs ++ x ∷ [])
each_push spells [] [] payload x all one = (one, tt)
each_push spells (p ∷ payloads) (y ∷ xs) payload x all one =
    (all.0, each_push spells payloads xs payload x all.1 one)
each_push spells [] (y ∷ xs) payload x all one = absurd all
each_push spells (p ∷ payloads) [] payload x all one = absurd all
