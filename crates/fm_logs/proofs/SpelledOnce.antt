-- Payloads spell one list of values at most.
use Rattle.std.proofs.Common.{◌≡◌, ℕ, zero, suc, List, [], ◌∷◌, Option, Some, refl, subst, arith}
use Rattle.std.proofs.Common.{slice_get}
use Rattle.std.proofs.lemmas.Option.{same_Some, slice_get_within}
use Rattle.fm_entry.proofs.EntryReader.{entry_whole}
use Rattle.fm_entry.proofs.SpokenReader.{spoken_whole}
use Rattle.fm_payloads.specs.Spelling.{EachSpells, SpellsUpTo}
use Rattle.fm_logs.specs.ReadsAsBook.{SpellsEntry, SpellsSpoken}

-- a payload spells one value at most
abbrev pub SpellsOne : {A : Type 0} → (List ℕ → A → Type 0) → Type 0
SpellsOne {A = A} spells =
    (payload : List ℕ) (x y : A) → spells payload x → spells payload y → x ≡ y

pub some_one : {A : Type 0} (o : Option A) (x y : A) → o ≡ Some x → o ≡ Some y → x ≡ y
some_one o x y a b = cc

pub entry_once : SpellsOne SpellsEntry
entry_once payload x y a b =
    some_one _ x y (entry_whole payload x a.0 a.1) (entry_whole payload y b.0 b.1)

pub spoken_once : SpellsOne SpellsSpoken
spoken_once payload x y a b =
    some_one _ x y (spoken_whole payload x a.0 a.1) (spoken_whole payload y b.0 b.1)

-- payloads spell one list of values at most
pub each_one : {A : Type 0} (spells : List ℕ → A → Type 0) → SpellsOne spells
    → (payloads : List (List ℕ)) (xs ys : List A) → EachSpells spells payloads xs
    → EachSpells spells payloads ys → xs ≡ ys
each_one spells once [] [] [] a b = refl
each_one spells once [] (x ∷ xs) ys a b = absurd a
each_one spells once [] [] (y ∷ ys) a b = absurd b
each_one spells once (p ∷ payloads) [] ys a b = absurd a
each_one spells once (p ∷ payloads) (x ∷ xs) [] a b = absurd b
each_one spells once (p ∷ payloads) (x ∷ xs) (y ∷ ys) a b =
    let heads : x ≡ y = once p x y a.0 b.0 in
    let tails : xs ≡ ys = each_one spells once payloads xs ys a.1 b.1 in cc

-- each of the payloads spells a value
each_at : {A : Type 0} (spells : List ℕ → A → Type 0) (payloads : List (List ℕ)) (xs : List A)
    (n : ℕ) (payload : List ℕ) → EachSpells spells payloads xs → slice_get payloads n ≡ Some payload
    → (x : A) × spells payload x
each_at spells [] [] n payload all there =
    absurd (omega (arith, slice_get_within [] n payload there))
each_at spells [] (x ∷ xs) n payload all there = absurd all
each_at spells (p ∷ payloads) [] n payload all there = absurd all
each_at spells (p ∷ payloads) (x ∷ xs) zero payload all there =
    (x, subst (λ (l : List ℕ). spells l x) (same_Some p payload there) all.0)
each_at spells (p ∷ payloads) (x ∷ xs) (suc n) payload all there =
    each_at spells payloads xs n payload all.1 there

-- where one spells none, not each spells a value
pub none_spelled : {A : Type 0} (spells : List ℕ → A → Type 0) (payloads : List (List ℕ))
    (read xs : List A) (place : ℕ) → SpellsUpTo spells payloads read (Some place)
    → EachSpells spells payloads xs → ⊥
none_spelled spells payloads read xs place stops all =
    let found = each_at spells payloads xs stops.count stops.payload all stops.there in
    stops.refused found.0 found.1
