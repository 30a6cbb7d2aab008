-- Payloads that spell values.
use Rattle.std.specs.Prelude.{ℕ, List, [], ◌∷◌}
use Rattle.std.specs.declared.option.Option.{Option}
use Rattle.fm_payloads.specs.Reading.{ReadsUpTo}

-- payload by payload, each spells its value
abbrev pub EachSpells : {A : Type 0} → (List ℕ → A → Type 0) → List (List ℕ) → List A → Type 0
EachSpells spells [] [] = Unit {0}
EachSpells spells (payload ∷ payloads) (x ∷ xs) = spells payload x × EachSpells spells payloads xs
EachSpells spells _ _ = ⊥

-- the payload spells no value
abbrev pub SpellsNothing : {A : Type 0} → (List ℕ → A → Type 0) → List ℕ → Type 0
SpellsNothing spells payload = (x : _) → spells payload x → ⊥

-- the payloads spell the values, all of them or those before the first that spells none
abbrev pub SpellsUpTo : {A : Type 0} → (List ℕ → A → Type 0) → List (List ℕ) → List A → Option ℕ
    → Type 0
SpellsUpTo spells payloads xs stop =
    ReadsUpTo (λ xs payloads. EachSpells spells payloads xs)
    (λ _ payload. SpellsNothing spells payload) payloads xs stop
