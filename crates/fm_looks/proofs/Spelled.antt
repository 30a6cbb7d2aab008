-- Lists of payloads that spell values: their parts, and the first payload that doesn't fit.
use Rattle.std.proofs.Common.{◌≡◌, ℕ, zero, suc, List, [], ◌∷◌, ◌++◌}
use Rattle.std.proofs.Common.{length, take, Some, refl, ap, subst, slice_get}
use Rattle.std.proofs.lemmas.Option.{slice_get_within}
use Rattle.fm_journal.specs.Format.{end_of}
use Rattle.fm_journal.proofs.Places.{take_next}
use Rattle.fm_payloads.specs.Spelling.{EachSpells}
use Rattle.fm_logs.specs.ReadsAsBook.{SpellsConf}
use Rattle.fm_logs.proofs.SpelledOnce.{SpellsOne, some_one, each_one}
use Rattle.fm_saved.specs.Checkpoints.{IsSpelledCheckpoint, SpellsCheckpoint}
use Rattle.fm_saved.specs.declared.checkpoint.Checkpoint.{Checkpoint}
use Rattle.fm_saved.proofs.CheckpointReader.{checkpoint_whole}
use Rattle.fm_saved.proofs.ConfReader.{conf_whole}
use Rattle.fm_looks.specs.Opening.{Good, FirstBad}

pub conf_once : SpellsOne SpellsConf
conf_once payload x y a b =
    some_one _ x y (conf_whole payload x a.0 a.1) (conf_whole payload y b.0 b.1)

pub checkpoint_once : (payload : List ℕ) (x y : Checkpoint) → IsSpelledCheckpoint x
    → SpellsCheckpoint payload x → IsSpelledCheckpoint y → SpellsCheckpoint payload y → x ≡ y
checkpoint_once payload x y a b c d =
    some_one _ x y (checkpoint_whole payload x a b) (checkpoint_whole payload y c d)

module _ {A : Type 0} (spells : List ℕ → A → Type 0) where
  -- as many values as payloads
  pub each_counted : (payloads : List (List ℕ)) (xs : List A) → EachSpells spells payloads xs
      → length xs ≡ length payloads
  each_counted [] [] a = refl
  each_counted [] (x ∷ xs) a = absurd a
  each_counted (p ∷ payloads) [] a = absurd a
  each_counted (p ∷ payloads) (x ∷ xs) a = ap suc (each_counted payloads xs a.1)

  -- the first payloads spell the first values
  pub each_take : (n : ℕ) (payloads : List (List ℕ)) (xs : List A) → EachSpells spells payloads xs
      → EachSpells spells (take n payloads) (take n xs)
  each_take zero payloads xs a = tt
  each_take (suc n) [] [] a = tt
  each_take (suc n) [] (x ∷ xs) a = absurd a
  each_take (suc n) (p ∷ payloads) [] a = absurd a
  each_take (suc n) (p ∷ payloads) (x ∷ xs) a = (a.0, each_take n payloads xs a.1)

  -- the last payload spells the last value
  pub each_last : (payloads : List (List ℕ)) (payload : List ℕ) (ys : List A)
      → EachSpells spells (payloads ++ payload ∷ []) ys
      → (xs : List A) × (x : A) × (ys ≡ xs ++ x ∷ []) × EachSpells spells payloads xs
      × spells payload x
  each_last [] payload [] a = absurd a
  each_last [] payload (y ∷ []) a = ([], y, refl, tt, a.0)
  each_last [] payload (y ∷ z ∷ ys) a = absurd a.1
  each_last (p ∷ payloads) payload [] a = absurd a
  each_last (p ∷ payloads) payload (y ∷ ys) a =
      let rest = each_last payloads payload ys a.1 in
      (y ∷ rest.0, rest.1, ap (λ (l : List A). y ∷ l) rest.2, (a.0, rest.3), rest.4)

  -- the payload doesn't fit behind payloads that spell these values
  pub none_fits : SpellsOne spells → (Fits : List A → Type 0) (payloads : List (List ℕ))
      (payload : List ℕ) (xs : List A) → EachSpells spells payloads xs
      → ((x : A) → spells payload x → Fits (xs ++ x ∷ []) → ⊥)
      → Good spells Fits (payloads ++ payload ∷ []) → ⊥
  none_fits once Fits payloads payload xs spelled none good =
      let last = each_last payloads payload good.0 good.1 in
      let same : last.0 ≡ xs = each_one spells once payloads last.0 xs last.3 spelled in
      none last.1 last.4
      (subst (λ (l : List A). Fits (l ++ last.1 ∷ [])) same (subst Fits last.2 good.2))

-- the payload that was refused is the first that doesn't fit
pub first_bad : (good : List (List ℕ) → Type 0) (payloads : List (List ℕ)) (count : ℕ)
    (payload : List ℕ) (place : ℕ) → slice_get payloads count ≡ Some payload
    → place ≡ end_of (take count payloads) → good (take count payloads)
    → (good (take count payloads ++ payload ∷ []) → ⊥) → FirstBad good payloads place
first_bad good payloads count payload place there is so_far bad = record {
  count = count;
  inside = slice_get_within payloads count payload there;
  place_is = is;
  good_so_far = so_far;
  bad = λ next. bad (subst good (take_next payloads count payload there) next);
}
