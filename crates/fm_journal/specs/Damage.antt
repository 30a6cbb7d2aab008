-- Where bytes are no journal.
use Rattle.std.specs.Prelude.{◌≡◌, ◌⊎◌, ℕ, List, [], ◌∷◌, ◌++◌}
use Rattle.fm_journal.specs.Format.{end_of, Begins, IsJournal}

-- no record that is whole and within the limits stands at the gate behind these payloads, though
-- that gate is open
pub record IsBadAfter (bytes : List ℕ) (first : ℕ) (payloads : List (List ℕ)) : Type 0 where
  pub rest : List ℕ
  pub begins : Begins bytes first payloads 1 rest
  pub bad : (payload : List ℕ) (gate : ℕ) (after : List ℕ)
      → Begins bytes first (payloads ++ payload ∷ []) gate after → ⊥

-- the header and the gate behind it are not there
abbrev pub HasNoHeader : List ℕ → Type 0
HasNoHeader bytes = (first gate : ℕ) (rest : List ℕ) → Begins bytes first [] gate rest → ⊥

-- The bytes are no journal, and this is where: 0 for the header, else the gate of the first bad
-- record.
pub record IsDamagedAt (bytes : List ℕ) (place : ℕ) : Type 0 where
  pub none : (first : ℕ) (payloads : List (List ℕ)) → IsJournal bytes first payloads → ⊥
  pub there : ((place ≡ 0) × HasNoHeader bytes)
      ⊎ ((first : ℕ) × (payloads : List (List ℕ)) × (place ≡ end_of payloads)
      × IsBadAfter bytes first payloads)
