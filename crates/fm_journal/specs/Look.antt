-- What is found at a gate of a disk that is read through, and how far the reading has come.
use Rattle.std.specs.Prelude.{◌≡◌, ◌≢◌, ℕ, ◌+◌, ◌<◌, ◌≤◌, ◌^◌, List, ◌∷◌, ◌++◌, length, drop}
use Rattle.std.specs.Prelude.{Some, None}
use Rattle.std.specs.declared.option.Option.{Option}
use Rattle.fm_journal.specs.Format.{header, spelled, records, end_of, IsWithin, IsJournal}
use Rattle.fm_journal.specs.declared.look.Look.{Look}
use Rattle.fm_journal.specs.declared.look.Look.TheVariants.{Shut, Record, Bad}

-- a record of a payload that is short enough stands at the place, with a gate behind it that is
-- within the limit
pub record IsRecordAt (bytes : List ℕ) (at : ℕ) (payload : List ℕ) (gate : ℕ) (rest : List ℕ)
    : Type 0 where
  pub stands : drop at bytes ≡ spelled payload ++ gate ∷ rest
  pub short : length payload ≤ 2 ^ 28
  pub sized : at + 5 + length payload < 2 ^ 40

-- a record stands at the place, of a payload of which P holds
abbrev pub HasRecord : (List ℕ → Type 0) → List ℕ → ℕ → Type 0
HasRecord P bytes at = (payload : List ℕ) × (gate : ℕ) × (rest : List ℕ) × P payload
    × IsRecordAt bytes at payload gate rest

-- a length of any payload
abbrev pub AnyLength : ℕ → Type 0
AnyLength n = Unit {0}

-- no record of a payload with a fitting length stands at the place
abbrev pub HasNoRecord : (ℕ → Type 0) → List ℕ → ℕ → Type 0
HasNoRecord Fits bytes at = (payload : List ℕ) (gate : ℕ) (rest : List ℕ) → Fits (length payload)
    → IsRecordAt bytes at payload gate rest → ⊥

-- a closed gate; a record, and the place of the gate behind it; or an open gate with no record
-- behind it
abbrev pub Shows : List ℕ → ℕ → Look → Type 0
Shows bytes at Shut =
    (gate : ℕ) × (rest : List ℕ) × (gate ≢ 1) × (drop at bytes ≡ gate ∷ rest)
Shows bytes at (Record next) = (payload : List ℕ) × (gate : ℕ) × (rest : List ℕ)
    × (next ≡ at + 5 + length payload) × IsRecordAt bytes at payload gate rest
Shows bytes at Bad = (rest : List ℕ) × (drop at bytes ≡ 1 ∷ rest)
    × ((payload : List ℕ) (gate : ℕ) (after : List ℕ) → IsRecordAt bytes at payload gate after → ⊥)

-- a record, and the place of the gate behind it; or none
abbrev pub ShowsNext : List ℕ → ℕ → Option ℕ → Type 0
ShowsNext bytes at (Some next) = Shows bytes at (Record next)
ShowsNext bytes at None = HasNoRecord AnyLength bytes at

-- the next gate lies further on, inside the disk and within the limits
abbrev pub LiesWithin : ℕ → ℕ → Look → Type 0
LiesWithin at size (Record next) =
    (at + 5 ≤ next) × (next < size) × (next < 2 ^ 40) × (next ≤ at + 5 + 2 ^ 28)
LiesWithin at size look = Unit {0}

-- the header and so many whole records stand before the place
pub record IsReached (bytes : List ℕ) (first at count : ℕ) : Type 0 where
  pub payloads : List (List ℕ)
  pub at_end : at ≡ end_of payloads
  pub counted : count ≡ length payloads
  pub limits : IsWithin first payloads
  pub so_far : bytes ≡ header first ++ (records payloads ++ drop at bytes)

-- the bytes are a journal with so many payloads and this end
pub record IsFound (bytes : List ℕ) (first count end : ℕ) : Type 0 where
  pub payloads : List (List ℕ)
  pub counted : count ≡ length payloads
  pub ends : end ≡ end_of payloads
  pub journal : IsJournal bytes first payloads

-- they are within the limits
pub record IsBounded (first count end : ℕ) : Type 0 where
  pub first_fits : first < 2 ^ 46
  pub counted : count < 2 ^ 32
  pub numbered : first + count ≤ 2 ^ 46
  pub sized : end < 2 ^ 40
