-- What bytes spell a checkpoint, in the newer way and in the older one.
use Rattle.std.specs.Prelude.{◌≡◌, ◌⊎◌, ℕ, ◌<◌, ◌^◌, ◌==◌, Bool, true, false, List, [], ◌∷◌, ◌++◌}
use Rattle.std.specs.Prelude.{All, Option, Some, None, length, if◌then◌else◌}
use Rattle.fm_bytes.specs.Numbers.{u32_bytes, u64_bytes, long_text, counted_bytes}
use Rattle.fm_bytes.specs.Reading.{Read, made, number_from, both_from, coded_from, counted_from}
use Rattle.fm_entry.specs.Reading.{moment_from}
use Rattle.fm_entry.specs.WordReading.{then_from}
use Rattle.fm_saved.specs.Saved.{FitsLongText, saved_from}
use Rattle.fm_saved.specs.declared.checkpoint.Checkpoint.{Checkpoint}

-- a checkpoint that has a spelling
pub record IsSpelledCheckpoint (checkpoint : Checkpoint) : Type 0 where
  pub base_fits : checkpoint.base < 2 ^ 64
  pub moment_fits : checkpoint.moment < 2 ^ 62
  pub conf_fits : checkpoint.conf < 2 ^ 32
  pub few : length checkpoint.states < 2 ^ 32
  pub states_fit : All FitsLongText checkpoint.states

-- the active journal, the base, the greatest moment, the number of the configuration in force, and
-- the states
abbrev pub checkpoint_bytes : Checkpoint → List ℕ
checkpoint_bytes c =
    (if c.second then 3 else 2) ∷ []
    ++ (u64_bytes c.base
    ++ (u64_bytes c.moment ++ (u32_bytes c.conf ++ counted_bytes 4 long_text c.states)))

-- the same with no number of a configuration
abbrev pub unnumbered_bytes : Checkpoint → List ℕ
unnumbered_bytes c =
    (if c.second then 1 else 0) ∷ []
    ++ (u64_bytes c.base ++ (u64_bytes c.moment ++ counted_bytes 4 long_text c.states))

-- The bytes spell it in one of two ways. The older one has no number of a configuration, and is of
-- the number 0.
abbrev pub SpellsCheckpoint : List ℕ → Checkpoint → Type 0
SpellsCheckpoint bytes c =
    (bytes ≡ checkpoint_bytes c) ⊎ ((c.conf ≡ 0) × (bytes ≡ unnumbered_bytes c))

-- whether the second journal is the active one, and whether a number of a configuration follows
abbrev pub active_of : ℕ → Option (Bool × Bool)
active_of n =
    if n == 0 then Some (false, false)
    else (if n == 1 then Some (true, false)
    else (if n == 2 then Some (false, true)
    else (if n == 3 then Some (true, true)
    else None)))

unfoldable pub active_from : List ℕ → Read (Bool × Bool)
active_from bytes = coded_from active_of bytes

-- the number of a configuration, or 0 where none stands there
abbrev pub conf_number_from : Bool → List ℕ → Read ℕ
conf_number_from true bytes = number_from 4 bytes
conf_number_from false bytes = Some (0, bytes)

-- what follows the first byte
abbrev pub numbers_from : Bool → List ℕ → Read (ℕ × (ℕ × (ℕ × List (List ℕ))))
numbers_from numbered bytes =
    both_from (number_from 8)
    (both_from moment_from
    (both_from (conf_number_from numbered) (counted_from 4 saved_from))) bytes

-- a checkpoint
unfoldable pub checkpoint_from : List ℕ → Read Checkpoint
checkpoint_from bytes =
    made (λ f. record {
      second = f.0.0;
      base = f.1.0;
      moment = f.1.1.0;
      conf = f.1.1.1.0;
      states = f.1.1.1.1;
    }) (then_from active_from (λ active. numbers_from active.1) bytes)
