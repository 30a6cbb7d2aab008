-- What holds of each store.
use Rattle.std.specs.Prelude.{◌≡◌, ◌≢◌, ℕ, ◌<◌, ◌^◌, Bool, List, length, Some, None}
use Rattle.std.specs.declared.option.Option.{Option}
use Rattle.fm_journal.specs.JournalOf.{JournalOf}
use Rattle.fm_logs.specs.LogsOf.{LogsOf}
use Rattle.fm_store.specs.StoreOf.{StoreOf, StoreBaseOf, greatest_at, force_at}

-- a base of these
abbrev pub base_of : {D M : Type 0} → JournalOf D → D → D → D → Option (Bool × ℕ) → ℕ → ℕ
    → List M → List (List ℕ) → StoreBaseOf D M
base_of conf spare slot_a slot_b newest moment in_force kept states =
    record {
      conf = conf;
      spare = spare;
      slot_a = slot_a;
      slot_b = slot_b;
      newest = newest;
      moment = moment;
      in_force = in_force;
      kept = kept;
      states = states;
    }

-- a store of these
abbrev pub store_of : {D M : Type 0} → LogsOf D → StoreBaseOf D M → StoreOf D M
store_of logs base = record { logs = logs; base = base }

-- the spare disk, which is there, or else another
abbrev pub spare_of : {D : Type 0} → Option D → D → D
spare_of (Some disk) other = disk
spare_of None other = other

-- the other error journal's disk is there, and the moment is within its limit
pub record IsStoreBase {D : Type 0} (spare : Option D) (moment : ℕ) : Type 0 where
  pub has_spare : spare ≢ None
  pub moment_fits : moment < 2 ^ 62

-- The greatest moment and the number of the configuration now in force are kept; the moment is
-- within its limit, and a module's number has 32 bits.
pub record IsStore {D M : Type 0} (store : StoreOf D M) (greatest in_force : ℕ) : Type 0 where
  pub few_modules : length store.logs.cursors < 2 ^ 32
  pub greatest_is : greatest ≡ greatest_at store
  pub moment_fits : greatest < 2 ^ 62
  pub in_force_is : in_force ≡ force_at store
