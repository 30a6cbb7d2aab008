-- A store as contracts see it, and the book that it stands for.
use Rattle.std.specs.Prelude.{◌≡◌, ℕ, Bool, true, false, not, List, map, length, slice_get, Some}
use Rattle.std.specs.Prelude.{None}
use Rattle.std.specs.Option.{option_map, ForSome}
use Rattle.std.specs.declared.option.Option.{Option}
use Rattle.fm_outer.specs.declared.disk.Disk.{Ghosts}
use Rattle.fm_core.specs.Book.{ModuleState, greatest_from}
use Rattle.fm_core.specs.Meaning.{conf_of}
use Rattle.fm_core.specs.declared.module.Module.{Ghosts as ModuleGhosts}
use Rattle.fm_entry.specs.declared.entry.Entry.{Entry}
use Rattle.fm_journal.specs.JournalOf.{JournalOf}
use Rattle.fm_journal.specs.Keeps.{Keeps}
use Rattle.fm_saved.specs.declared.checkpoint.Checkpoint.{Checkpoint}
use Rattle.fm_slots.specs.Format.{SlotOf}
use Rattle.fm_slots.specs.InForce.{InForceBeside, KeepsInForce}
use Rattle.fm_logs.specs.LogsOf.{LogsOf, LogsKeep}
use Rattle.fm_payloads.specs.Spelling.{EachSpells}
use Rattle.fm_logs.specs.ReadsAsBook.{AreLoaded, SpellsConf, SaysBase}
use Rattle.fm_logs.specs.StoreBook.{StoreBook, IsLawfulStore, force_along}

-- What a store has beside its logs. The disks: the configurations' journal, the disk of the error
-- journal that isn't active, and those of the slots. Of the slot in force whether it is the second,
-- and its sequence; none where no slot is open. The greatest moment and the number of the
-- configuration in force at the base. The modules as they were made, and the saves of their states
-- at the base.
pub record StoreBaseOf (D M : Type 0) : Type 0 where
  pub conf : JournalOf D
  pub spare : D
  pub slot_a : D
  pub slot_b : D
  pub newest : Option (Bool × ℕ)
  pub moment : ℕ
  pub in_force : ℕ
  pub kept : List M
  pub states : List (List ℕ)

-- a store: its logs, and what stands beside them
pub record StoreOf (D M : Type 0) : Type 0 where
  pub logs : LogsOf D
  pub base : StoreBaseOf D M

-- the greatest moment of all entries ever
abbrev pub greatest_at : {D M : Type 0} → StoreOf D M → ℕ
greatest_at store = greatest_from store.base.moment store.logs.entries

-- the number of the configuration now in force
abbrev pub force_at : {D M : Type 0} → StoreOf D M → ℕ
force_at store = force_along store.base.in_force store.logs.entries

-- whether the next checkpoint is written into the second slot, as the first one is kept
abbrev pub fills_second : Option (Bool × ℕ) → Bool
fills_second None = false
fills_second (Some newest) = not newest.0

-- the sequence of the slot in force, 0 where none is open
abbrev pub newest_sequence : Option (Bool × ℕ) → ℕ
newest_sequence None = 0
newest_sequence (Some newest) = newest.1

-- the disk that is the second of two, or the first
abbrev pub of_two : {X : Type 0} → Bool → X → X → X
of_two true first second = second
of_two false first second = first

-- the modules as they were made
abbrev pub made_modules : {M : Type 0} → ModuleGhosts M → List M → List ModuleState
made_modules g kept = map (λ m. record { meaning = g.meaning m; state = g.state m }) kept

-- each module that has a configuration knows so many
abbrev pub KnowConfs : ℕ → List ModuleState → Type 0
KnowConfs known modules = (i : ℕ) (p : ModuleState) → slice_get modules i ≡ Some p
    → ForSome (conf_of p.meaning p.state) (λ conf. p.meaning.known ≡ known)

-- The slots: in each pair of images the same one is in force, and it is in the one that the next
-- checkpoint does not write; it says the base, the modules and which error journal is active.
pub record SlotsSay {D M : Type 0} (g : Ghosts D) (fresh : List ModuleState) (second : Bool)
    (base : StoreBaseOf D M) (k : StoreBook) : Type 0 where
  pub found : Option (Bool × SlotOf)
  pub newest_is : base.newest ≡ option_map (λ f. (f.0, f.1.sequence)) found
  pub kept : (c : List ℕ)
      → g.images (of_two (fills_second base.newest) base.slot_b base.slot_a) c
      → KeepsInForce (fills_second base.newest) c found
  pub beside : (c other : List ℕ)
      → g.images (of_two (fills_second base.newest) base.slot_b base.slot_a) c
      → g.images (of_two (fills_second base.newest) base.slot_a base.slot_b) other
      → InForceBeside (fills_second base.newest) c other found
  pub checkpoint : Checkpoint
  pub says : SaysBase fresh found checkpoint k.book.modules
  pub second_is : checkpoint.second ≡ second
  pub base_is : checkpoint.base ≡ k.book.base
  pub moment_is : checkpoint.moment ≡ k.book.moment
  pub force_is : checkpoint.conf ≡ k.in_force

-- The store stands for a lawful book. Its logs keep the records, and the entries behind older ones;
-- the configurations' journal keeps the list of configurations; the slots say the base; the other
-- error journal's disk tells its bytes, whatever they are; and what is in memory is as the book has
-- it. `fresh` are the modules as they are made.
pub record StoreStandsFor {D M : Type 0} (g : Ghosts D) (fresh : List ModuleState)
    (store : StoreOf D M) (k : StoreBook) : Type 0 where
  pub older : List Entry
  pub keep : LogsKeep g store.logs older k.book.records
  pub base_is : store.logs.base ≡ k.book.base
  pub entries_are : store.logs.entries ≡ k.book.entries
  pub cursors_are : store.logs.cursors ≡ k.book.cursors
  pub conf_payloads : List (List ℕ)
  pub confs_keep : Keeps g store.base.conf conf_payloads
  pub confs_spelled : EachSpells SpellsConf conf_payloads k.confs
  pub slots : SlotsSay g fresh store.logs.second store.base k
  pub spare_told : (bytes : List ℕ) × (g.seen store.base.spare ≡ Some bytes)
  pub moment_is : store.base.moment ≡ k.book.moment
  pub force_is : store.base.in_force ≡ k.in_force
  pub loaded : AreLoaded fresh store.base.states k.book.modules
  pub know : KnowConfs (length k.confs) k.book.modules
  pub lawful : IsLawfulStore k
