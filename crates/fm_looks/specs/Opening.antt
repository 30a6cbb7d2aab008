-- The opening of a store as looks at its disks, each of which passes or finds damage. What a look
-- needs of the looks before it is a function of what these read.
use Rattle.std.specs.Prelude.{◌≡◌, ◌⊎◌, ℕ, ◌+◌, ◌-◌, ◌<◌, ◌≤◌, Bool, false, List, [], ◌∷◌}
use Rattle.std.specs.Prelude.{◌++◌, length, if◌then◌else◌}
use Rattle.std.specs.Prelude.{take, drop, Some, None}
use Rattle.std.specs.declared.option.Option.{Option}
use Rattle.fm_core.specs.Book.{Book, ModuleState, IsLawful, floored}
use Rattle.fm_entry.specs.declared.entry.Entry.{Entry}
use Rattle.fm_entry.specs.declared.spoken.Spoken.{Spoken}
use Rattle.fm_journal.specs.Damage.{IsDamagedAt}
use Rattle.fm_journal.specs.Format.{end_of, IsJournal}
use Rattle.fm_saved.specs.Checkpoints.{IsSpelledCheckpoint, SpellsCheckpoint}
use Rattle.fm_saved.specs.declared.checkpoint.Checkpoint.{Checkpoint}
use Rattle.fm_saved.specs.declared.conf.Conf.{Conf}
use Rattle.fm_slots.specs.Format.{SlotOf, IsSlot, IsDamagedSlot}
use Rattle.fm_slots.specs.InForce.{in_force}
use Rattle.fm_logs.specs.Contents.{Contents, active_of_two}
use Rattle.fm_logs.specs.LogsOf.{name_of_two}
use Rattle.fm_payloads.specs.Spelling.{EachSpells}
use Rattle.fm_logs.specs.ReadsAsBook.{SpellsConf, SpellsEntry, SpellsSpoken, IsLog}
use Rattle.fm_logs.specs.ReadsAsBook.{AreLoaded}
use Rattle.fm_logs.specs.StoreBook.{StoreBook, AreConfs, HaveConf, ReloadsRise}
use Rattle.fm_logs.specs.declared.disks.DiskName.{DiskName}
use Rattle.fm_logs.specs.declared.disks.DiskName.TheVariants.{Conf as ConfDisk, SlotA, SlotB, Flt}

-- What was read so far: the configurations, the slots, what is known at the base, the first number
-- and all entries of the active journal, the modules at the base, and the records. What no look has
-- read yet may be anything.
pub record WasRead : Type 0 where
  pub confs : List Conf
  pub slot_a : Option SlotOf
  pub slot_b : Option SlotOf
  pub checkpoint : Checkpoint
  pub first : ℕ
  pub entries : List Entry
  pub modules : List ModuleState
  pub records : List Spoken

-- a disk and a place
pub record DamageAt : Type 0 where
  pub disk : DiskName
  pub place : ℕ

-- the looks, in their order
pub data StoreLook : Type 0 where
  at_confs : StoreLook
  at_slot_a : StoreLook
  at_slot_b : StoreLook
  at_checkpoint : StoreLook
  at_entries : StoreLook
  at_states : StoreLook
  at_records : StoreLook

-- those of `open`, and those of `adopt`
abbrev pub open_looks : List StoreLook
open_looks = at_confs ∷ at_slot_a ∷ at_slot_b ∷ at_checkpoint ∷ at_entries ∷ []

abbrev pub adopt_looks : List StoreLook
adopt_looks = at_states ∷ at_records ∷ []

abbrev pub all_looks : List StoreLook
all_looks = open_looks ++ adopt_looks

-- the name of a slot's disk
abbrev pub slot_name : Bool → DiskName
slot_name second = if second then SlotB else SlotA

-- the slot in force, and its disk; the first one's where none is open
abbrev pub slot_found : WasRead → Option (Bool × SlotOf)
slot_found o = in_force o.slot_a o.slot_b

abbrev pub slot_disk : Option (Bool × SlotOf) → DiskName
slot_disk None = SlotA
slot_disk (Some found) = slot_name found.0

-- the entries from the base on
abbrev pub from_base : WasRead → List Entry
from_base o = drop (o.checkpoint.base - o.first) o.entries

-- a book of these, of which no module has come anywhere
abbrev pub unfloored_book : Checkpoint → List ModuleState → List Entry → List Spoken → Book
unfloored_book checkpoint modules entries records = record {
  base = checkpoint.base;
  moment = checkpoint.moment;
  modules = modules;
  entries = entries;
  cursors = [];
  records = records;
}

-- and with each module at its floor
abbrev pub floored_book : Checkpoint → List ModuleState → List Entry → List Spoken → Book
floored_book checkpoint modules entries records =
    floored (unfloored_book checkpoint modules entries records)

-- the book that was read
abbrev pub book_read : WasRead → StoreBook
book_read o = record {
  book = floored_book o.checkpoint o.modules (from_base o) o.records;
  confs = o.confs;
  in_force = o.checkpoint.conf;
}

-- configurations of one store, and not too many
abbrev pub FitConfs : List Conf → Type 0
FitConfs confs = AreConfs confs × (length confs ≤ 16)

-- entries of which those behind so many older ones reload lawfully, from this number in force on
abbrev pub FitEntries : ℕ → ℕ → ℕ → List Entry → Type 0
FitEntries known conf older entries = ReloadsRise known conf (drop older entries)

-- records that the modules say along the entries
abbrev pub FitRecords : Checkpoint → List ModuleState → List Entry → List Spoken → Type 0
FitRecords checkpoint modules entries records =
    IsLawful (floored_book checkpoint modules entries records)

-- what is known before any slot is open: the first journal is active, and no states are saved
abbrev pub first_checkpoint : Checkpoint
first_checkpoint = record { second = false; base = 0; moment = 0; conf = 0; states = [] }

-- the slot in force spells the checkpoint, with a number of one of so many configurations
abbrev pub SaysCheckpoint : ℕ → Option (Bool × SlotOf) → Checkpoint → Type 0
SaysCheckpoint known None checkpoint = checkpoint ≡ first_checkpoint
SaysCheckpoint known (Some found) checkpoint =
    IsSpelledCheckpoint checkpoint × SpellsCheckpoint found.1.payload checkpoint
    × (checkpoint.conf < known)

-- the states load, as many as there are modules, each of the configuration in force if it has one
abbrev pub LoadsStates : List ModuleState → Option (Bool × SlotOf) → Checkpoint
    → List ModuleState → Type 0
LoadsStates fresh None checkpoint modules = modules ≡ fresh
LoadsStates fresh (Some found) checkpoint modules =
    AreLoaded fresh checkpoint.states modules × HaveConf checkpoint.conf modules

-- the look passes, and this is what it read
abbrev pub StorePasses : List ModuleState → Contents → WasRead → StoreLook → Type 0
StorePasses fresh c o at_confs =
    ((first : ℕ) × IsLog SpellsConf c.conf first o.confs) × FitConfs o.confs
    × (1 ≤ length o.confs)
StorePasses fresh c o at_slot_a = IsSlot c.slot_a o.slot_a
StorePasses fresh c o at_slot_b = IsSlot c.slot_b o.slot_b
StorePasses fresh c o at_checkpoint = SaysCheckpoint (length o.confs) (slot_found o) o.checkpoint
StorePasses fresh c o at_entries =
    IsLog SpellsEntry (active_of_two o.checkpoint.second c) o.first o.entries
    × (o.first ≤ o.checkpoint.base) × (o.checkpoint.base ≤ o.first + length o.entries)
    × FitEntries (length o.confs) o.checkpoint.conf (o.checkpoint.base - o.first) o.entries
StorePasses fresh c o at_states = LoadsStates fresh (slot_found o) o.checkpoint o.modules
StorePasses fresh c o at_records =
    ((first : ℕ) × IsLog SpellsSpoken c.flt first o.records)
    × FitRecords o.checkpoint o.modules (from_base o) o.records

-- payloads that spell values which fit
abbrev pub Good : {A : Type 0} → (List ℕ → A → Type 0) → (List A → Type 0) → List (List ℕ) → Type 0
Good {A = A} spells Fits payloads = (xs : List A) × EachSpells spells payloads xs × Fits xs

-- the first payload with which the payloads are no longer good stands at this place
pub record FirstBad (good : List (List ℕ) → Type 0) (payloads : List (List ℕ)) (place : ℕ) : Type 0
  where
    pub count : ℕ
    pub inside : count < length payloads
    pub place_is : place ≡ end_of (take count payloads)
    pub good_so_far : good (take count payloads)
    pub bad : good (take (count + 1) payloads) → ⊥

-- A log is damaged: it is no journal, or it is one of payloads that are damaged at the place, as
-- its first number and they say.
abbrev pub LogDamage : (ℕ → List (List ℕ) → ℕ → Type 0) → List ℕ → ℕ → Type 0
LogDamage Damaged bytes place =
    IsDamagedAt bytes place ⊎ ((first : ℕ) × (payloads : List (List ℕ))
    × IsJournal bytes first payloads × Damaged first payloads place)

-- of configurations there is none, or one is the first that doesn't fit
abbrev pub ConfsDamage : ℕ → List (List ℕ) → ℕ → Type 0
ConfsDamage first payloads place =
    ((payloads ≡ []) × (place ≡ 16)) ⊎ FirstBad (Good SpellsConf FitConfs) payloads place

-- the active journal begins above the base, or doesn't reach it
abbrev pub ActiveDamage : ℕ → ℕ → List (List ℕ) → ℕ → Type 0
ActiveDamage base first payloads place =
    ((base < first) × (place ≡ 0)) ⊎ ((first ≤ base) × (first + length payloads < base)
    × (place ≡ end_of payloads))

-- it does so, or one of its payloads is the first that doesn't fit
abbrev pub EntriesDamage : ℕ → Checkpoint → ℕ → List (List ℕ) → ℕ → Type 0
EntriesDamage known checkpoint first payloads place =
    ActiveDamage checkpoint.base first payloads place ⊎ ((first ≤ checkpoint.base)
    × (checkpoint.base ≤ first + length payloads)
    × FirstBad (Good SpellsEntry (FitEntries known checkpoint.conf (checkpoint.base - first)))
    payloads place)

-- a record is the first that doesn't fit
abbrev pub RecordsDamage : Checkpoint → List ModuleState → List Entry → ℕ → List (List ℕ) → ℕ
    → Type 0
RecordsDamage checkpoint modules entries first payloads place =
    FirstBad (Good SpellsSpoken (FitRecords checkpoint modules entries)) payloads place

-- the look finds this damage
abbrev pub StoreFinds : List ModuleState → Contents → WasRead → StoreLook → DamageAt → Type 0
StoreFinds fresh c o at_confs d = (d.disk ≡ ConfDisk) × LogDamage ConfsDamage c.conf d.place
StoreFinds fresh c o at_slot_a d = (d.disk ≡ SlotA) × (d.place ≡ 0) × IsDamagedSlot c.slot_a
StoreFinds fresh c o at_slot_b d = (d.disk ≡ SlotB) × (d.place ≡ 0) × IsDamagedSlot c.slot_b
StoreFinds fresh c o at_checkpoint d =
    (d.disk ≡ slot_disk (slot_found o)) × (d.place ≡ 13)
    × ((said : Checkpoint) → SaysCheckpoint (length o.confs) (slot_found o) said → ⊥)
StoreFinds fresh c o at_entries d =
    (d.disk ≡ name_of_two o.checkpoint.second)
    × LogDamage (EntriesDamage (length o.confs) o.checkpoint)
    (active_of_two o.checkpoint.second c) d.place
StoreFinds fresh c o at_states d =
    (d.disk ≡ slot_disk (slot_found o)) × (d.place ≡ 13) × ((modules : List ModuleState)
    → LoadsStates fresh (slot_found o) o.checkpoint modules → ⊥)
StoreFinds fresh c o at_records d =
    (d.disk ≡ Flt)
    × LogDamage (RecordsDamage o.checkpoint o.modules (from_base o)) c.flt d.place

-- all looks pass
abbrev pub AllStorePass : List ModuleState → Contents → WasRead → List StoreLook → Type 0
AllStorePass fresh c o [] = Unit {0}
AllStorePass fresh c o (look ∷ looks) = StorePasses fresh c o look × AllStorePass fresh c o looks

-- the first that doesn't pass finds this damage
abbrev pub FirstStoreFinds : List ModuleState → Contents → WasRead → List StoreLook → DamageAt
    → Type 0
FirstStoreFinds fresh c o [] d = ⊥
FirstStoreFinds fresh c o (look ∷ looks) d =
    StoreFinds fresh c o look d ⊎ (StorePasses fresh c o look × FirstStoreFinds fresh c o looks d)
