-- A store that is open, before its modules are adopted, and what an opening does.
use Rattle.std.specs.Prelude.{◌≡◌, ◌⊎◌, ℕ, ◌+◌, ◌<◌, ◌≤◌, ◌^◌, Bool, List, [], All, length, Some}
use Rattle.std.specs.Prelude.{None, Result, Ok, Err, if◌then◌else◌, true, false}
use Rattle.std.specs.declared.option.Option.{Option}
use Rattle.fm_outer.specs.Failures.{Rose}
use Rattle.fm_outer.specs.Moments.{IsSettled, OnlyRead}
use Rattle.fm_outer.specs.declared.disk.Disk.{Ghosts}
use Rattle.fm_entry.specs.Entries.{IsSpelled}
use Rattle.fm_entry.specs.declared.entry.Entry.{Entry}
use Rattle.fm_journal.specs.JournalOf.{JournalOf}
use Rattle.fm_journal.specs.Keeps.{Keeps}
use Rattle.fm_saved.specs.declared.checkpoint.Checkpoint.{Checkpoint}
use Rattle.fm_saved.specs.declared.conf.Conf.{Conf}
use Rattle.fm_logs.specs.Contents.{Contents, AreTold, disk_named, active_of_two}
use Rattle.fm_logs.specs.LogsOf.{name_of_two}
use Rattle.fm_payloads.specs.Spelling.{EachSpells}
use Rattle.fm_logs.specs.ReadsAsBook.{SpellsConf, SpellsEntry}
use Rattle.fm_logs.specs.StoreBook.{StoreBook, force_along}
use Rattle.fm_logs.specs.declared.disks.Disks.{Disks}
use Rattle.fm_logs.specs.declared.disks.DiskName.{DiskName}
use Rattle.fm_logs.specs.declared.fault.StoreFault.{StoreFault}
use Rattle.fm_logs.specs.declared.fault.StoreFault.TheVariants.{Disk, Damaged, NoMemory}
use Rattle.fm_looks.specs.Bases.{newest_of, SlotsKept, SlotsDamage}
use Rattle.fm_looks.specs.Entries.{EntriesKept}
use Rattle.fm_looks.specs.Looks.{AreKeptConfs}
use Rattle.fm_looks.specs.Opening.{WasRead, AllStorePass, FirstStoreFinds, open_looks, slot_found}
use Rattle.fm_looks.specs.Opening.{from_base, LogDamage, EntriesDamage}
use Rattle.fm_looks.specs.declared.look.LookFault.{LookFault}
use Rattle.fm_looks.specs.declared.look.LookFault.TheVariants.{Disk as Failed, Damaged as IsDamaged}
use Rattle.fm_looks.specs.declared.look.LookFault.TheVariants.{NoMemory as WantsMemory}
use Rattle.fm_store.specs.declared.opening.ErrorsRead.{ErrorsRead}
use Rattle.fm_store.specs.declared.opening.ErrorsRefused.{ErrorsRefused}
use Rattle.fm_store.specs.declared.opening.OtherDisks.{OtherDisks}
use Rattle.fm_init.specs.declared.refused.StoreRefused.{StoreRefused}

-- The journals of the configurations and of the active errors, the configurations, the slots'
-- disks, the slot in force if one is open, as whether it is the second and its sequence, what is
-- known at the base, the other error journal's disk, the fault log's disk, and the entries from the
-- base on.
pub record OpenedOf (D : Type 0) : Type 0 where
  pub conf : JournalOf D
  pub confs : List Conf
  pub slot_a : D
  pub slot_b : D
  pub newest : Option (Bool × ℕ)
  pub checkpoint : Checkpoint
  pub active : JournalOf D
  pub spare : D
  pub flt : D
  pub entries : List Entry

-- an open store of these
abbrev pub opened_of : {D : Type 0} → JournalOf D → List Conf → D → D → Option (Bool × ℕ)
    → Checkpoint → JournalOf D → D → D → List Entry → OpenedOf D
opened_of conf confs slot_a slot_b newest checkpoint active spare flt entries = record {
  conf = conf;
  confs = confs;
  slot_a = slot_a;
  slot_b = slot_b;
  newest = newest;
  checkpoint = checkpoint;
  active = active;
  spare = spare;
  flt = flt;
  entries = entries;
}

-- What holds of each store that is open. The journals are open, the active one's next number is
-- that of the next entry, the configurations are of one store, and the number now in force is one
-- of them.
pub record IsOpened {D : Type 0} (o : OpenedOf D) : Type 0 where
  pub conf_open : o.conf.closed ≡ None
  pub active_open : o.active.closed ≡ None
  pub numbered : o.active.first + o.active.count ≡ o.checkpoint.base + length o.entries
  pub few : o.checkpoint.base + length o.entries ≤ 2 ^ 46
  pub moment_fits : o.checkpoint.moment < 2 ^ 62
  pub spelled : All IsSpelled o.entries
  pub known : force_along o.checkpoint.conf o.entries < length o.confs
  pub confs_kept : AreKeptConfs o.confs

-- the six disks of an open store
abbrev pub disks_of : {D : Type 0} → OpenedOf D → Disks D
disks_of o = record {
  conf = o.conf.disk;
  err_a = if o.checkpoint.second then o.spare else o.active.disk;
  err_b = if o.checkpoint.second then o.active.disk else o.spare;
  slot_a = o.slot_a;
  slot_b = o.slot_b;
  flt = o.flt;
}

-- The contents pass all looks of an opening, and the open store has what these read: its journals
-- keep their payloads, and its slots are synced.
pub record Opens {D : Type 0} (g : Ghosts D) (c : Contents) (o : OpenedOf D) : Type 0 where
  pub read : WasRead
  pub pass : AllStorePass [] c read open_looks
  pub conf_payloads : List (List ℕ)
  pub confs_keep : Keeps g o.conf conf_payloads
  pub confs_spelled : EachSpells SpellsConf conf_payloads read.confs
  pub confs_are : o.confs ≡ read.confs
  pub newest_is : o.newest ≡ newest_of (slot_found read)
  pub checkpoint_is : o.checkpoint ≡ read.checkpoint
  pub payloads : List (List ℕ)
  pub active_keeps : Keeps g o.active payloads
  pub active_spelled : EachSpells SpellsEntry payloads read.entries
  pub first_is : o.active.first ≡ read.first
  pub entries_are : o.entries ≡ from_base read
  pub slot_a_settled : IsSettled g o.slot_a
  pub slot_b_settled : IsSettled g o.slot_b

-- what is open is what the book has: its configurations, what is known at its base, and its entries
pub record OpensBook {D : Type 0} (o : OpenedOf D) (k : StoreBook) : Type 0 where
  pub confs_are : o.confs ≡ k.confs
  pub base_is : o.checkpoint.base ≡ k.book.base
  pub moment_is : o.checkpoint.moment ≡ k.book.moment
  pub force_is : o.checkpoint.conf ≡ k.in_force
  pub entries_are : o.entries ≡ k.book.entries

-- the count of a disk rose
abbrev pub RoseOnAny : {D : Type 0} → Ghosts D → Disks D → Disks D → Type 0
RoseOnAny g old new = (name : DiskName)
    × Rose (g.failures (disk_named name old)) (g.failures (disk_named name new))

-- no call of a disk failed
abbrev pub NoneFailed : {D : Type 0} → Ghosts D → Disks D → Disks D → Type 0
NoneFailed g old new = (name : DiskName)
    → g.failures (disk_named name new) ≡ g.failures (disk_named name old)

-- Why a store was not opened: Damaged exactly where one of the looks finds it, which is then the
-- first that doesn't pass; Disk only where a count rose.
abbrev pub OpenRefused : {D : Type 0} → Ghosts D → Disks D → Disks D → StoreFault → Type 0
OpenRefused g old new (Damaged disk place) =
    (c : Contents) → AreTold g old c → (read : WasRead)
    × FirstStoreFinds [] c read open_looks (record { disk = disk; place = place })
OpenRefused g old new Disk = RoseOnAny g old new
OpenRefused g old new NoMemory = Unit {0}
OpenRefused _ _ _ _ = ⊥

-- the disks that come back of an opening
abbrev pub opened_disks : {D : Type 0} → Result (OpenedOf D) (StoreRefused D) → Disks D
opened_disks (Ok o) = disks_of o
opened_disks (Err refused) = refused.disks

-- what an opening does, by its answer
abbrev pub OpenDoes : {D : Type 0} → Ghosts D → Disks D → Result (OpenedOf D) (StoreRefused D)
    → Type 0
OpenDoes g old (Ok o) = (c : Contents) → AreTold g old c → Opens g c o
OpenDoes g old (Err refused) = OpenRefused g old refused.disks refused.fault

-- the disks of the configurations and of the others
abbrev pub six_disks : {D : Type 0} → D → OtherDisks D → Disks D
six_disks conf others = record {
  conf = conf;
  err_a = others.err_a;
  err_b = others.err_b;
  slot_a = others.slot_a;
  slot_b = others.slot_b;
  flt = others.flt;
}

-- what the looks beside that at the configurations read
pub record RestOpens {D : Type 0} (g : Ghosts D) (c : Contents) (known : ℕ) (o : OpenedOf D)
    : Type 0 where
  pub slots : SlotsKept c.slot_a c.slot_b known o.newest o.checkpoint
  pub entries : EntriesKept g (active_of_two o.checkpoint.second c) known o.checkpoint o.active
      o.entries
  pub slot_a_settled : IsSettled g o.slot_a
  pub slot_b_settled : IsSettled g o.slot_b

-- what they find first: damage of the slots, or else of the active journal
abbrev pub RestDamage : ℕ → Contents → DiskName → ℕ → Type 0
RestDamage known c disk place =
    SlotsDamage known c.slot_a c.slot_b disk place ⊎ ((newest : Option (Bool × ℕ))
    × (checkpoint : Checkpoint) × SlotsKept c.slot_a c.slot_b known newest checkpoint
    × (disk ≡ name_of_two checkpoint.second)
    × LogDamage (EntriesDamage known checkpoint) (active_of_two checkpoint.second c) place)

abbrev pub RestRefused : {D : Type 0} → Ghosts D → ℕ → Disks D → Disks D → StoreFault → Type 0
RestRefused g known old new (Damaged disk place) =
    (c : Contents) → AreTold g old c → RestDamage known c disk place
RestRefused g known old new Disk = RoseOnAny g old new
RestRefused g known old new NoMemory = Unit {0}
RestRefused _ _ _ _ _ = ⊥

abbrev pub RestDoes : {D : Type 0} → Ghosts D → JournalOf D → List Conf → OtherDisks D
    → Result (OpenedOf D) (StoreRefused D) → Type 0
RestDoes g journal confs others (Ok o) =
    (o.conf ≡ journal) × (o.confs ≡ confs) × ((c : Contents)
    → AreTold g (six_disks journal.disk others) c → RestOpens g c (length confs) o)
RestDoes g journal confs others (Err refused) =
    RestRefused g (length confs) (six_disks journal.disk others) refused.disks refused.fault

-- the disk of the active error journal
abbrev pub active_disk : {X : Type 0} → Bool → X → X → X
active_disk true err_a err_b = err_b
active_disk false err_a err_b = err_a

-- both error journals' disks, that of the active one after it was read
abbrev pub errors_back : {D : Type 0} → Bool → Result (ErrorsRead D) (ErrorsRefused D) → D × D
errors_back true (Ok read) = (read.spare, read.active.disk)
errors_back false (Ok read) = (read.active.disk, read.spare)
errors_back second (Err refused) = (refused.err_a, refused.err_b)

-- why the active error journal was not read
abbrev pub ErrorsCause : {D : Type 0} → Ghosts D → ℕ → Checkpoint → D → D → StoreFault → Type 0
ErrorsCause g known checkpoint old new (Damaged disk place) =
    (disk ≡ name_of_two checkpoint.second) × ((c : List ℕ) → g.seen old ≡ Some c
    → LogDamage (EntriesDamage known checkpoint) c place)
ErrorsCause g known checkpoint old new Disk = Rose (g.failures old) (g.failures new)
ErrorsCause g known checkpoint old new NoMemory = Unit {0}
ErrorsCause g known checkpoint old new _ = ⊥

-- what a fault of a look at this disk is to the store
abbrev pub fault_at : DiskName → LookFault → StoreFault
fault_at disk Failed = Disk
fault_at disk (IsDamaged place) = Damaged disk place
fault_at disk WantsMemory = NoMemory

-- both error journals' disks come back: the active one was only read, and the other is as it was
abbrev pub AreErrorsRead : {D : Type 0} → Ghosts D → Bool → D → D → D × D → Type 0
AreErrorsRead g true err_a err_b back = (back.0 ≡ err_a) × OnlyRead g err_b back.1
AreErrorsRead g false err_a err_b back = OnlyRead g err_a back.0 × (back.1 ≡ err_b)
