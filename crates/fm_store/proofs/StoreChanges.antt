-- A change of the journal, by what its steps did.
use Rattle.std.proofs.Common.{◌≡◌, ◌≢◌, ◌⊎◌, inl, inr, ℕ, List, Bool, true, false, not, Option}
use Rattle.std.proofs.Common.{Some, None, refl, sym, ◌∙◌, ap, subst}
use Rattle.fm_outer.specs.declared.disk.Disk.{Ghosts}
use Rattle.fm_journal.specs.JournalOf.{JournalOf, blank_journal}
use Rattle.fm_slots.specs.Format.{SlotOf}
use Rattle.fm_logs.specs.LogsOf.{LogsOf}
use Rattle.fm_logs.specs.declared.disks.DiskName.{DiskName}
use Rattle.fm_logs.specs.declared.disks.DiskName.TheVariants.{Conf as ConfDisk, ErrA, ErrB, SlotA}
use Rattle.fm_logs.specs.declared.disks.DiskName.TheVariants.{SlotB, Flt}
use Rattle.fm_store.specs.Rotating.{ChangesJournal, SpareFails, SlotFails, IsBegun}
use Rattle.fm_store.specs.Slots.{FillsSlot, FailsSlot}
use Rattle.fm_store.specs.StoreCalls.{next_entry}
use Rattle.fm_store.specs.StoreLeft.{AreSameStore}
use Rattle.fm_looks.specs.Opening.{slot_name}
use Rattle.fm_store.specs.StoreLimits.{base_of, spare_of, store_of}
use Rattle.fm_store.specs.StoreOf.{StoreOf, StoreBaseOf, of_two, fills_second}
use Rattle.fm_store.proofs.StoreAccepts.{name_of_both}
use Rattle.fm_store.proofs.StoreRotates.{there_is}

module _ {D M : Type 0} (g : Ghosts D) (logs : LogsOf D) (conf : JournalOf D) (spare : Option D)
    (a b : D) (newest : Option (Bool × ℕ)) (moment in_force : ℕ) (kept : List M)
    (states : List (List ℕ)) (frame : SlotOf) (journal : JournalOf D) (first : ℕ) (second : Bool)
    (there : spare ≢ None) (fills : second ≡ fills_second newest) (at : first ≡ next_entry logs)
    (blank : journal ≡ blank_journal journal.disk first)
    (begun : (disk : D) → spare ≡ Some disk → IsBegun g disk journal) where
  -- the store with these disks
  abbrev pub based : LogsOf D → Option D → D → D → StoreOf D M
  based l disk one other =
      store_of l
      (base_of conf (spare_of disk conf.disk) one other newest moment in_force kept states)

  -- the slot is written, and the journal is the active one
  pub journal_changed : (new : LogsOf D) (back : Option D) (one other disk : D)
      (before : JournalOf D)
      → new ≡ record logs { active = journal; second = not logs.second } → before ≡ logs.active
      → disk ≡ before.disk → back ≡ Some disk → of_two second other one ≡ of_two second b a
      → FillsSlot g (of_two second a b) (of_two second one other) frame
      → ChangesJournal g (based logs spare a b) (based new back one other) frame
  journal_changed new back one other disk before changed is from put kept_is written =
      let active = ap (λ (l : LogsOf D). l.active) changed in record {
        journal_is = active ∙ blank ∙ ap (blank_journal journal.disk) at
            ∙ sym (ap (λ (j : JournalOf D). blank_journal j.disk (next_entry logs)) active);
        begun = subst (λ (j : JournalOf D). IsBegun g (spare_of spare conf.disk) j) (sym active)
            (there_is (λ (d : D). IsBegun g d journal) spare conf.disk there begun);
        logs_are = changed ∙ ap (λ (j : JournalOf D). record logs {
          active = j;
          second = not logs.second;
        }) (sym active);
        base_is = ap (λ (d : D). base_of conf d one other newest moment in_force kept states)
            (ap (λ (o : Option D). spare_of o conf.disk) put ∙ from
            ∙ ap (λ (j : JournalOf D). j.disk) is);
        kept_same = subst (λ (s : Bool). of_two s other one ≡ of_two s b a) fills kept_is;
        fills = subst (λ (s : Bool). FillsSlot g (of_two s a b) (of_two s one other) frame) fills
            written;
      }

  -- the slot's disk failed
  pub slot_failed : (back : Option D) (one other disk : D) (name : DiskName) (failures : ℕ)
      → disk ≡ journal.disk → back ≡ Some disk → of_two second other one ≡ of_two second b a
      → FailsSlot g (of_two second a b) (of_two second one other) frame
      → name ≡ slot_name second → failures ≡ g.failures (of_two (fills_second newest) one other)
      → SlotFails g (based logs spare a b) (based logs back one other) frame name failures
  slot_failed back one other disk name failures from put kept_is failed names counts = record {
    base_is = refl;
    kept_same = subst (λ (s : Bool). of_two s other one ≡ of_two s b a) fills kept_is;
    journal = journal;
    disk_is = ap (λ (o : Option D). spare_of o conf.disk) put ∙ from;
    first_is = ap (λ (j : JournalOf D). j.first) blank ∙ at;
    begun = there_is (λ (d : D). IsBegun g d journal) spare conf.disk there begun;
    name_is = names ∙ ap slot_name fills;
    failures_are = counts;
    fails = subst (λ (s : Bool). FailsSlot g (of_two s a b) (of_two s one other) frame) fills
        failed;
  }

-- the names of both slots
slot_names : {D : Type 0} (g : Ghosts D) (f : Bool) (a b one other : D)
    → of_two f other one ≡ of_two f b a → g.name (of_two f one other) ≡ g.name (of_two f a b)
    → (g.name one ≡ g.name a) × (g.name other ≡ g.name b)
slot_names g true a b one other kept same = (ap g.name kept, same)
slot_names g false a b one other kept same = (same, ap g.name kept)

module _ {D M : Type 0} (g : Ghosts D) (old : StoreOf D M) (logs : LogsOf D)
    (base : StoreBaseOf D M) (second : logs.second ≡ old.logs.second)
    (active : logs.active ≡ old.logs.active) (flt : logs.flt ≡ old.logs.flt) where
  same_by : base.conf ≡ old.base.conf → g.name base.spare ≡ g.name old.base.spare
      → g.name base.slot_a ≡ g.name old.base.slot_a → g.name base.slot_b ≡ g.name old.base.slot_b
      → AreSameStore g old (store_of logs base)
  same_by conf spare slot_a slot_b ConfDisk = ap (λ (j : JournalOf D). g.name j.disk) conf
  same_by conf spare slot_a slot_b SlotA = slot_a
  same_by conf spare slot_a slot_b SlotB = slot_b
  same_by conf spare slot_a slot_b Flt = ap (λ (j : JournalOf D). g.name j.disk) flt
  same_by conf spare slot_a slot_b ErrA =
      ap (λ (s : Bool). g.name (of_two s logs.active.disk base.spare)) second
      ∙ name_of_both g old.logs.second logs.active.disk old.logs.active.disk base.spare
      old.base.spare (ap (λ (j : JournalOf D). g.name j.disk) active) spare
  same_by conf spare slot_a slot_b ErrB =
      ap (λ (s : Bool). g.name (of_two s base.spare logs.active.disk)) second
      ∙ name_of_both g old.logs.second base.spare old.base.spare logs.active.disk
      old.logs.active.disk spare (ap (λ (j : JournalOf D). g.name j.disk) active)

  -- where one of the two disks failed, all are the same ones
  pub failed_same : (mid : LogsOf D) (frame : SlotOf) (name : DiskName) (failures : ℕ)
      → SpareFails g old (store_of mid base) name failures
      ⊎ SlotFails g old (store_of mid base) frame name failures
      → AreSameStore g old (store_of logs base)
  failed_same mid frame name failures (inl fails) =
      same_by (ap (λ (x : StoreBaseOf D M). x.conf) fails.base_is) fails.spoilt.same_disk
      (ap (λ (x : StoreBaseOf D M). g.name x.slot_a) fails.base_is)
      (ap (λ (x : StoreBaseOf D M). g.name x.slot_b) fails.base_is)
  failed_same mid frame name failures (inr fails) =
      let names = slot_names g (fills_second old.base.newest) old.base.slot_a old.base.slot_b
      base.slot_a base.slot_b fails.kept_same fails.fails.same_disk in
      same_by (ap (λ (x : StoreBaseOf D M). x.conf) fails.base_is)
      (ap g.name fails.disk_is ∙ fails.begun.same_disk) names.0 names.1
