-- A store of which a log was read stands for the same book.
use Rattle.std.proofs.Common.{◌≡◌, ℕ, ◌<◌, ◌^◌, ◌∙◌, ◌++◌, List, length, Result, Ok, Err, IfOk}
use Rattle.std.proofs.Common.{IfErr, Bool, refl, ap, sym, subst}
use Rattle.std.specs.Global.{Vec}
use Rattle.fm_core.specs.Book.{ModuleState, greatest_from}
use Rattle.fm_entry.specs.declared.entry.Entry.{Entry}
use Rattle.fm_entry.specs.declared.spoken.Spoken.{Spoken}
use Rattle.fm_outer.specs.declared.disk.Disk.{Ghosts}
use Rattle.fm_logs.specs.LogReads.{AreLogged, AreOrdered, AreSpoken, ReadsLogged, ReadsSpoken}
use Rattle.fm_logs.specs.LogReads.{UnreadLog}
use Rattle.fm_logs.specs.LogsOf.{LogsKeep, LogsOf}
use Rattle.fm_logs.specs.StoreBook.{StoreBook, force_along}
use Rattle.fm_logs.specs.declared.disks.DiskName.{DiskName}
use Rattle.fm_logs.specs.declared.fault.StoreFault.{StoreFault}
use Rattle.fm_logs.specs.declared.fault.StoreFault.TheVariants.{Closed, Damaged, Disk, Exists, Full}
use Rattle.fm_logs.specs.declared.fault.StoreFault.TheVariants.{NoMemory}
use Rattle.fm_store.specs.StoreLeft.{AreSameStore}
use Rattle.fm_store.specs.StoreLimits.{IsStore, store_of}
use Rattle.fm_store.specs.StoreOf.{SlotsSay, StoreBaseOf, StoreOf, StoreStandsFor}
use Rattle.fm_store.specs.StoreReading.{HasLogged, IsNoDamage}
use Rattle.fm_store.proofs.StoreAccepts.{same_store}

-- the store with other logs
abbrev with_other_logs : {D M : Type 0} → StoreOf D M → LogsOf D → StoreOf D M
with_other_logs store logs = record store { logs = logs }

-- what is known beside the logs does not rest on a disk
pub sound_still : {D M : Type 0} (old new : LogsOf D) (base : StoreBaseOf D M)
    (greatest in_force : ℕ) → IsStore (store_of old base) greatest in_force
    → new.entries ≡ old.entries → new.cursors ≡ old.cursors
    → IsStore (store_of new base) greatest in_force
sound_still old new base greatest in_force is entries cursors = record {
  few_modules =
      subst (λ (l : List ℕ). length l < 2 ^ 32) (sym cursors) is.few_modules;
  greatest_is =
      is.greatest_is ∙ ap (λ (l : List Entry). greatest_from base.moment l) (sym entries);
  moment_fits = is.moment_fits;
  in_force_is =
      is.in_force_is ∙ ap (λ (l : List Entry). force_along base.in_force l) (sym entries);
}

pub spoken_sound : {D M : Type 0} (g : Ghosts D) (old new : LogsOf D) (base : StoreBaseOf D M)
    (greatest in_force : ℕ) → IsStore (store_of old base) greatest in_force
    → ReadsSpoken g old new → IsStore (store_of new base) greatest in_force
spoken_sound {D = D} g old new base greatest in_force is reads =
    sound_still old new base greatest in_force is
    (ap (λ (l : LogsOf D). l.entries) reads.logs_are)
    (ap (λ (l : LogsOf D). l.cursors) reads.logs_are)

pub logged_sound : {D M : Type 0} (g : Ghosts D) (old new : LogsOf D) (base : StoreBaseOf D M)
    (greatest in_force : ℕ) → IsStore (store_of old base) greatest in_force
    → ReadsLogged g old new → IsStore (store_of new base) greatest in_force
logged_sound {D = D} g old new base greatest in_force is reads =
    sound_still old new base greatest in_force is
    (ap (λ (l : LogsOf D). l.entries) reads.logs_are)
    (ap (λ (l : LogsOf D). l.cursors) reads.logs_are)

pub spoken_same : {D M : Type 0} (g : Ghosts D) (old new : LogsOf D) (base : StoreBaseOf D M)
    → ReadsSpoken g old new → AreSameStore g (store_of old base) (store_of new base)
spoken_same {D = D} g old new base reads =
    same_store g (store_of old base) (store_of new base)
    (ap (λ (l : LogsOf D). l.second) reads.logs_are) refl
    (ap (λ (l : LogsOf D). g.name l.active.disk) reads.logs_are, reads.still.same_disk)

pub logged_same : {D M : Type 0} (g : Ghosts D) (old new : LogsOf D) (base : StoreBaseOf D M)
    → ReadsLogged g old new → AreSameStore g (store_of old base) (store_of new base)
logged_same {D = D} g old new base reads =
    same_store g (store_of old base) (store_of new base)
    (ap (λ (l : LogsOf D). l.second) reads.logs_are) refl
    (reads.still.same_disk, ap (λ (l : LogsOf D). g.name l.flt.disk) reads.logs_are)

module _ {D M : Type 0} (g : Ghosts D) (fresh : List ModuleState) (old : StoreOf D M)
    (k : StoreBook) (stands : StoreStandsFor g fresh old k) where
  -- logs that keep the same and are as long stand for the same
  stands_still : (logs : LogsOf D) → LogsKeep g logs stands.older k.book.records
      → logs.base ≡ old.logs.base → logs.entries ≡ old.logs.entries
      → logs.cursors ≡ old.logs.cursors → logs.second ≡ old.logs.second
      → StoreStandsFor g fresh (with_other_logs old logs) k
  stands_still logs keep base entries cursors second = record {
    older = stands.older;
    keep = keep;
    base_is = base ∙ stands.base_is;
    entries_are = entries ∙ stands.entries_are;
    cursors_are = cursors ∙ stands.cursors_are;
    conf_payloads = stands.conf_payloads;
    confs_keep = stands.confs_keep;
    confs_spelled = stands.confs_spelled;
    slots = subst (λ (s : Bool). SlotsSay g fresh s old.base k) (sym second) stands.slots;
    spare_told = stands.spare_told;
    moment_is = stands.moment_is;
    force_is = stands.force_is;
    loaded = stands.loaded;
    know = stands.know;
    lawful = stands.lawful;
  }

  pub stands_spoken : (new : StoreOf D M) → new.base ≡ old.base
      → ReadsSpoken g old.logs new.logs → StoreStandsFor g fresh new k
  stands_spoken new base reads =
      subst (λ (s : StoreOf D M). StoreStandsFor g fresh s k)
      (ap (λ b. record { logs = new.logs; base = b }) (sym base))
      (stands_still new.logs (reads.keeps stands.older k.book.records stands.keep)
      (ap (λ (l : LogsOf D). l.base) reads.logs_are)
      (ap (λ (l : LogsOf D). l.entries) reads.logs_are)
      (ap (λ (l : LogsOf D). l.cursors) reads.logs_are)
      (ap (λ (l : LogsOf D). l.second) reads.logs_are))

  pub stands_logged : (new : StoreOf D M) → new.base ≡ old.base
      → ReadsLogged g old.logs new.logs → StoreStandsFor g fresh new k
  stands_logged new base reads =
      subst (λ (s : StoreOf D M). StoreStandsFor g fresh s k)
      (ap (λ b. record { logs = new.logs; base = b }) (sym base))
      (stands_still new.logs (reads.keeps stands.older k.book.records stands.keep)
      (ap (λ (l : LogsOf D). l.base) reads.logs_are)
      (ap (λ (l : LogsOf D). l.entries) reads.logs_are)
      (ap (λ (l : LogsOf D). l.cursors) reads.logs_are)
      (ap (λ (l : LogsOf D). l.second) reads.logs_are))

  -- the records, in order
  pub records_told : {E : Type 0} (new : LogsOf D) (result : Result (Vec Spoken) E)
      → IfOk result (λ found. AreSpoken g old.logs new found.items)
      → IfOk result (λ found. AreOrdered k.book.records found.items)
  records_told new (Ok found) spoken = spoken.are stands.older k.book.records stands.keep
  records_told new (Err fault) spoken = tt

  -- the entries, from the journal's first number on
  pub entries_told : {E : Type 0} (new : LogsOf D) (result : Result (Vec Entry) E)
      → IfOk result (λ found. AreLogged g old.logs new found.items)
      → IfOk result (λ found. HasLogged old.logs.active.first k.book found.items)
  entries_told new (Ok found) logged = record {
    older = stands.older;
    begins = stands.keep.begins ∙ stands.base_is;
    found_are = logged.are stands.older k.book.records stands.keep
        ∙ ap (λ (l : List Entry). stands.older ++ l) stands.entries_are;
  }
  entries_told new (Err fault) logged = tt

  no_damage : (name : DiskName) (new : LogsOf D) (before now : D) (fault : StoreFault)
      → UnreadLog g name old.logs new before now fault → IsNoDamage fault
  no_damage name new before now (Damaged disk place) why =
      why.2 stands.older k.book.records stands.keep
  no_damage name new before now Disk why = tt
  no_damage name new before now (Closed disk failures) why = tt
  no_damage name new before now (Full kind) why = tt
  no_damage name new before now Exists why = tt
  no_damage name new before now NoMemory why = tt

  -- no damage is found
  pub told_undamaged : {X : Type 0} (name : DiskName) (new : LogsOf D) (before now : D)
      (result : Result X StoreFault) → IfErr result (UnreadLog g name old.logs new before now)
      → IfErr result IsNoDamage
  told_undamaged name new before now (Ok found) why = tt
  told_undamaged name new before now (Err fault) why = no_damage name new before now fault why
