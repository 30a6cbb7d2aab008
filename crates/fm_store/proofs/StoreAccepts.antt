-- An entry more, and a step more, in the logs of a store.
use Rattle.std.proofs.Common.{◌≡◌, ◌≢◌, inl, inr, ℕ, List, [], ◌∷◌, ◌++◌, length}
use Rattle.std.proofs.Common.{Bool, true, false, Result, Ok, Err, refl, sym}
use Rattle.std.proofs.Common.{◌∙◌, ap, subst, append_assoc, arith, max}
use Rattle.std.specs.Prelude.{OnOk}
use Rattle.fm_core.specs.Book.{ModuleState, greatest_from}
use Rattle.fm_entry.specs.Entries.{IsSpelled, moment_of}
use Rattle.fm_entry.specs.declared.entry.Entry.{Entry}
use Rattle.fm_entry.specs.declared.spoken.Spoken.{Spoken}
use Rattle.fm_journal.specs.JournalOf.{JournalOf}
use Rattle.fm_outer.specs.Moments.{LeavesOnly}
use Rattle.fm_outer.specs.declared.disk.Disk.{Ghosts}
use Rattle.fm_outer.proofs.Moments.{CountsNow, leaves-weaker}
use Rattle.fm_logs.specs.Contents.{Contents}
use Rattle.fm_logs.specs.LogsOf.{LogsOf, AreSameLogs, IsLogWith, TakesEntry, AcceptDoes}
use Rattle.fm_logs.specs.LogsOf.{AcceptLeaves}
use Rattle.fm_logs.specs.LogsOf.{name_of_two}
use Rattle.fm_logs.specs.ReadsAsBook.{IsLog, SpellsEntry, SaysBook}
use Rattle.fm_logs.specs.StoreBook.{StoreBook, IsLawfulStore, store_accepted, with_book}
use Rattle.fm_logs.specs.StoreBook.{force_along}
use Rattle.fm_logs.specs.declared.disks.DiskName.{DiskName}
use Rattle.fm_logs.specs.declared.disks.DiskName.TheVariants.{Conf as ConfDisk, ErrA, ErrB, SlotA}
use Rattle.fm_logs.specs.declared.disks.DiskName.TheVariants.{SlotB, Flt}
use Rattle.fm_logs.specs.declared.fault.StoreFault.{StoreFault}
use Rattle.fm_logs.specs.declared.fault.StoreFault.TheVariants.{Disk, Full, Closed, Damaged}
use Rattle.fm_logs.specs.declared.fault.StoreFault.TheVariants.{Exists, NoMemory}
use Rattle.fm_store.specs.StoreOf.{StoreOf, StoreBaseOf, StoreStandsFor, SlotsSay, of_two}
use Rattle.fm_store.specs.StoreLeft.{store_disk, with_content, AreSameStore}
use Rattle.fm_store.specs.StoreLeft.{OthersAreLeft, MomentsOn}
use Rattle.fm_store.specs.StoreLeft.{ReadsLikeEither}
use Rattle.fm_store.specs.StoreLimits.{store_of, IsStore}
use Rattle.fm_store.specs.StoreCalls.{AcceptsOnBook}
use Rattle.fm_store.proofs.StoreReads.{like_active, says_left}
use Rattle.fm_store.proofs.StoreReads.{records_left, left_now, says_with}
use Rattle.fm_looks.proofs.Reloads.{force_append}
use Rattle.fm_store.proofs.Based.{greatest_push}

-- no name of an error journal's disk is another name
pub conf_differs : (second : Bool) → ConfDisk ≢ name_of_two second
conf_differs true same = cc same
conf_differs false same = cc same

pub slot_a_differs : (second : Bool) → SlotA ≢ name_of_two second
slot_a_differs true same = cc same
slot_a_differs false same = cc same

pub slot_b_differs : (second : Bool) → SlotB ≢ name_of_two second
slot_b_differs true same = cc same
slot_b_differs false same = cc same

pub flt_differs : (second : Bool) → Flt ≢ name_of_two second
flt_differs true same = cc same
flt_differs false same = cc same

-- the book with an entry more, and one with other cursors and records, have the same base
pub slots_beside : {D M : Type 0} (g : Ghosts D) (fresh : List ModuleState) (second : Bool)
    (base : StoreBaseOf D M) (k : StoreBook) (entries : List Entry) (cursors : List ℕ)
    (records : List Spoken) → SlotsSay g fresh second base k
    → SlotsSay g fresh second base (with_book k (record k.book {
      entries = entries;
      cursors = cursors;
      records = records;
    }))
slots_beside g fresh second base k entries cursors records slots = record {
  found = slots.found;
  newest_is = slots.newest_is;
  kept = slots.kept;
  beside = slots.beside;
  checkpoint = slots.checkpoint;
  says = slots.says;
  second_is = slots.second_is;
  base_is = slots.base_is;
  moment_is = slots.moment_is;
  force_is = slots.force_is;
}

-- what a call on one of the logs leaves as it was
pub record KeepsLogs {D : Type 0} (old new : LogsOf D) : Type 0 where
  pub base_same : new.base ≡ old.base
  pub second_same : new.second ≡ old.second
  pub as_many : length new.cursors ≡ length old.cursors

pub record KeepsFlt {D : Type 0} (old new : LogsOf D) : Type 0 where
  pub keeps : KeepsLogs old new
  pub flt_same : new.flt ≡ old.flt

pub record KeepsActive {D : Type 0} (old new : LogsOf D) : Type 0 where
  pub keeps : KeepsLogs old new
  pub active_same : new.active ≡ old.active
  pub entries_same : new.entries ≡ old.entries

-- the entries after it
abbrev pub entries_after : Result ℕ StoreFault → List Entry → Entry → List Entry
entries_after (Ok n) es e = es ++ e ∷ []
entries_after (Err fault) es e = es

same_flt : {D : Type 0} (old new : LogsOf D) → new ≡ old → KeepsFlt old new
same_flt {D = D} old new is = record {
  keeps = record {
    base_same = ap (λ (l : LogsOf D). l.base) is;
    second_same = ap (λ (l : LogsOf D). l.second) is;
    as_many = ap (λ (l : LogsOf D). length l.cursors) is;
  };
  flt_same = ap (λ (l : LogsOf D). l.flt) is;
}

pub same_active : {D : Type 0} (old new : LogsOf D) → new ≡ old → KeepsActive old new
same_active {D = D} old new is = record {
  keeps = (same_flt old new is).keeps;
  active_same = ap (λ (l : LogsOf D). l.active) is;
  entries_same = ap (λ (l : LogsOf D). l.entries) is;
}

module _ {D : Type 0} (g : Ghosts D) where
  pub accept_keeps : (old new : LogsOf D) (e : Entry) (result : Result ℕ StoreFault)
      → AcceptDoes g old new e result
      → KeepsFlt old new × (new.entries ≡ entries_after result old.entries e)
  accept_keeps old new e (Ok n) does = (
    record {
      keeps = record {
        base_same = ap (λ (l : LogsOf D). l.base) does.logs_are;
        second_same = ap (λ (l : LogsOf D). l.second) does.logs_are;
        as_many = ap (λ (l : LogsOf D). length l.cursors) does.logs_are;
      };
      flt_same = ap (λ (l : LogsOf D). l.flt) does.logs_are;
    },
    ap (λ (l : LogsOf D). l.entries) does.logs_are,
  )
  accept_keeps old new e (Err Disk) does = (
    record {
      keeps = record {
        base_same = ap (λ (l : LogsOf D). l.base) does.1.logs_are;
        second_same = ap (λ (l : LogsOf D). l.second) does.1.logs_are;
        as_many = ap (λ (l : LogsOf D). length l.cursors) does.1.logs_are;
      };
      flt_same = ap (λ (l : LogsOf D). l.flt) does.1.logs_are;
    },
    ap (λ (l : LogsOf D). l.entries) does.1.logs_are,
  )
  accept_keeps old new e (Err (Full kind)) does =
      (same_flt old new does.0, ap (λ (l : LogsOf D). l.entries) does.0)
  accept_keeps old new e (Err (Closed name failures)) does =
      (same_flt old new does.0, ap (λ (l : LogsOf D). l.entries) does.0)
  accept_keeps old new e (Err NoMemory) does =
      (same_flt old new does.0, ap (λ (l : LogsOf D). l.entries) does.0)
  accept_keeps old new e (Err (Damaged name place)) does = absurd does
  accept_keeps old new e (Err Exists) does = absurd does

module _ {D : Type 0} (g : Ghosts D) where
  -- the names of the disks are the same
  pub name_of_both : (second : Bool) (a b one other : D) → g.name a ≡ g.name b
      → g.name one ≡ g.name other
      → g.name (of_two second a one) ≡ g.name (of_two second b other)
  name_of_both true a b one other same others = others
  name_of_both false a b one other same others = same

module _ {D M : Type 0} (g : Ghosts D) where
  -- where the fault log and what stands beside the logs are the same, only the active journal's
  -- disk may be another
  others_of_active : (second : Bool) (old new : StoreOf D M) → old.logs.second ≡ second
      → new.logs.second ≡ second → new.logs.flt ≡ old.logs.flt → new.base ≡ old.base
      → (other : DiskName) → other ≢ name_of_two second
      → store_disk other new ≡ store_disk other old
  others_of_active second old new was is flt base ConfDisk differs =
      ap (λ (b : StoreBaseOf D M). b.conf.disk) base
  others_of_active second old new was is flt base SlotA differs =
      ap (λ (b : StoreBaseOf D M). b.slot_a) base
  others_of_active second old new was is flt base SlotB differs =
      ap (λ (b : StoreBaseOf D M). b.slot_b) base
  others_of_active second old new was is flt base Flt differs =
      ap (λ (j : JournalOf D). j.disk) flt
  others_of_active true old new was is flt base ErrA differs =
      ap (λ (s : Bool). of_two s new.logs.active.disk new.base.spare) is
      ∙ ap (λ (b : StoreBaseOf D M). b.spare) base
      ∙ sym (ap (λ (s : Bool). of_two s old.logs.active.disk old.base.spare) was)
  others_of_active true old new was is flt base ErrB differs = absurd (differs refl)
  others_of_active false old new was is flt base ErrA differs = absurd (differs refl)
  others_of_active false old new was is flt base ErrB differs =
      ap (λ (s : Bool). of_two s new.base.spare new.logs.active.disk) is
      ∙ ap (λ (b : StoreBaseOf D M). b.spare) base
      ∙ sym (ap (λ (s : Bool). of_two s old.base.spare old.logs.active.disk) was)

  -- the disk of the active journal is the one of its name
  pub active_disk : (second : Bool) (store : StoreOf D M) → store.logs.second ≡ second
      → store_disk (name_of_two second) store ≡ store.logs.active.disk
  active_disk true store is =
      ap (λ (s : Bool). of_two s store.base.spare store.logs.active.disk) is
  active_disk false store is =
      ap (λ (s : Bool). of_two s store.logs.active.disk store.base.spare) is

  pub same_store : (old new : StoreOf D M) → new.logs.second ≡ old.logs.second
      → new.base ≡ old.base → AreSameLogs g old.logs new.logs → AreSameStore g old new
  same_store old new second base same ConfDisk =
      ap (λ (b : StoreBaseOf D M). g.name b.conf.disk) base
  same_store old new second base same SlotA =
      ap (λ (b : StoreBaseOf D M). g.name b.slot_a) base
  same_store old new second base same SlotB =
      ap (λ (b : StoreBaseOf D M). g.name b.slot_b) base
  same_store old new second base same Flt = same.1
  same_store old new second base same ErrA =
      ap (λ (s : Bool). g.name (of_two s new.logs.active.disk new.base.spare)) second
      ∙ name_of_both g old.logs.second new.logs.active.disk old.logs.active.disk new.base.spare
      old.base.spare same.0 (ap (λ (b : StoreBaseOf D M). g.name b.spare) base)
  same_store old new second base same ErrB =
      ap (λ (s : Bool). g.name (of_two s new.base.spare new.logs.active.disk)) second
      ∙ name_of_both g old.logs.second new.base.spare old.base.spare new.logs.active.disk
      old.logs.active.disk (ap (λ (b : StoreBaseOf D M). g.name b.spare) base) same.0

  -- after an entry was taken the store stands for the accepted book
  pub accept_stands : (fresh : List ModuleState) (old : StoreOf D M) (logs : LogsOf D)
      (k : StoreBook) (e : Entry) (n : ℕ) → StoreStandsFor g fresh old k
      → IsLawfulStore (store_accepted k e) → TakesEntry g old.logs logs e n
      → StoreStandsFor g fresh (store_of logs old.base) (store_accepted k e)
  accept_stands fresh old logs k e n st lawful takes = record {
    older = st.older;
    keep = takes.keeps st.older k.book.records st.keep;
    base_is = ap (λ (l : LogsOf D). l.base) takes.logs_are ∙ st.base_is;
    entries_are = ap (λ (l : LogsOf D). l.entries) takes.logs_are
        ∙ ap (λ (es : List Entry). es ++ e ∷ []) st.entries_are;
    cursors_are = ap (λ (l : LogsOf D). l.cursors) takes.logs_are ∙ st.cursors_are;
    conf_payloads = st.conf_payloads;
    confs_keep = st.confs_keep;
    confs_spelled = st.confs_spelled;
    slots = subst (λ (s : Bool). SlotsSay g fresh s old.base (store_accepted k e))
        (sym (ap (λ (l : LogsOf D). l.second) takes.logs_are))
        (slots_beside g fresh old.logs.second old.base k (k.book.entries ++ e ∷ [])
        k.book.cursors k.book.records st.slots);
    spare_told = st.spare_told;
    moment_is = st.moment_is;
    force_is = st.force_is;
    loaded = st.loaded;
    know = st.know;
    lawful = lawful;
  }

  -- the image of the active journal's disk reads like either, beside the others
  abbrev pub IsRead : StoreOf D M → StoreBook → Entry → List ModuleState → List ℕ → Type 0
  IsRead old k e fresh image = (c : Contents) → OthersAreLeft g old (name_of_two old.logs.second) c
      → ReadsLikeEither fresh k (store_accepted k e)
      (with_content (name_of_two old.logs.second) image c)

  -- at each moment of it a crash leaves the book of before, or that one
  accept_moments : (fresh : List ModuleState) (old : StoreOf D M) (logs : LogsOf D)
      (k : StoreBook) (e : Entry) → StoreStandsFor g fresh old k
      → IsLawfulStore (store_accepted k e) → AcceptLeaves g old.logs logs e
      → logs.second ≡ old.logs.second
      → MomentsOn g (name_of_two old.logs.second) old (store_of logs old.base)
      (ReadsLikeEither fresh k (store_accepted k e))
  accept_moments fresh old logs k e st lawful leaves is =
      subst (λ (d : D). LeavesOnly g d (store_disk (name_of_two old.logs.second)
      (store_of logs old.base)) (IsRead old k e fresh))
      (sym (active_disk old.logs.second old refl))
      (subst (λ (d : D). LeavesOnly g old.logs.active.disk d (IsRead old k e fresh))
      (sym (active_disk old.logs.second (store_of logs old.base) is))
      (leaves-weaker g old.logs.active.disk logs.active.disk
      (IsLogWith SpellsEntry old.logs.active.first (st.older ++ old.logs.entries) (e ∷ []))
      (IsRead old k e fresh) (leaves st.older k.book.records st.keep) (λ image either c others.
      let says = says_left g fresh old k c st
      (others ConfDisk (conf_differs old.logs.second))
      (others SlotA (slot_a_differs old.logs.second))
      (others SlotB (slot_b_differs old.logs.second)) in
      let records = records_left g fresh old k c.flt st
      (others Flt (flt_differs old.logs.second)) in
      elim either [
        | inl before ↦ inl (like_active fresh c old.logs.second k old.logs.active.first
            old.logs.flt.first st.older image says st.lawful (st.keep.begins ∙ st.base_is)
            (subst (λ (es : List Entry).
            IsLog SpellsEntry image old.logs.active.first (st.older ++ es)) st.entries_are before)
            records)
        | inr after ↦ inr (like_active fresh c old.logs.second (store_accepted k e)
            old.logs.active.first old.logs.flt.first st.older image
            (says_more says) lawful (st.keep.begins ∙ st.base_is)
            (subst (λ (es : List Entry). IsLog SpellsEntry image old.logs.active.first es)
            (append_assoc st.older old.logs.entries (e ∷ [])
            ∙ ap (λ (es : List Entry). st.older ++ (es ++ e ∷ [])) st.entries_are) after)
            records)
      ])))
    where
      says_more : {c : Contents} → SaysBook fresh c old.logs.second k
          → SaysBook fresh c old.logs.second (store_accepted k e)
      says_more {c = c} says =
          says_with fresh c old.logs.second (store_accepted k e) says.conf_first says.found
          says.checkpoint says.confs says.in_force says.says says.second_is says.base_is
          says.moment_is says.force_is

  -- what it makes of a book
  pub accepts_on_book : CountsNow g → (fresh : List ModuleState) (old : StoreOf D M)
      (logs : LogsOf D) (k : StoreBook) (e : Entry) (result : Result ℕ StoreFault)
      → AcceptDoes g old.logs logs e result → AcceptLeaves g old.logs logs e
      → StoreStandsFor g fresh old k → IsLawfulStore (store_accepted k e)
      → AcceptsOnBook g fresh old (store_of logs old.base) k e result
  accepts_on_book counts fresh old logs k e result does leaves st lawful =
      let kept = (accept_keeps g old.logs logs e result does).0 in
      let moments = accept_moments fresh old logs k e st lawful leaves kept.keeps.second_same in
      record {
        stands = stands_by result does;
        any_moment = moments;
        left = left_now g counts (name_of_two old.logs.second) old (store_of logs old.base)
            (ReadsLikeEither fresh k (store_accepted k e)) moments
            (others_of_active old.logs.second old (store_of logs old.base) refl
            kept.keeps.second_same kept.flt_same refl);
      }
    where
      stands_by : (r : Result ℕ StoreFault) → AcceptDoes g old.logs logs e r
          → OnOk r (StoreStandsFor g fresh (store_of logs old.base) (store_accepted k e))
      stands_by (Ok n) does = accept_stands fresh old logs k e n st lawful does
      stands_by (Err fault) does = tt

-- the greatest moment and the number in force go on with the entry
pub accept_sound : {D M : Type 0} (g : Ghosts D) (old logs : LogsOf D) (base : StoreBaseOf D M)
    (e : Entry) (n greatest in_force next_greatest next_force : ℕ)
    → IsStore (store_of old base) greatest in_force → IsSpelled e
    → AcceptDoes g old logs e (Ok n) → next_greatest ≡ max greatest (moment_of e)
    → next_force ≡ force_along in_force (e ∷ [])
    → IsStore (store_of logs base) next_greatest next_force
accept_sound g old logs base e n greatest in_force next_greatest next_force sound spelled does
    greatest_is force_is =
    let kept = accept_keeps g old logs e (Ok n) does in record {
      few_modules = omega (arith, sound.few_modules, kept.0.keeps.as_many);
      greatest_is = greatest_is
          ∙ ap (λ (t : ℕ). max t (moment_of e)) sound.greatest_is
          ∙ sym (greatest_push base.moment old.entries e)
          ∙ sym (ap (λ (es : List Entry). greatest_from base.moment es) kept.1);
      moment_fits = omega (arith, greatest_is, sound.moment_fits, spelled.moment_fits);
      in_force_is = force_is
          ∙ ap (λ (m : ℕ). force_along m (e ∷ [])) sound.in_force_is
          ∙ sym (force_append base.in_force old.entries (e ∷ []))
          ∙ sym (ap (λ (es : List Entry). force_along base.in_force es) kept.1);
    }
