-- A step more in the fault log of a store.
use Rattle.std.proofs.Common.{◌≡◌, ◌≢◌, inl, inr, ℕ, ◌+◌, List, ◌++◌, length}
use Rattle.std.proofs.Common.{Bool, Option, Some, None, Result, Ok, Err, refl, sym}
use Rattle.std.proofs.Common.{◌∙◌, ap, subst, slice_set}
use Rattle.fm_core.specs.Book.{Book, ModuleState, IsLawful}
use Rattle.fm_core.proofs.Drains.{drained_worked}
use Rattle.fm_core.proofs.Runs.{lawful_worked}
use Rattle.fm_entry.specs.declared.spoken.Spoken.{Spoken}
use Rattle.fm_journal.specs.JournalOf.{JournalOf}
use Rattle.fm_outer.specs.declared.disk.Disk.{Ghosts}
use Rattle.fm_outer.proofs.Moments.{CountsNow, leaves-weaker}
use Rattle.fm_logs.specs.Contents.{Contents, active_of_two}
use Rattle.fm_logs.specs.LogsBook.{IsStepOf, DrainAlike, store_worked}
use Rattle.fm_logs.specs.LogsOf.{LogsOf, IsLogWith, Commits, CommitDoes, CommitLeaves}
use Rattle.fm_logs.specs.ReadsAsBook.{SpellsSpoken, SaysBook}
use Rattle.fm_logs.specs.StoreBook.{StoreBook, IsLawfulStore, with_book}
use Rattle.fm_logs.specs.declared.disks.DiskName.{DiskName}
use Rattle.fm_logs.specs.declared.disks.DiskName.TheVariants.{Conf as ConfDisk, ErrA, ErrB, SlotA}
use Rattle.fm_logs.specs.declared.disks.DiskName.TheVariants.{SlotB, Flt}
use Rattle.fm_logs.specs.declared.fault.StoreFault.{StoreFault}
use Rattle.fm_logs.specs.declared.fault.StoreFault.TheVariants.{Disk, Full, Closed, Damaged}
use Rattle.fm_logs.specs.declared.fault.StoreFault.TheVariants.{Exists, NoMemory}
use Rattle.fm_logs.specs.declared.logs.Committed.{Committed}
use Rattle.fm_logs.specs.declared.logs.Committed.TheVariants.{Done, Stale}
use Rattle.fm_store.specs.StoreOf.{StoreOf, StoreBaseOf, StoreStandsFor, SlotsSay, of_two}
use Rattle.fm_store.specs.StoreLeft.{store_disk, with_content, MomentsOn, ReadsLike}
use Rattle.fm_store.specs.StoreLimits.{store_of}
use Rattle.fm_store.specs.StoreCalls.{CommitsOnBook, CommitStands}
use Rattle.fm_store.proofs.StoreReads.{like_flt, like_through, left_active, says_left}
use Rattle.fm_store.proofs.StoreReads.{entries_left, left_now, says_with}
use Rattle.fm_store.proofs.StoreAccepts.{KeepsActive, same_active, slots_beside}
use Rattle.std.proofs.lemmas.List.{length-set}

-- the book after a step, and that it is lawful
abbrev stepped_book : StoreBook → ℕ → ℕ → List Spoken → StoreBook
stepped_book k i n said = with_book k (record k.book {
  cursors = slice_set k.book.cursors i (n + 1);
  records = k.book.records ++ said;
})

step_lawful : (k : StoreBook) (i n : ℕ) (frame : Option (List ℕ)) → IsLawfulStore k
    → (step : IsStepOf k.book i n frame) → IsLawfulStore (stepped_book k i n step.said)
step_lawful k i n frame lawful step = record {
  some_confs = lawful.some_confs;
  few_confs = lawful.few_confs;
  confs_are = lawful.confs_are;
  known = lawful.known;
  of_conf = lawful.of_conf;
  reloads = lawful.reloads;
  lawful = subst IsLawful step.worked_is (lawful_worked k.book i lawful.lawful);
}

step_alike : (k : StoreBook) (i n : ℕ) (frame : Option (List ℕ)) → IsLawfulStore k
    → (step : IsStepOf k.book i n frame)
    → DrainAlike (stepped_book k i n step.said).book k.book
step_alike k i n frame lawful step =
    subst (λ (b : Book). DrainAlike b k.book) step.worked_is
    (λ es. drained_worked k.book i es lawful.lawful)

module _ {D : Type 0} (g : Ghosts D) where
  pub commit_keeps : (old new : LogsOf D) (i n : ℕ) (frame : Option (List ℕ))
      (result : Result Committed StoreFault) → CommitDoes g old new i n frame result
      → KeepsActive old new
  commit_keeps old new i n frame (Ok Done) does = record {
    keeps = record {
      base_same = ap (λ (l : LogsOf D). l.base) does.logs_are;
      second_same = ap (λ (l : LogsOf D). l.second) does.logs_are;
      as_many = ap (λ (l : LogsOf D). length l.cursors) does.logs_are
          ∙ length-set old.cursors i (n + 1);
    };
    active_same = ap (λ (l : LogsOf D). l.active) does.logs_are;
    entries_same = ap (λ (l : LogsOf D). l.entries) does.logs_are;
  }
  commit_keeps old new i n frame (Ok (Stale cursor)) does = same_active old new does.logs_same
  commit_keeps old new i n frame (Err (Closed name failures)) does = same_active old new does.0
  commit_keeps old new i n (Some payload) (Err (Full kind)) does = same_active old new does.1.0
  commit_keeps old new i n (Some payload) (Err Disk) does = record {
    keeps = record {
      base_same = ap (λ (l : LogsOf D). l.base) does.1.1.logs_are;
      second_same = ap (λ (l : LogsOf D). l.second) does.1.1.logs_are;
      as_many = ap (λ (l : LogsOf D). length l.cursors) does.1.1.logs_are;
    };
    active_same = ap (λ (l : LogsOf D). l.active) does.1.1.logs_are;
    entries_same = ap (λ (l : LogsOf D). l.entries) does.1.1.logs_are;
  }
  commit_keeps old new i n (Some payload) (Err NoMemory) does = absurd does.1
  commit_keeps old new i n (Some payload) (Err (Damaged name place)) does = absurd does.1
  commit_keeps old new i n (Some payload) (Err Exists) does = absurd does.1
  commit_keeps old new i n None (Err Disk) does = absurd does.1
  commit_keeps old new i n None (Err (Full kind)) does = absurd does.1
  commit_keeps old new i n None (Err NoMemory) does = absurd does.1
  commit_keeps old new i n None (Err (Damaged name place)) does = absurd does.1
  commit_keeps old new i n None (Err Exists) does = absurd does.1

module _ {D M : Type 0} (g : Ghosts D) where
  -- where the active journal and what stands beside the logs are the same, only the fault log's
  -- disk may be another
  others_of_flt : (old new : StoreOf D M) → new.logs.second ≡ old.logs.second
      → new.logs.active ≡ old.logs.active → new.base ≡ old.base
      → (other : DiskName) → other ≢ Flt → store_disk other new ≡ store_disk other old
  others_of_flt old new is active base ConfDisk differs =
      ap (λ (b : StoreBaseOf D M). b.conf.disk) base
  others_of_flt old new is active base SlotA differs =
      ap (λ (b : StoreBaseOf D M). b.slot_a) base
  others_of_flt old new is active base SlotB differs =
      ap (λ (b : StoreBaseOf D M). b.slot_b) base
  others_of_flt old new is active base Flt differs = absurd (differs refl)
  others_of_flt old new is active base ErrA differs =
      ap (λ (s : Bool). of_two s new.logs.active.disk new.base.spare) is
      ∙ ap (λ (j : JournalOf D). of_two old.logs.second j.disk new.base.spare) active
      ∙ ap (λ (b : StoreBaseOf D M). of_two old.logs.second old.logs.active.disk b.spare) base
  others_of_flt old new is active base ErrB differs =
      ap (λ (s : Bool). of_two s new.base.spare new.logs.active.disk) is
      ∙ ap (λ (j : JournalOf D). of_two old.logs.second new.base.spare j.disk) active
      ∙ ap (λ (b : StoreBaseOf D M). of_two old.logs.second b.spare old.logs.active.disk) base

  pub commit_stands : (fresh : List ModuleState) (old : StoreOf D M) (logs : LogsOf D)
      (k : StoreBook) (i n : ℕ) (frame : Option (List ℕ)) → StoreStandsFor g fresh old k
      → IsStepOf k.book i n frame → Commits g old.logs logs i n frame
      → StoreStandsFor g fresh (store_of logs old.base) (store_worked k i)
  commit_stands fresh old logs k i n frame st step commits =
      subst (λ (b : Book). StoreStandsFor g fresh (store_of logs old.base) (with_book k b))
      (sym step.worked_is) (record {
        older = st.older;
        keep = commits.keeps st.older k.book.records step.said step.spells st.keep;
        base_is = ap (λ (l : LogsOf D). l.base) commits.logs_are ∙ st.base_is;
        entries_are = ap (λ (l : LogsOf D). l.entries) commits.logs_are ∙ st.entries_are;
        cursors_are = ap (λ (l : LogsOf D). l.cursors) commits.logs_are
            ∙ ap (λ (cs : List ℕ). slice_set cs i (n + 1)) st.cursors_are;
        conf_payloads = st.conf_payloads;
        confs_keep = st.confs_keep;
        confs_spelled = st.confs_spelled;
        slots = subst (λ (s : Bool). SlotsSay g fresh s old.base (stepped_book k i n step.said))
            (sym (ap (λ (l : LogsOf D). l.second) commits.logs_are))
            (slots_beside g fresh old.logs.second old.base k k.book.entries
            (slice_set k.book.cursors i (n + 1)) (k.book.records ++ step.said) st.slots);
        spare_told = st.spare_told;
        moment_is = st.moment_is;
        force_is = st.force_is;
        loaded = st.loaded;
        know = st.know;
        lawful = step_lawful k i n frame st.lawful step;
      })

  commit_moments : (fresh : List ModuleState) (old : StoreOf D M) (logs : LogsOf D)
      (k : StoreBook) (i n : ℕ) (frame : Option (List ℕ)) → StoreStandsFor g fresh old k
      → IsStepOf k.book i n frame → CommitLeaves g old.logs logs frame
      → MomentsOn g Flt old (store_of logs old.base) (ReadsLike fresh k)
  commit_moments fresh old logs k i n frame st step leaves =
      leaves-weaker g old.logs.flt.disk logs.flt.disk
      (IsLogWith SpellsSpoken old.logs.flt.first k.book.records step.said) _
      (leaves st.older k.book.records step.said step.spells st.keep) (λ image either c others.
      let says = says_left g fresh old k c st (others ConfDisk conf_differs)
      (others SlotA slot_a_differs) (others SlotB slot_b_differs) in
      let entries = entries_left g fresh old k (active_of_two old.logs.second c) st
      (left_active g old c (others ErrA err_a_differs) (others ErrB err_b_differs)) in
      elim either [
        | inl before ↦ like_flt fresh c old.logs.second k old.logs.active.first
            old.logs.flt.first st.older image says st.lawful (st.keep.begins ∙ st.base_is)
            entries before
        | inr after ↦ like_through fresh (stepped_book k i n step.said) k (with_content Flt image c)
            refl (step_alike k i n frame st.lawful step)
            (like_flt fresh c old.logs.second (stepped_book k i n step.said)
            old.logs.active.first old.logs.flt.first st.older image (says_more says)
            (step_lawful k i n frame st.lawful step) (st.keep.begins ∙ st.base_is) entries after)
      ])
    where
      conf_differs : ConfDisk ≢ Flt
      conf_differs same = cc same

      slot_a_differs : SlotA ≢ Flt
      slot_a_differs same = cc same

      slot_b_differs : SlotB ≢ Flt
      slot_b_differs same = cc same

      err_a_differs : ErrA ≢ Flt
      err_a_differs same = cc same

      err_b_differs : ErrB ≢ Flt
      err_b_differs same = cc same

      says_more : {c : Contents} → SaysBook fresh c old.logs.second k
          → SaysBook fresh c old.logs.second (stepped_book k i n step.said)
      says_more {c = c} says =
          says_with fresh c old.logs.second (stepped_book k i n step.said) says.conf_first
          says.found says.checkpoint says.confs says.in_force says.says says.second_is
          says.base_is says.moment_is says.force_is

  pub commits_on_book : CountsNow g → (fresh : List ModuleState) (old : StoreOf D M)
      (logs : LogsOf D) (k : StoreBook) (i n : ℕ) (frame : Option (List ℕ))
      (result : Result Committed StoreFault) → CommitDoes g old.logs logs i n frame result
      → CommitLeaves g old.logs logs frame → StoreStandsFor g fresh old k
      → IsStepOf k.book i n frame → CommitsOnBook g fresh old (store_of logs old.base) k i result
  commits_on_book counts fresh old logs k i n frame result does leaves st step =
      let moments = commit_moments fresh old logs k i n frame st step leaves in
      let kept = commit_keeps g old.logs logs i n frame result does in record {
        stands = stands_by result does;
        any_moment = moments;
        left = left_now g counts Flt old (store_of logs old.base) (ReadsLike fresh k) moments
            (others_of_flt old (store_of logs old.base) kept.keeps.second_same kept.active_same
            refl);
      }
    where
      stands_by : (r : Result Committed StoreFault) → CommitDoes g old.logs logs i n frame r
          → CommitStands g fresh (store_of logs old.base) k i r
      stands_by (Ok Done) does = commit_stands fresh old logs k i n frame st step does
      stands_by (Ok (Stale cursor)) does = tt
      stands_by (Err fault) does = tt
