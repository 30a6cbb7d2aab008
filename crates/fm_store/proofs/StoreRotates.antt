-- The spare disk of a store, on which a rotation begins a journal.
use Rattle.std.proofs.Common.{◌≡◌, ◌≢◌, ℕ, List, []}
use Rattle.std.proofs.Common.{Bool, true, false, not, Option, Some, None, refl, sym, ◌∙◌}
use Rattle.std.proofs.Common.{ap}
use Rattle.std.proofs.Common.{subst, arith}
use Rattle.fm_core.specs.Book.{ModuleState}
use Rattle.fm_entry.specs.declared.entry.Entry.{Entry}
use Rattle.fm_entry.specs.declared.spoken.Spoken.{Spoken}
use Rattle.fm_journal.specs.JournalOf.{JournalOf}
use Rattle.fm_journal.specs.Keeps.{Keeps}
use Rattle.fm_outer.specs.Moments.{LeavesOnly}
use Rattle.fm_outer.specs.declared.disk.Disk.{Ghosts}
use Rattle.fm_outer.proofs.Moments.{leaves-weaker}
use Rattle.fm_logs.specs.Contents.{Contents, active_of_two, with_logs}
use Rattle.fm_logs.specs.LogsOf.{LogsOf, LogsKeep, name_of_two}
use Rattle.fm_logs.specs.ReadsAsBook.{SaysBook}
use Rattle.fm_logs.specs.StoreBook.{StoreBook}
use Rattle.fm_logs.specs.declared.disks.DiskName.TheVariants.{Conf as ConfDisk, ErrA, ErrB, SlotA}
use Rattle.fm_logs.specs.declared.disks.DiskName.TheVariants.{SlotB, Flt}
use Rattle.fm_store.specs.StoreOf.{StoreOf, StoreStandsFor, of_two, fills_second}
use Rattle.fm_store.specs.StoreLeft.{store_disk, with_content, OthersAreLeft, MomentsOn, ReadsLike}
use Rattle.fm_looks.specs.Opening.{slot_name}
use Rattle.fm_store.specs.StoreCalls.{next_entry}
use Rattle.fm_store.specs.StoreLimits.{spare_of}
use Rattle.fm_store.specs.Rotating.{Anything, with_spare}
use Rattle.fm_store.proofs.StoreAccepts.{conf_differs, slot_a_differs, slot_b_differs, flt_differs}
use Rattle.fm_store.proofs.StoreBases.{EndsThere, base_at_end, err_a_no_slot, err_b_no_slot}
use Rattle.fm_store.proofs.StoreReads.{like, says_with, says_left, entries_left, records_left}

-- contents with another spare journal have the same logs
spare_logs : (second : Bool) (image : List ℕ) (c : Contents)
    → with_logs (with_content (name_of_two (not second)) image c) second (active_of_two second c)
    c.flt
    ≡ with_content (name_of_two (not second)) image c
spare_logs true image c = refl
spare_logs false image c = refl

says_spare : (fresh : List ModuleState) (second b : Bool) (k : StoreBook) (image : List ℕ)
    (c : Contents) → SaysBook fresh c second k
    → SaysBook fresh (with_content (name_of_two b) image c) second k
says_spare fresh second true k image c says =
    says_with fresh (with_content ErrB image c) second k says.conf_first says.found says.checkpoint
    says.confs says.in_force says.says says.second_is says.base_is says.moment_is says.force_is
says_spare fresh second false k image c says =
    says_with fresh (with_content ErrA image c) second k says.conf_first says.found says.checkpoint
    says.confs says.in_force says.says says.second_is says.base_is says.moment_is says.force_is

a_no_b : ErrA ≢ ErrB
a_no_b same = cc same

b_no_a : ErrB ≢ ErrA
b_no_a same = cc same

-- a fact of the disk that is there is one of the spare disk
pub there_is : {D : Type 0} (P : D → Type 0) (spare : Option D) (other : D) → spare ≢ None
    → ((disk : D) → spare ≡ Some disk → P disk) → P (spare_of spare other)
there_is P (Some disk) other there each = each disk refl
there_is P None other there each = absurd (there refl)

module _ {D : Type 0} (g : Ghosts D) where
  -- the image of the spare disk
  spare_is_left : (second : Bool) (active spare : D) (c : Contents)
      → g.images (of_two second active spare) c.err_a
      → g.images (of_two second spare active) c.err_b
      → g.images spare (active_of_two (not second) c)
  spare_is_left true active spare c one two = one
  spare_is_left false active spare c one two = two

module _ {D M : Type 0} (g : Ghosts D) where
  -- the active journal's image beside the spare disk
  active_beside : (second : Bool) (store : StoreOf D M) (c : Contents)
      → store.logs.second ≡ second → OthersAreLeft g store (name_of_two (not second)) c
      → g.images store.logs.active.disk (active_of_two second c)
  active_beside true store c is others =
      subst (λ (s : Bool). g.images (of_two s store.base.spare store.logs.active.disk) c.err_b) is
      (others ErrB b_no_a)
  active_beside false store c is others =
      subst (λ (s : Bool). g.images (of_two s store.logs.active.disk store.base.spare) c.err_a) is
      (others ErrA a_no_b)

  -- the spare disk is the one of its name
  spare_disk : (second : Bool) (store : StoreOf D M) → store.logs.second ≡ second
      → store_disk (name_of_two (not second)) store ≡ store.base.spare
  spare_disk true store is =
      ap (λ (s : Bool). of_two s store.logs.active.disk store.base.spare) is
  spare_disk false store is =
      ap (λ (s : Bool). of_two s store.base.spare store.logs.active.disk) is

  -- the image of the spare disk reads like the book, beside the others
  abbrev pub SpareIsRead : StoreOf D M → List ModuleState → StoreBook → List ℕ → Type 0
  SpareIsRead store fresh k image = (c : Contents)
      → OthersAreLeft g store (name_of_two (not store.logs.second)) c
      → ReadsLike fresh k (with_content (name_of_two (not store.logs.second)) image c)

  -- whatever stands on the spare disk, the six read like the book
  pub spare_moments : (fresh : List ModuleState) (store : StoreOf D M) (k : StoreBook) (made : D)
      → StoreStandsFor g fresh store k → LeavesOnly g store.base.spare made Anything
      → MomentsOn g (name_of_two (not store.logs.second)) store (with_spare store made)
      (ReadsLike fresh k)
  spare_moments fresh store k made st leaves =
      subst (λ (d : D). LeavesOnly g d
      (store_disk (name_of_two (not store.logs.second)) (with_spare store made))
      (SpareIsRead store fresh k)) (sym (spare_disk store.logs.second store refl))
      (subst (λ (d : D). LeavesOnly g store.base.spare d (SpareIsRead store fresh k))
      (sym (spare_disk store.logs.second (with_spare store made) refl))
      (leaves-weaker g store.base.spare made Anything (SpareIsRead store fresh k) leaves
      (λ image any c others.
      let second = store.logs.second in
      let d = with_content (name_of_two (not second)) image c in
      like fresh d d second k store.logs.active.first store.logs.flt.first st.older
      (active_of_two second c) c.flt
      (says_spare fresh second (not second) k image c
      (says_left g fresh store k c st (others ConfDisk (conf_differs (not second)))
      (others SlotA (slot_a_differs (not second))) (others SlotB (slot_b_differs (not second)))))
      st.lawful (st.keep.begins ∙ st.base_is)
      (entries_left g fresh store k (active_of_two second c) st
      (active_beside second store c refl others))
      (records_left g fresh store k c.flt st (others Flt (flt_differs (not second))))
      (spare_logs second image c))))

  -- the journal that was begun there has no entries, from the next number on
  pub begun_ends : (fresh : List ModuleState) (store : StoreOf D M) (k : StoreBook)
      (journal : JournalOf D) (spare : D) → StoreStandsFor g fresh store k → Keeps g journal []
      → journal.first ≡ next_entry store.logs → spare ≡ journal.disk → (c : Contents)
      → OthersAreLeft g (with_spare store spare) (slot_name (fills_second store.base.newest)) c
      → EndsThere (not store.logs.second) k c
  begun_ends fresh store k journal spare st keeps first is c others =
      let f = fills_second store.base.newest in record {
        first = journal.first;
        older = [];
        begins = omega (arith, first, base_at_end g fresh store k st);
        entries = record {
          payloads = [];
          journal = keeps.left (active_of_two (not store.logs.second) c)
              (subst (λ (d : D). g.images d (active_of_two (not store.logs.second) c)) is
              (spare_is_left g store.logs.second store.logs.active.disk spare c
              (others ErrA (err_a_no_slot f)) (others ErrB (err_b_no_slot f))));
          spelled = tt;
        };
      }

module _ {D : Type 0} (g : Ghosts D) where
  -- logs with that journal keep the records, and no entries
  pub begun_keeps : (logs : LogsOf D) (journal : JournalOf D) (older : List Entry)
      (records : List Spoken) → LogsKeep g logs older records → Keeps g journal []
      → journal.first ≡ next_entry logs
      → LogsKeep g (record logs {
        active = journal;
        second = not logs.second;
        base = next_entry logs;
        entries = [];
      }) [] records
  begun_keeps logs journal older records keep keeps first = record {
    is_open = keep.is_open;
    begins = omega (arith, first);
    entry_payloads = [];
    entries_keep = keeps;
    entries_spelled = tt;
    record_payloads = keep.record_payloads;
    records_keep = keep.records_keep;
    records_spelled = keep.records_spelled;
  }
