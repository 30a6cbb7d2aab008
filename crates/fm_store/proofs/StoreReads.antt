-- What a crash leaves of a store reads like the book that it stands for.
use Rattle.std.proofs.Common.{◌≡◌, ◌≢◌, ℕ, ◌+◌, List, ◌++◌, length}
use Rattle.std.proofs.Common.{Bool, true, false, Option, refl, ◌∙◌, subst}
use Rattle.fm_core.specs.Book.{ModuleState}
use Rattle.fm_core.proofs.Drains.{drained_floored}
use Rattle.fm_entry.specs.declared.entry.Entry.{Entry}
use Rattle.fm_outer.specs.declared.disk.Disk.{Ghosts}
use Rattle.fm_outer.proofs.Moments.{CountsNow, leaves-now}
use Rattle.fm_saved.specs.declared.checkpoint.Checkpoint.{Checkpoint}
use Rattle.fm_slots.specs.Format.{SlotOf}
use Rattle.fm_slots.specs.InForce.{InForce, InForceBeside}
use Rattle.fm_logs.specs.Contents.{Contents, content_named, active_of_two, with_logs}
use Rattle.fm_logs.specs.LogsBook.{DrainAlike}
use Rattle.fm_logs.specs.LogsOf.{name_of_two}
use Rattle.fm_logs.specs.ReadsAsBook.{IsLog, SpellsConf, SpellsEntry, SpellsSpoken, SaysBase}
use Rattle.fm_payloads.specs.Spelling.{EachSpells}
use Rattle.fm_logs.specs.ReadsAsBook.{SaysBook, ReadsAsBook}
use Rattle.fm_logs.specs.StoreBook.{StoreBook, IsLawfulStore, store_floored}
use Rattle.fm_logs.specs.declared.disks.DiskName.{DiskName}
use Rattle.fm_logs.specs.declared.disks.DiskName.TheVariants.{Conf as ConfDisk, ErrA, ErrB, SlotA}
use Rattle.fm_logs.specs.declared.disks.DiskName.TheVariants.{SlotB, Flt}
use Rattle.fm_logs.proofs.Books.{beside}
use Rattle.fm_store.specs.StoreOf.{StoreOf, StoreStandsFor, of_two, fills_second}
use Rattle.fm_store.specs.StoreLeft.{store_disk, with_content, IsLeftOf}
use Rattle.fm_store.specs.StoreLeft.{EachLeft, MomentsOn, ReadsLike}

-- contents with what they have are the same
pub with_same : (name : DiskName) (c : Contents) → with_content name (content_named name c) c ≡ c
with_same ConfDisk c = refl
with_same ErrA c = refl
with_same ErrB c = refl
with_same SlotA c = refl
with_same SlotB c = refl
with_same Flt c = refl

logs_same : (c : Contents) (second : Bool) → with_logs c second (active_of_two second c) c.flt ≡ c
logs_same c true = refl
logs_same c false = refl

active_same : (c : Contents) (second : Bool) (image : List ℕ)
    → with_logs c second image c.flt ≡ with_content (name_of_two second) image c
active_same c true image = refl
active_same c false image = refl

flt_same : (c : Contents) (second : Bool) (image : List ℕ)
    → with_logs c second (active_of_two second c) image ≡ with_content Flt image c
flt_same c true image = refl
flt_same c false image = refl

-- what the configurations and the slots say does not rest on the logs
pub says_with : (fresh : List ModuleState) (c : Contents) (second : Bool) (k : StoreBook)
    (first : ℕ) (found : Option (Bool × SlotOf)) (checkpoint : Checkpoint)
    → IsLog SpellsConf c.conf first k.confs → InForce c.slot_a c.slot_b found
    → SaysBase fresh found checkpoint k.book.modules → checkpoint.second ≡ second
    → checkpoint.base ≡ k.book.base → checkpoint.moment ≡ k.book.moment
    → checkpoint.conf ≡ k.in_force → SaysBook fresh c second k
says_with fresh c second k first found checkpoint confs beside says is base moment force = record {
  conf_first = first;
  confs = confs;
  found = found;
  in_force = beside;
  checkpoint = checkpoint;
  says = says;
  second_is = is;
  base_is = base;
  moment_is = moment;
  force_is = force;
}

-- logs beside what the others say read like the book
pub like : (fresh : List ModuleState) (c d : Contents) (second : Bool) (k : StoreBook)
    (first flt_first : ℕ) (older : List Entry) (active flt : List ℕ) → SaysBook fresh c second k
    → IsLawfulStore k → first + length older ≡ k.book.base
    → IsLog SpellsEntry active first (older ++ k.book.entries)
    → IsLog SpellsSpoken flt flt_first k.book.records → with_logs c second active flt ≡ d
    → ReadsLike fresh k d
like fresh c d second k first flt_first older active flt says lawful begins log words is = record {
  read = store_floored k;
  reads = subst (λ (x : Contents). ReadsAsBook fresh x (store_floored k)) is
      (beside fresh c second k first flt_first older active flt says lawful begins log words);
  confs_same = refl;
  alike = λ es. drained_floored k.book es;
}

pub like_now : (fresh : List ModuleState) (c : Contents) (second : Bool) (k : StoreBook)
    (first flt_first : ℕ) (older : List Entry) → SaysBook fresh c second k → IsLawfulStore k
    → first + length older ≡ k.book.base
    → IsLog SpellsEntry (active_of_two second c) first (older ++ k.book.entries)
    → IsLog SpellsSpoken c.flt flt_first k.book.records → ReadsLike fresh k c
like_now fresh c second k first flt_first older says lawful begins log records =
    like fresh c c second k first flt_first older (active_of_two second c) c.flt says lawful begins
    log records (logs_same c second)

pub like_active : (fresh : List ModuleState) (c : Contents) (second : Bool) (k : StoreBook)
    (first flt_first : ℕ) (older : List Entry) (image : List ℕ) → SaysBook fresh c second k
    → IsLawfulStore k → first + length older ≡ k.book.base
    → IsLog SpellsEntry image first (older ++ k.book.entries)
    → IsLog SpellsSpoken c.flt flt_first k.book.records
    → ReadsLike fresh k (with_content (name_of_two second) image c)
like_active fresh c second k first flt_first older image says lawful begins log records =
    like fresh c (with_content (name_of_two second) image c) second k first flt_first older image
    c.flt says lawful begins log records (active_same c second image)

pub like_flt : (fresh : List ModuleState) (c : Contents) (second : Bool) (k : StoreBook)
    (first flt_first : ℕ) (older : List Entry) (image : List ℕ) → SaysBook fresh c second k
    → IsLawfulStore k → first + length older ≡ k.book.base
    → IsLog SpellsEntry (active_of_two second c) first (older ++ k.book.entries)
    → IsLog SpellsSpoken image flt_first k.book.records
    → ReadsLike fresh k (with_content Flt image c)
like_flt fresh c second k first flt_first older image says lawful begins log records =
    like fresh c (with_content Flt image c) second k first flt_first older (active_of_two second c)
    image says lawful begins log records (flt_same c second image)

-- what reads like one book reads like another that drains to the same
pub like_through : (fresh : List ModuleState) (one k : StoreBook) (c : Contents)
    → one.confs ≡ k.confs → DrainAlike one.book k.book → ReadsLike fresh one c
    → ReadsLike fresh k c
like_through fresh one k c confs alike reads = record {
  read = reads.read;
  reads = reads.reads;
  confs_same = reads.confs_same ∙ confs;
  alike = λ es. reads.alike es ∙ alike es;
}

module _ {D : Type 0} (g : Ghosts D) where
  -- the slot in force of two images
  pub in_force_of : (second : Bool) (a b : D) (x y : List ℕ) (found : Option (Bool × SlotOf))
      → ((c other : List ℕ) → g.images (of_two second b a) c → g.images (of_two second a b) other
      → InForceBeside second c other found)
      → g.images a x → g.images b y → InForce x y found
  in_force_of true a b x y found beside one two = beside x y one two
  in_force_of false a b x y found beside one two = beside y x two one

  -- the image of the active journal's disk is that of the second of two, or of the first
  active_is_left : (second : Bool) (active spare : D) (c : Contents)
      → g.images (of_two second active spare) c.err_a
      → g.images (of_two second spare active) c.err_b → g.images active (active_of_two second c)
  active_is_left true active spare c one two = two
  active_is_left false active spare c one two = one

module _ {D M : Type 0} (g : Ghosts D) where
  pub left_active : (store : StoreOf D M) (c : Contents) → IsLeftOf g store c ErrA
      → IsLeftOf g store c ErrB
      → g.images store.logs.active.disk (active_of_two store.logs.second c)
  left_active store c one two =
      active_is_left g store.logs.second store.logs.active.disk store.base.spare c one two

  -- what the configurations' disk and the slots say of the book that the store stands for
  pub says_left : (fresh : List ModuleState) (store : StoreOf D M) (k : StoreBook) (c : Contents)
      → StoreStandsFor g fresh store k → IsLeftOf g store c ConfDisk → IsLeftOf g store c SlotA
      → IsLeftOf g store c SlotB → SaysBook fresh c store.logs.second k
  says_left fresh store k c st conf slot_a slot_b =
      says_with fresh c store.logs.second k store.base.conf.first st.slots.found
      st.slots.checkpoint
      (record {
        payloads = st.conf_payloads;
        journal = st.confs_keep.left c.conf conf;
        spelled = st.confs_spelled;
      })
      (in_force_of g (fills_second store.base.newest) store.base.slot_a store.base.slot_b c.slot_a
      c.slot_b st.slots.found st.slots.beside slot_a slot_b)
      st.slots.says st.slots.second_is st.slots.base_is st.slots.moment_is st.slots.force_is

  -- the log of entries, and that of records
  pub entries_left : (fresh : List ModuleState) (store : StoreOf D M) (k : StoreBook)
      (image : List ℕ) → (st : StoreStandsFor g fresh store k)
      → g.images store.logs.active.disk image
      → IsLog SpellsEntry image store.logs.active.first (st.older ++ k.book.entries)
  entries_left fresh store k image st left = record {
    payloads = st.keep.entry_payloads;
    journal = st.keep.entries_keep.left image left;
    spelled = subst (λ (es : List Entry).
        EachSpells SpellsEntry st.keep.entry_payloads (st.older ++ es)) st.entries_are
        st.keep.entries_spelled;
  }

  pub records_left : (fresh : List ModuleState) (store : StoreOf D M) (k : StoreBook)
      (image : List ℕ) → (st : StoreStandsFor g fresh store k)
      → g.images store.logs.flt.disk image
      → IsLog SpellsSpoken image store.logs.flt.first k.book.records
  records_left fresh store k image st left = record {
    payloads = st.keep.record_payloads;
    journal = st.keep.records_keep.left image left;
    spelled = st.keep.records_spelled;
  }

  -- each image of the disks reads like the book
  pub store_reads : (fresh : List ModuleState) (store : StoreOf D M) (k : StoreBook)
      → StoreStandsFor g fresh store k → EachLeft g store (ReadsLike fresh k)
  store_reads fresh store k st c left =
      like_now fresh c store.logs.second k store.logs.active.first store.logs.flt.first st.older
      (says_left fresh store k c st (left ConfDisk) (left SlotA) (left SlotB)) st.lawful
      (st.keep.begins ∙ st.base_is)
      (entries_left fresh store k (active_of_two store.logs.second c) st
      (left_active store c (left ErrA) (left ErrB)))
      (records_left fresh store k c.flt st (left Flt))

  -- what each moment leaves of the disk that was worked on, a crash now leaves of all
  pub left_now : CountsNow g → (name : DiskName) (old new : StoreOf D M) (P : Contents → Type 0)
      → MomentsOn g name old new P
      → ((other : DiskName) → other ≢ name → store_disk other new ≡ store_disk other old)
      → EachLeft g new P
  left_now counts name old new P moments same c left =
      subst P (with_same name c)
      (leaves-now g counts (store_disk name old) (store_disk name new) _ moments
      (content_named name c) (left name) c
      (λ other differs. subst (λ (d : D). g.images d (content_named other c))
      (same other differs) (left other)))
