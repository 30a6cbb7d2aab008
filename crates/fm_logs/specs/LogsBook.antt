-- The book that the logs of a store stand for beside its four other disks, and what a crash leaves
-- of it.
use Rattle.std.specs.Prelude.{◌≡◌, ◌⊎◌, ℕ, ◌+◌, Bool, List, ◌++◌, slice_set}
use Rattle.std.specs.declared.option.Option.{Option}
use Rattle.fm_outer.specs.Moments.{LeavesOnly}
use Rattle.fm_outer.specs.declared.disk.Disk.{Ghosts}
use Rattle.fm_entry.specs.declared.entry.Entry.{Entry}
use Rattle.fm_entry.specs.declared.spoken.Spoken.{Spoken}
use Rattle.fm_core.specs.Book.{Book, ModuleState, worked, with_entries}
use Rattle.fm_core.specs.Drained.{drained}
use Rattle.fm_logs.specs.Contents.{Contents, with_logs}
use Rattle.fm_logs.specs.LogsOf.{LogsOf, LogsKeep, Frames}
use Rattle.fm_logs.specs.ReadsAsBook.{SaysBook, ReadsAsBook}
use Rattle.fm_logs.specs.StoreBook.{StoreBook, IsLawfulStore, with_book, store_floored}

-- The logs stand for a lawful book: they keep its records, and its entries behind older ones, they
-- have its base and its cursors, and the four other disks, of which `c` has the contents, say the
-- rest.
pub record LogsStandFor {D : Type 0} (g : Ghosts D) (logs : LogsOf D) (fresh : List ModuleState)
    (c : Contents) (k : StoreBook) : Type 0 where
  pub older : List Entry
  pub keep : LogsKeep g logs older k.book.records
  pub base_is : logs.base ≡ k.book.base
  pub entries_are : logs.entries ≡ k.book.entries
  pub cursors_are : logs.cursors ≡ k.book.cursors
  pub says : SaysBook fresh c logs.second k
  pub lawful : IsLawfulStore k

-- the six contents, with these of the active journal and the fault log, read as the book, with each
-- module at its floor
abbrev pub ReadsBeside : List ModuleState → Contents → Bool → StoreBook → List ℕ → List ℕ → Type 0
ReadsBeside fresh c second k active flt =
    ReadsAsBook fresh (with_logs c second active flt) (store_floored k)

-- they read as the one or the other
abbrev pub ReadsAsEither : List ModuleState → Contents → Bool → StoreBook → StoreBook → List ℕ
    → List ℕ → Type 0
ReadsAsEither fresh c second one other active flt =
    ReadsBeside fresh c second one active flt ⊎ ReadsBeside fresh c second other active flt

-- each image that a crash now may leave of the two logs reads as the book
abbrev pub BookIsLeft : {D : Type 0} → Ghosts D → LogsOf D → List ModuleState → Contents
    → StoreBook → Type 0
BookIsLeft g logs fresh c k =
    (active flt : List ℕ) → g.images logs.active.disk active → g.images logs.flt.disk flt
    → ReadsBeside fresh c logs.second k active flt

-- at each moment of a call that wrote the active journal alone the six read as one of two books
abbrev pub AcceptMoments : {D : Type 0} → Ghosts D → LogsOf D → LogsOf D → List ModuleState
    → Contents → StoreBook → StoreBook → Type 0
AcceptMoments g old new fresh c before after =
    LeavesOnly g old.active.disk new.active.disk (λ active. (flt : List ℕ)
    → g.images old.flt.disk flt → ReadsAsEither fresh c old.second before after active flt)

-- the same of a call that wrote the fault log alone
abbrev pub CommitMoments : {D : Type 0} → Ghosts D → LogsOf D → LogsOf D → List ModuleState
    → Contents → StoreBook → StoreBook → Type 0
CommitMoments g old new fresh c before after =
    LeavesOnly g old.flt.disk new.flt.disk (λ flt. (active : List ℕ)
    → g.images old.active.disk active → ReadsAsEither fresh c old.second before after active flt)

-- module i is worked on
abbrev pub store_worked : StoreBook → ℕ → StoreBook
store_worked k i = with_book k (worked k.book i)

-- The frame has what module i says at the entry at its cursor n, if it says anything: working on it
-- makes the cursor one more and puts that behind the records.
pub record IsStepOf (k : Book) (i n : ℕ) (frame : Option (List ℕ)) : Type 0 where
  pub said : List Spoken
  pub spells : Frames frame said
  pub worked_is : worked k i ≡ record k {
    cursors = slice_set k.cursors i (n + 1);
    records = k.records ++ said;
  }

-- the books drain to the same, also after more entries
abbrev pub DrainAlike : Book → Book → Type 0
DrainAlike one other =
    (es : List Entry) → drained (with_entries one es) ≡ drained (with_entries other es)
