-- A store that is drained and of which a log is read then: what stays as it was, why it was
-- refused, and what becomes of the book that the store stands for.
use Rattle.std.specs.Prelude.{◌≡◌, ◌⊎◌, ℕ, IsTrue, List, None, Some, Result, Err, IfOk, IfErr}
use Rattle.std.specs.Prelude.{slice_get}
use Rattle.fm_outer.specs.Failures.{Rose}
use Rattle.fm_outer.specs.declared.disk.Disk.{Ghosts}
use Rattle.fm_adm.specs.Faulty.{faulty_text}
use Rattle.fm_core.specs.Book.{ModuleState, is_done, next_number, state_at}
use Rattle.fm_core.specs.Drained.{Drained, drained}
use Rattle.fm_core.specs.Hands.{HandOf}
use Rattle.fm_core.specs.Records.{of_module}
use Rattle.fm_core.specs.declared.module.Module.{Ghosts as ModuleGhosts}
use Rattle.fm_drain.specs.DrainCalls.{DrainDoes, OnlyCommitted}
use Rattle.fm_entry.specs.declared.list_event.ListEvent.{ListEvent}
use Rattle.fm_logs.specs.LogsBook.{DrainAlike}
use Rattle.fm_logs.specs.StoreBook.{StoreBook}
use Rattle.fm_logs.specs.declared.disks.DiskName.{DiskName}
use Rattle.fm_logs.specs.declared.disks.DiskName.TheVariants.{Flt}
use Rattle.fm_logs.specs.declared.fault.StoreFault.{StoreFault}
use Rattle.fm_logs.specs.declared.fault.StoreFault.TheVariants.{Disk, Full, Closed, Damaged}
use Rattle.fm_logs.specs.declared.fault.StoreFault.TheVariants.{NoMemory}
use Rattle.fm_drain.specs.CaseStatus.{IsStatusOf}
use Rattle.fm_store.specs.StoreCalls.{AreAtEnd, HandsAreDone}
use Rattle.fm_store.specs.StoreLeft.{MomentsOn, EachLeft, ReadsLike, store_disk}
use Rattle.fm_store.specs.StoreOf.{StoreOf, StoreStandsFor}
use Rattle.fm_store.specs.StoreReading.{IsNoDamage}

-- The store was open and is, steps were committed and nothing else was done, without a failure, and
-- each module is at the end of the entries.
pub record WasDrained {D M : Type 0} (g : Ghosts D) (old new : StoreOf D M) : Type 0 where
  pub was_open : old.logs.closed ≡ None
  pub is_open : new.logs.closed ≡ None
  pub only : OnlyCommitted old new
  pub no_failure : g.failures new.logs.flt.disk ≡ g.failures old.logs.flt.disk
  pub first_same : new.logs.flt.first ≡ old.logs.flt.first
  pub at_end : AreAtEnd new.logs

-- Why nothing is told of a drained store, for which the log on this disk is read: the store was
-- closed before, and is as it was; what a module said has no room in the fault log; the fault log's
-- disk failed, or that of the log; or that log reads as none. Want of memory alone is free.
abbrev pub TellRefused : {D M : Type 0} → Ghosts D → ModuleGhosts M → DiskName → StoreOf D M
    → StoreOf D M → List (HandOf M) → StoreFault → Type 0
TellRefused g m log old new hands (Closed name failures) =
    (new ≡ old) × (old.logs.closed ≡ Some (name, failures))
TellRefused {M = M} g m log old new hands (Full kind) =
    (old.logs.closed ≡ None)
    × ((now : List (HandOf M)) × DrainDoes g m old new hands now (Err (Full kind)))
TellRefused g m log old new hands Disk =
    (old.logs.closed ≡ None)
    × (Rose (g.failures (store_disk Flt old)) (g.failures (store_disk Flt new))
    ⊎ Rose (g.failures (store_disk log old)) (g.failures (store_disk log new)))
TellRefused g m log old new hands (Damaged name place) =
    (old.logs.closed ≡ None) × (name ≡ log)
TellRefused g m log old new hands NoMemory = Unit {0}
TellRefused _ _ _ _ _ _ _ = ⊥

-- A book after works of its modules, each of which has come to the end: it drains to the same, also
-- after more entries, and of each module it has the state and the records of the drained book.
pub record IsDrainedOf (k now : StoreBook) : Type 0 where
  pub alike : DrainAlike now.book k.book
  pub confs_same : now.confs ≡ k.confs
  pub base_same : now.book.base ≡ k.book.base
  pub entries_same : now.book.entries ≡ k.book.entries
  pub done : IsTrue (is_done now.book)
  pub ends : (i : ℕ) (p : ModuleState) → slice_get now.book.modules i ≡ Some p
      → slice_get (drained k.book).modules i ≡ Some (record {
        state = state_at now.book p (next_number now.book);
        words = of_module i now.book.records;
      })

-- the store stands for the drained book, of which this was told
pub record StandsTold {X : Type 0} {D M : Type 0} (g : Ghosts D) (fresh : List ModuleState)
    (new : StoreOf D M) (k : StoreBook) (Told : StoreBook → X → Type 0) (x : X) : Type 0 where
  pub now : StoreBook
  pub stands : StoreStandsFor g fresh new now
  pub drained_is : IsDrainedOf k now
  pub told : Told now x

-- What becomes of a book that the hands follow. Each crash, now or at a moment since, leaves
-- contents that read like the book, whatever is answered: first while the fault log's disk alone is
-- worked on, which is that of `after_drain` then, and then while the disk of the log is read.
pub record TellsBook {X : Type 0} {D M : Type 0} (g : Ghosts D) (fresh : List ModuleState)
    (log : DiskName) (old new : StoreOf D M) (k : StoreBook) (result : Result X StoreFault)
    (Told : StoreBook → X → Type 0) : Type 0 where
  pub done : IfOk result (StandsTold g fresh new k Told)
  pub undamaged : IfErr result IsNoDamage
  pub after_drain : StoreOf D M
  pub any_moment : MomentsOn g Flt old after_drain (ReadsLike fresh k)
  pub any_reading : MomentsOn g log after_drain new (ReadsLike fresh k)
  pub left : EachLeft g new (ReadsLike fresh k)

-- hands that have come to the end of the drained book, and its status
abbrev pub AreHandsAndStatus : {M : Type 0} → ModuleGhosts M → StoreBook → List (HandOf M)
    → List ListEvent → Type 0
AreHandsAndStatus m now hands rows =
    HandsAreDone m now.book hands × IsStatusOf (drained now.book) rows

-- the text of what is faulty by the status of a drained book
pub record IsFaultyOf (namespace : List ℕ) (d : Drained) (text : List ℕ) : Type 0 where
  pub rows : List ListEvent
  pub status : IsStatusOf d rows
  pub text_is : text ≡ faulty_text namespace rows
