-- What the end of a run makes of a store, and what it tells of the drained book.
use Rattle.std.specs.Prelude.{◌≡◌, ◌⊎◌, ◌≤◌, ◌^◌, List, [], None, Some, Result, Ok, Err}
use Rattle.std.specs.Prelude.{IfOk, IfErr}
use Rattle.fm_outer.specs.Failures.{Rose}
use Rattle.fm_outer.specs.declared.disk.Disk.{Ghosts}
use Rattle.fm_core.specs.Book.{ModuleState}
use Rattle.fm_core.specs.Drained.{Drained, drained}
use Rattle.fm_core.specs.Hands.{HandOf}
use Rattle.fm_core.specs.declared.module.Module.{Ghosts as ModuleGhosts}
use Rattle.fm_journal.specs.declared.fault.FullKind.{FullKind}
use Rattle.fm_logs.specs.StoreBook.{StoreBook}
use Rattle.fm_logs.specs.declared.disks.DiskName.{DiskName}
use Rattle.fm_logs.specs.declared.disks.DiskName.TheVariants.{Flt}
use Rattle.fm_logs.specs.declared.fault.StoreFault.{StoreFault}
use Rattle.fm_logs.specs.declared.fault.StoreFault.TheVariants.{Disk, Full, Closed, Damaged}
use Rattle.fm_logs.specs.declared.fault.StoreFault.TheVariants.{NoMemory}
use Rattle.fm_looks.specs.Opening.{slot_name}
use Rattle.fm_store.specs.StoreCalls.{next_entry, saves_of, AreAtEnd, NextRefused}
use Rattle.fm_store.specs.StoreLeft.{MomentsOn, EachLeft, ReadsLike, store_disk}
use Rattle.fm_store.specs.StoreOf.{StoreOf, StoreStandsFor, fills_second}
use Rattle.fm_store.specs.StoreReading.{IsNoDamage}
use Rattle.fm_drain.specs.DrainCalls.{DrainDoes}
use Rattle.fm_drain.specs.BaseLimits.{BaseLimit, figures_of}
use Rattle.fm_drain.specs.ToBase.{IsBasedOf}
use Rattle.fm_drain.specs.Wanting.{AreWantedOf}
use Rattle.fm_conclude.specs.DrainedSummary.{IsSummaryOf}
use Rattle.fm_conclude.specs.declared.concluding.Conclusion.{Conclusion}

-- no disk's count of failures changed
abbrev pub NoDiskFailed : {D M : Type 0} → Ghosts D → StoreOf D M → StoreOf D M → Type 0
NoDiskFailed g old new = (name : DiskName)
    → g.failures (store_disk name new) ≡ g.failures (store_disk name old)

-- the count of one of the disks rose
abbrev pub SomeDiskFailed : {D M : Type 0} → Ghosts D → StoreOf D M → StoreOf D M → Type 0
SomeDiskFailed g old new = (name : DiskName)
    × Rose (g.failures (store_disk name old)) (g.failures (store_disk name new))

-- After Ok the store is open, as it was, and its base is at the end of its entries, where each
-- module is; there are no more entries than a store can have.
pub record IsConcluded {D M : Type 0} (old new : StoreOf D M) : Type 0 where
  pub was_open : old.logs.closed ≡ None
  pub is_open : new.logs.closed ≡ None
  pub base_is : new.logs.base ≡ next_entry old.logs
  pub none_left : new.logs.entries ≡ []
  pub at_end : AreAtEnd new.logs
  pub few : next_entry new.logs ≤ 2 ^ 46

-- Why it was refused: a disk failed; the store was closed before, and is as it was; a limit was
-- reached, at which an open store stays open; or the fault log reads as no records. Want of memory
-- alone is free.
abbrev pub ConcludeRefused : {D M : Type 0} → Ghosts D → StoreOf D M → StoreOf D M → StoreFault
    → Type 0
ConcludeRefused g old new Disk = (old.logs.closed ≡ None) × SomeDiskFailed g old new
ConcludeRefused g old new (Closed name failures) =
    (new ≡ old) × (old.logs.closed ≡ Some (name, failures))
ConcludeRefused g old new (Full kind) = (old.logs.closed ≡ None) × (new.logs.closed ≡ None)
ConcludeRefused g old new (Damaged name place) = (old.logs.closed ≡ None) × (name ≡ Flt)
ConcludeRefused g old new NoMemory = old.logs.closed ≡ None
ConcludeRefused _ _ _ _ = ⊥

-- The limit of this kind: the drain stopped at a record that has no room in the fault log, or all
-- modules came to the end, and no checkpoint can be made of their states.
pub record LimitReached {D M : Type 0} (g : Ghosts D) (m : ModuleGhosts M) (old new : StoreOf D M)
    (hands : List (HandOf M)) (kind : FullKind) : Type 0 where
  pub now : List (HandOf M)
  pub at : DrainDoes g m old new hands now (Err (Full kind))
      ⊎ (DrainDoes g m old new hands now (Ok tt)
      × NextRefused new new.logs.second (saves_of m now) (Full kind))

-- where a limit was reached, it is one of a drain or of a checkpoint
abbrev pub FullAtLimit : {D M : Type 0} → Ghosts D → ModuleGhosts M → StoreOf D M → StoreOf D M
    → List (HandOf M) → StoreFault → Type 0
FullAtLimit g m old new hands (Full kind) = LimitReached g m old new hands kind
FullAtLimit _ _ _ _ _ _ = Unit {0}

-- the summary of a drained book, and what it wants out of use
pub record TellsOf (d : Drained) (told : Conclusion) : Type 0 where
  pub summary : IsSummaryOf d told.summary.items
  pub wanted : AreWantedOf d told.wanted

-- the store stands for the drained book, with its base at its end, and of that book was told
pub record StandsConcluded {D M : Type 0} (g : Ghosts D) (fresh : List ModuleState)
    (new : StoreOf D M) (k : StoreBook) (told : Conclusion) : Type 0 where
  pub based : StoreBook
  pub stands : StoreStandsFor g fresh new based
  pub based_is : IsBasedOf k based
  pub tells : TellsOf (drained k.book) told

-- What becomes of a book that the hands follow. A limit that is told is one of the book. Each
-- crash, now or at a moment since, leaves contents that read like the book, whatever is answered:
-- first while the fault log's disk alone is worked on, which is that of `after_drain` then, next
-- while a slot's alone is, up to `after_base`, and at last while the fault log's disk is read.
pub record ConcludesBook {D M : Type 0} (g : Ghosts D) (fresh : List ModuleState)
    (old new : StoreOf D M) (k : StoreBook) (result : Result Conclusion StoreFault) : Type 0 where
  pub done : IfOk result (StandsConcluded g fresh new k)
  pub undamaged : IfErr result IsNoDamage
  pub limit : IfErr result (BaseLimit (figures_of old) k)
  pub after_drain : StoreOf D M
  pub after_base : StoreOf D M
  pub any_moment : MomentsOn g Flt old after_drain (ReadsLike fresh k)
  pub any_later : MomentsOn g (slot_name (fills_second old.base.newest)) after_drain after_base
      (ReadsLike fresh k)
  pub any_reading : MomentsOn g Flt after_base new (ReadsLike fresh k)
  pub left : EachLeft g new (ReadsLike fresh k)
