-- A store that is drained and rotated: what it has then, why it was refused, and what becomes of
-- the book that it stands for.
use Rattle.std.specs.Prelude.{◌≡◌, ◌⊎◌, ℕ, ◌<◌, ◌^◌, List, [], not, None, Some, Result, Ok, Err}
use Rattle.std.specs.Prelude.{OnOk, IfErr}
use Rattle.fm_outer.specs.Failures.{Rose}
use Rattle.fm_outer.specs.declared.disk.Disk.{Ghosts}
use Rattle.fm_core.specs.Book.{ModuleState}
use Rattle.fm_core.specs.Hands.{HandOf}
use Rattle.fm_core.specs.declared.module.Module.{Ghosts as ModuleGhosts}
use Rattle.fm_drain.specs.DrainCalls.{DrainDoes}
use Rattle.fm_journal.specs.JournalOf.{blank_journal}
use Rattle.fm_journal.specs.declared.fault.FullKind.{FullKind}
use Rattle.fm_logs.specs.LogsOf.{name_of_two}
use Rattle.fm_logs.specs.StoreBook.{StoreBook}
use Rattle.fm_logs.specs.declared.disks.DiskName.{DiskName}
use Rattle.fm_logs.specs.declared.disks.DiskName.TheVariants.{Flt}
use Rattle.fm_logs.specs.declared.fault.StoreFault.{StoreFault}
use Rattle.fm_logs.specs.declared.fault.StoreFault.TheVariants.{Disk, Full, Closed, NoMemory}
use Rattle.fm_looks.specs.Opening.{slot_name}
use Rattle.fm_drain.specs.BaseLimits.{figures_of}
use Rattle.fm_drain.specs.ToBase.{IsBasedOf}
use Rattle.fm_store.specs.Rotating.{RotateRefused}
use Rattle.fm_store.specs.StoreCalls.{AreAtEnd, next_entry, saves_of}
use Rattle.fm_store.specs.StoreLeft.{MomentsOn, EachLeft, ReadsLike, store_disk}
use Rattle.fm_store.specs.StoreOf.{StoreOf, StoreStandsFor, fills_second}
use Rattle.fm_store.specs.StoreReading.{IsNoDamage}
use Rattle.fm_admin.specs.Limits.{DrainOrRotation}

-- After Ok the store was open and is, its base is at the end of its entries, where each module is,
-- and the active journal is the other one, without payloads, whose first number is the base.
pub record IsRotated {D M : Type 0} (old new : StoreOf D M) (number : ℕ) : Type 0 where
  pub was_open : old.logs.closed ≡ None
  pub is_open : new.logs.closed ≡ None
  pub number_is : number ≡ next_entry old.logs
  pub number_fits : number < 2 ^ 46
  pub base_is : new.logs.base ≡ number
  pub none_left : new.logs.entries ≡ []
  pub at_end : AreAtEnd new.logs
  pub other : new.logs.second ≡ not old.logs.second
  pub journal_is : new.logs.active ≡ blank_journal new.logs.active.disk number

-- a disk failed
abbrev pub StoreDiskRose : {D M : Type 0} → Ghosts D → StoreOf D M → StoreOf D M → Type 0
StoreDiskRose g old new = (name : DiskName)
    × Rose (g.failures (store_disk name old)) (g.failures (store_disk name new))

-- The limit of this kind: the drain stopped at a record that has no room in the fault log, or all
-- modules came to the end, and no rotation can be made then.
pub record RotationLimit {D M : Type 0} (g : Ghosts D) (m : ModuleGhosts M) (old new : StoreOf D M)
    (hands : List (HandOf M)) (kind : FullKind) : Type 0 where
  pub now : List (HandOf M)
  pub at : DrainDoes g m old new hands now (Err (Full kind))
      ⊎ (DrainDoes g m old new hands now (Ok tt)
      × RotateRefused g new new (saves_of m now) (Full kind))

-- Why it was refused: the store was closed before, and is as it was; a limit was reached; or a disk
-- failed. Want of memory alone is free.
abbrev pub RotationRefused : {D M : Type 0} → Ghosts D → ModuleGhosts M → StoreOf D M → StoreOf D M
    → List (HandOf M) → StoreFault → Type 0
RotationRefused g m old new hands (Closed name failures) =
    (new ≡ old) × (old.logs.closed ≡ Some (name, failures))
RotationRefused g m old new hands (Full kind) =
    (old.logs.closed ≡ None) × RotationLimit g m old new hands kind
RotationRefused g m old new hands Disk = (old.logs.closed ≡ None) × StoreDiskRose g old new
RotationRefused g m old new hands NoMemory = Unit {0}
RotationRefused _ _ _ _ _ _ = ⊥

-- the store stands for the drained book, with its base at its end
pub record StandsRotated {D M : Type 0} (g : Ghosts D) (fresh : List ModuleState)
    (new : StoreOf D M) (k : StoreBook) : Type 0 where
  pub based : StoreBook
  pub stands : StoreStandsFor g fresh new based
  pub based_is : IsBasedOf k based

-- What becomes of a book that the hands follow. A limit that is told is one of the book. Each
-- crash, now or at a moment since, leaves contents that read like the book, whatever is answered:
-- first while the fault log's disk alone is worked on, which is that of `after_drain` then, next
-- while the disk of the other error journal is, up to `after_making`, and at last while a slot's
-- is.
pub record RotatesDrained {D M : Type 0} (g : Ghosts D) (fresh : List ModuleState)
    (old new : StoreOf D M) (k : StoreBook) (result : Result ℕ StoreFault) : Type 0 where
  pub done : OnOk result (StandsRotated g fresh new k)
  pub undamaged : IfErr result IsNoDamage
  pub limit : IfErr result (DrainOrRotation (figures_of old) k)
  pub after_drain : StoreOf D M
  pub after_making : StoreOf D M
  pub any_moment : MomentsOn g Flt old after_drain (ReadsLike fresh k)
  pub any_making : MomentsOn g (name_of_two (not old.logs.second)) after_drain after_making
      (ReadsLike fresh k)
  pub any_later : MomentsOn g (slot_name (fills_second old.base.newest)) after_making new
      (ReadsLike fresh k)
  pub left : EachLeft g new (ReadsLike fresh k)
