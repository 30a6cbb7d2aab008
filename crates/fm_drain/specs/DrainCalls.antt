-- How a store is drained: where its hands are on the way, why it stops, and what becomes of the
-- book that the store stands for.
use Rattle.std.specs.Prelude.{◌≡◌, ◌≢◌, ◌⊎◌, ℕ, ◌-◌, ◌≤◌, List, length, map, slice_get}
use Rattle.std.specs.Prelude.{Some, None, Result, Ok, Err, OnOk, IfErr}
use Rattle.fm_outer.specs.Failures.{Rose}
use Rattle.fm_outer.specs.declared.disk.Disk.{Ghosts}
use Rattle.fm_entry.specs.WordBytes.{spoken_bytes}
use Rattle.fm_entry.specs.declared.entry.Entry.{Entry}
use Rattle.fm_entry.specs.declared.spoken.Spoken.{Spoken}
use Rattle.fm_journal.specs.declared.fault.FullKind.{FullKind}
use Rattle.fm_core.specs.Book.{Book, ModuleState, Work, run}
use Rattle.fm_core.specs.Hands.{HandOf, Shown, shown, stepped, spoken_at}
use Rattle.fm_core.specs.Seen.{FollowsAs}
use Rattle.fm_core.specs.declared.module.Module.{Ghosts as ModuleGhosts}
use Rattle.fm_logs.specs.LogsOf.{LogsOf, CannotTake}
use Rattle.fm_logs.specs.StoreBook.{StoreBook, with_book}
use Rattle.fm_logs.specs.declared.disks.DiskName.TheVariants.{Flt}
use Rattle.fm_logs.specs.declared.fault.StoreFault.{StoreFault}
use Rattle.fm_logs.specs.declared.fault.StoreFault.TheVariants.{Disk, Full, Closed, NoMemory}
use Rattle.fm_store.specs.Cursors.{IsAtCursor, AreAtCursors}
use Rattle.fm_store.specs.StoreCalls.{AreAtEnd, HandsAreDone}
use Rattle.fm_store.specs.StoreLeft.{MomentsOn, EachLeft, ReadsLike}
use Rattle.fm_store.specs.StoreOf.{StoreOf, StoreStandsFor}
use Rattle.fm_drain.specs.DrainLimits.{StepIsFull}

-- the hand of module i is one step past the module's cursor: it took the entry there, and said this
pub record IsStepPast {D M : Type 0} (m : ModuleGhosts M) (logs : LogsOf D) (i : ℕ) (h : HandOf M)
    (spoken : Spoken) : Type 0 where
  pub before : Shown
  pub number_is : before.number ≡ i
  pub own_is : before.meaning.own ≡ i
  pub cursor_is : slice_get logs.cursors i ≡ Some before.cursor
  pub from_base : logs.base ≤ before.cursor
  pub entry : Entry
  pub entry_is : slice_get logs.entries (before.cursor - logs.base) ≡ Some entry
  pub stepped_is : shown m h ≡ stepped before entry
  pub spoken_is : spoken ≡ spoken_at before entry

-- it is at the module's cursor, or one step past it
abbrev pub MayBePast : {D M : Type 0} → ModuleGhosts M → LogsOf D → ℕ → HandOf M → Type 0
MayBePast m logs i h = IsAtCursor m logs i h ⊎ ((spoken : Spoken) × IsStepPast m logs i h spoken)

-- a hand of each module is at its cursor, but that of one module may be a step past it
pub record AreAtCursorsBut {D M : Type 0} (m : ModuleGhosts M) (logs : LogsOf D)
    (hands : List (HandOf M)) (one : ℕ) : Type 0 where
  pub as_many : length hands ≡ length logs.cursors
  pub others : (i : ℕ) (h : HandOf M) → i ≢ one → slice_get hands i ≡ Some h → IsAtCursor m logs i h
  pub past : (h : HandOf M) → slice_get hands one ≡ Some h → MayBePast m logs one h

-- nothing was done but to the fault log, the modules' cursors, and whether the store is closed
abbrev pub OnlyCommitted : {D M : Type 0} → StoreOf D M → StoreOf D M → Type 0
OnlyCommitted old new = new ≡ record old {
  logs = record old.logs {
    flt = new.logs.flt;
    cursors = new.logs.cursors;
    closed = new.logs.closed;
  };
}

-- steps were committed to an open store without a failure, or nothing was done
abbrev pub StaysOpen : {D M : Type 0} → Ghosts D → StoreOf D M → StoreOf D M → Type 0
StaysOpen g old new =
    (new ≡ old) ⊎ ((old.logs.closed ≡ None) × (new.logs.closed ≡ None)
    × (g.failures new.logs.flt.disk ≡ g.failures old.logs.flt.disk))

-- Why a drain stopped at the hand of module i: the store was closed before it, and the hand is at
-- its cursor; or what the module said has no room in the fault log, or the fault log's disk failed.
-- Want of memory alone is free.
abbrev pub StoppedAt : {D M : Type 0} → Ghosts D → ModuleGhosts M → StoreOf D M → StoreOf D M → ℕ
    → HandOf M → StoreFault → Type 0
StoppedAt g m old new i h (Closed name failures) =
    (new ≡ old) × (old.logs.closed ≡ Some (name, failures)) × IsAtCursor m new.logs i h
StoppedAt g m old new i h (Full kind) =
    StaysOpen g old new × (new.logs.closed ≡ None) × ((spoken : Spoken)
    × IsStepPast m new.logs i h spoken × CannotTake new.logs.flt (spoken_bytes spoken) kind)
StoppedAt g m old new i h Disk =
    (old.logs.closed ≡ None)
    × (new.logs.closed ≡ Some (Flt, g.failures new.logs.flt.disk))
    × Rose (g.failures old.logs.flt.disk) (g.failures new.logs.flt.disk)
    × ((spoken : Spoken) × IsStepPast m new.logs i h spoken)
StoppedAt g m old new i h NoMemory = StaysOpen g old new
StoppedAt _ _ _ _ _ _ _ = ⊥

-- after Ok each module and its hand is at the end of the entries
pub record IsDrained {D M : Type 0} (g : Ghosts D) (m : ModuleGhosts M) (old new : StoreOf D M)
    (hands : List (HandOf M)) : Type 0 where
  pub at_cursors : AreAtCursors m new.logs hands
  pub at_end : AreAtEnd new.logs
  pub open_still : StaysOpen g old new

-- Else the hands are at their cursors, but that at which it stopped may be a step past.
pub record IsStopped {D M : Type 0} (g : Ghosts D) (m : ModuleGhosts M) (old new : StoreOf D M)
    (hands : List (HandOf M)) (fault : StoreFault) : Type 0 where
  pub one : ℕ
  pub at_cursors : AreAtCursorsBut m new.logs hands one
  pub why : (fault ≡ NoMemory) ⊎ ((h : HandOf M) × (slice_get hands one ≡ Some h)
      × StoppedAt g m old new one h fault)

abbrev pub DrainAnswers : {D M : Type 0} → Ghosts D → ModuleGhosts M → StoreOf D M → StoreOf D M
    → List (HandOf M) → Result Unit StoreFault → Type 0
DrainAnswers g m old new hands (Ok done) = IsDrained g m old new hands
DrainAnswers g m old new hands (Err fault) = IsStopped g m old new hands fault

-- each of the hands follows the book as the module of its place
abbrev pub AllFollow : {M : Type 0} → ModuleGhosts M → Book → List (HandOf M) → Type 0
AllFollow {M = M} m k hands =
    (i : ℕ) (h : HandOf M) → slice_get hands i ≡ Some h → FollowsAs k i (shown m h)

-- modules are worked in this order
abbrev pub store_after : List ℕ → StoreBook → StoreBook
store_after works k = with_book k (run k.book (map Work works))

-- A limit was reached of a book that the store stood for: it stands for the book after some works,
-- and a step of that book has no room in the fault log.
pub record StopsFull {D M : Type 0} (g : Ghosts D) (fresh : List ModuleState)
    (old new : StoreOf D M) (k : StoreBook) (kind : FullKind) : Type 0 where
  pub works : List ℕ
  pub stands : StoreStandsFor g fresh new (store_after works k)
  pub step : StepIsFull old.logs.flt.first (store_after works k).book kind

-- where a limit was reached, it is this one
abbrev pub StopsAtLimit : {D M : Type 0} → Ghosts D → List ModuleState → StoreOf D M → StoreOf D M
    → StoreBook → StoreFault → Type 0
StopsAtLimit g fresh old new k (Full kind) = StopsFull g fresh old new k kind
StopsAtLimit _ _ _ _ _ _ = Unit {0}

-- What a drain does of itself, whatever the disks say: it commits steps only, and hands that follow
-- a book with the store's base and entries follow it still. Of each book that the store stands for
-- and the hands follow, a limit that is told was reached.
pub record DrainDoes {D M : Type 0} (g : Ghosts D) (m : ModuleGhosts M) (old new : StoreOf D M)
    (hands now : List (HandOf M)) (result : Result Unit StoreFault) : Type 0 where
  pub only : OnlyCommitted old new
  pub as_many : length now ≡ length hands
  pub first_same : OnOk result (new.logs.flt.first ≡ old.logs.flt.first)
  pub follow : (k : Book) → k.base ≡ old.logs.base → k.entries ≡ old.logs.entries
      → AllFollow m k hands → AllFollow m k now
  pub answer : DrainAnswers g m old new now result
  pub limit : (fresh : List ModuleState) (k : StoreBook) → StoreStandsFor g fresh old k
      → AllFollow m k.book hands → IfErr result (StopsAtLimit g fresh old new k)

-- Some steps of modules were committed. The store stands for the book after them, unless it was
-- closed since, and each crash, now or at a moment since, leaves contents that read like the book.
pub record CommitsWorks {D M : Type 0} (g : Ghosts D) (fresh : List ModuleState)
    (old new : StoreOf D M) (k : StoreBook) (works : List ℕ) : Type 0 where
  pub stands : new.logs.closed ≡ None → StoreStandsFor g fresh new (store_after works k)
  pub any_moment : MomentsOn g Flt old new (ReadsLike fresh k)
  pub left : EachLeft g new (ReadsLike fresh k)

-- What a drain makes of a book that the hands follow: after Ok they have come to the end of the
-- book that the store then stands for.
pub record DrainsOnBook {D M : Type 0} (g : Ghosts D) (m : ModuleGhosts M)
    (fresh : List ModuleState) (old new : StoreOf D M) (k : StoreBook) (hands : List (HandOf M))
    (result : Result Unit StoreFault) : Type 0 where
  pub works : List ℕ
  pub commits : CommitsWorks g fresh old new k works
  pub follow : AllFollow m (store_after works k).book hands
  pub done : OnOk result (HandsAreDone m (store_after works k).book hands)
  pub is_open : OnOk result (new.logs.closed ≡ None)
