-- What a run of steps of one hand does, and what it makes of the book that the store stands for.
use Rattle.std.specs.Prelude.{◌≡◌, ◌≢◌, ℕ, List, length, slice_get, Result, Ok, Err, OnOk}
use Rattle.std.specs.Prelude.{IfErr}
use Rattle.fm_outer.specs.declared.disk.Disk.{Ghosts}
use Rattle.fm_core.specs.Book.{Book, ModuleState}
use Rattle.fm_core.specs.Hands.{HandOf, shown}
use Rattle.fm_core.specs.Seen.{FollowsAs}
use Rattle.fm_core.specs.declared.module.Module.{Ghosts as ModuleGhosts}
use Rattle.fm_logs.specs.StoreBook.{StoreBook}
use Rattle.fm_logs.specs.declared.fault.StoreFault.{StoreFault}
use Rattle.fm_store.specs.Cursors.{IsAtCursor}
use Rattle.fm_store.specs.StoreCalls.{next_entry}
use Rattle.fm_store.specs.StoreLeft.{AreSameStore}
use Rattle.fm_store.specs.StoreOf.{StoreOf, StoreStandsFor}
use Rattle.fm_drain.specs.DrainCalls.{MayBePast, OnlyCommitted, StaysOpen, StoppedAt}
use Rattle.fm_drain.specs.DrainCalls.{CommitsWorks, store_after}
use Rattle.fm_drain.specs.DrainLimits.{StepLimit}

-- after Ok the hand is at its cursor again
abbrev pub HandAnswers : {D M : Type 0} → Ghosts D → ModuleGhosts M → StoreOf D M → StoreOf D M → ℕ
    → HandOf M → Result Unit StoreFault → Type 0
HandAnswers g m old new i now (Ok done) = IsAtCursor m new.logs i now × StaysOpen g old new
HandAnswers g m old new i now (Err fault) =
    MayBePast m new.logs i now × StoppedAt g m old new i now fault

-- Steps of the hand were committed, and of other modules none: it became `now`, which follows each
-- book with the store's base and entries that the hand followed.
pub record HandDoes {D M : Type 0} (g : Ghosts D) (m : ModuleGhosts M) (old new : StoreOf D M)
    (hand now : HandOf M) (result : Result Unit StoreFault) : Type 0 where
  pub only : OnlyCommitted old new
  pub as_many : length new.logs.cursors ≡ length old.logs.cursors
  pub first_same : OnOk result (new.logs.flt.first ≡ old.logs.flt.first)
  pub others : (j : ℕ) → j ≢ hand.number
      → slice_get new.logs.cursors j ≡ slice_get old.logs.cursors j
  pub follow : (k : Book) → k.base ≡ old.logs.base → k.entries ≡ old.logs.entries
      → FollowsAs k hand.number (shown m hand) → FollowsAs k hand.number (shown m now)
  pub answer : HandAnswers g m old new hand.number now result

-- Some works of the book were committed, and where a limit was reached, it is that of a step of the
-- book after them.
pub record HandOnBook {D M : Type 0} (g : Ghosts D) (fresh : List ModuleState)
    (old new : StoreOf D M) (k : StoreBook) (result : Result Unit StoreFault) : Type 0 where
  pub works : List ℕ
  pub commits : CommitsWorks g fresh old new k works
  pub limit : IfErr result (StepLimit old.logs.flt.first (store_after works k).book)

-- the hand took all entries that it had not taken, or stopped
pub record HandDrains {D M : Type 0} (g : Ghosts D) (m : ModuleGhosts M) (old new : StoreOf D M)
    (hand now : HandOf M) (result : Result Unit StoreFault) : Type 0 where
  pub does : HandDoes g m old new hand now result
  pub at_end : OnOk result (now.cursor ≡ next_entry old.logs)
  pub book : (fresh : List ModuleState) (k : StoreBook) → StoreStandsFor g fresh old k
      → FollowsAs k.book hand.number (shown m hand) → HandOnBook g fresh old new k result
  pub same_disks : AreSameStore g old new

-- a hand after those before it: it is not drained where one of them stopped
abbrev pub NextDoes : {D M : Type 0} → Ghosts D → ModuleGhosts M → StoreOf D M → StoreOf D M
    → HandOf M → HandOf M → Result Unit StoreFault → Result Unit StoreFault → Type 0
NextDoes g m old new hand now (Ok done) result = HandDrains g m old new hand now result
NextDoes g m old new hand now (Err fault) result =
    (new ≡ old) × (now ≡ hand) × (result ≡ Err fault)
