-- The limits at which what an operator asks of a store stops, by the book of before.
use Rattle.std.specs.Prelude.{◌≡◌, ◌⊎◌, ◌<◌, ◌≤◌, ◌^◌, not, Some}
use Rattle.fm_core.specs.Book.{next_number}
use Rattle.fm_core.specs.Drained.{drained}
use Rattle.fm_drain.specs.DrainLimits.{DrainIsFull}
use Rattle.fm_entry.specs.Entries.{entry_bytes}
use Rattle.fm_entry.specs.declared.entry.Entry.{Entry}
use Rattle.fm_journal.specs.declared.fault.FullKind.{FullKind}
use Rattle.fm_journal.specs.declared.fault.FullKind.TheVariants.{Numbers}
use Rattle.fm_logs.specs.LogsOf.{CannotTake}
use Rattle.fm_logs.specs.StoreBook.{StoreBook, store_accepted}
use Rattle.fm_logs.specs.declared.fault.StoreFault.{StoreFault}
use Rattle.fm_logs.specs.declared.fault.StoreFault.TheVariants.{Full}
use Rattle.fm_drain.specs.BaseLimits.{CheckpointIsFull, Figures}
use Rattle.fm_store.specs.StoreOf.{StoreOf}
use Rattle.fm_admin.specs.Marking.{IsEntryBy}
use Rattle.fm_admin.specs.Telling.{IsDrainedOf}
use Rattle.fm_command.specs.declared.request.RepairOrder.{RepairOrder}

-- A drain reaches this limit, or the rotation that follows it: no journal begins at 2^46, or else
-- there is no room for a checkpoint of the drained book.
abbrev pub RotationIsFull : Figures → StoreBook → FullKind → Type 0
RotationIsFull f k kind =
    DrainIsFull f.flt_first k.book kind
    ⊎ (((kind ≡ Numbers) × (2 ^ 46 ≤ next_number k.book))
    ⊎ ((next_number k.book < 2 ^ 46) × CheckpointIsFull f.sequence (not f.second) k kind))

-- where a drain and a rotation stop at a limit, it is this one
abbrev pub DrainOrRotation : Figures → StoreBook → StoreFault → Type 0
DrainOrRotation f k (Full kind) = RotationIsFull f k kind
DrainOrRotation _ _ _ = Unit {0}

-- The active error journal has no room for the entry, or else a drain of the book with it reaches
-- this limit.
abbrev pub TakeIsFull : {D M : Type 0} → StoreOf D M → StoreBook → Entry → FullKind → Type 0
TakeIsFull store k e kind =
    CannotTake store.logs.active (entry_bytes e) kind
    ⊎ DrainIsFull store.logs.flt.first (store_accepted k e).book kind

-- where the taking of an entry stops at a limit, it is this one
abbrev pub TakeLimit : {D M : Type 0} → StoreOf D M → StoreBook → Entry → StoreFault → Type 0
TakeLimit store k e (Full kind) = TakeIsFull store k e kind
TakeLimit _ _ _ _ = Unit {0}

-- The entry that an operator's word comes to, by the drained book, reaches this limit as it is
-- taken by a book that the one of before comes to by draining.
pub record RepairEntryIsFull {D M : Type 0} (store : StoreOf D M) (k : StoreBook)
    (order : RepairOrder) (kind : FullKind) : Type 0 where
  pub entry : Entry
  pub entry_is : IsEntryBy order.namespace order.moment order.repair (drained k.book) (Some entry)
  pub now : StoreBook
  pub drained_is : IsDrainedOf k now
  pub full : TakeIsFull store now entry kind

-- where a repair stops at a limit, the drain before it reaches it, or else its entry does
abbrev pub RepairLimit : {D M : Type 0} → StoreOf D M → StoreBook → RepairOrder → StoreFault
    → Type 0
RepairLimit store k order (Full kind) =
    DrainIsFull store.logs.flt.first k.book kind ⊎ RepairEntryIsFull store k order kind
RepairLimit _ _ _ _ = Unit {0}
