-- A store that accepts what an operator said, where that marks something, and is drained again.
use Rattle.std.specs.Prelude.{◌≡◌, ◌⊎◌, ℕ, List, Option, Some, None, Result, Ok, Err, IfErr}
use Rattle.fm_outer.specs.declared.disk.Disk.{Ghosts}
use Rattle.fm_core.specs.Book.{ModuleState, next_number}
use Rattle.fm_core.specs.Drained.{drained}
use Rattle.fm_core.specs.Hands.{HandOf}
use Rattle.fm_core.specs.declared.module.Module.{Ghosts as ModuleGhosts}
use Rattle.fm_entry.specs.declared.entry.Entry.{Entry}
use Rattle.fm_entry.specs.declared.list_event.ListEvent.{ListEvent}
use Rattle.fm_logs.specs.LogsOf.{AcceptRefused, TakesEntry, name_of_two}
use Rattle.fm_logs.specs.StoreBook.{StoreBook, store_accepted}
use Rattle.fm_logs.specs.declared.disks.DiskName.TheVariants.{Flt}
use Rattle.fm_logs.specs.declared.fault.StoreFault.{StoreFault}
use Rattle.fm_status.specs.Wanted.{IsWantedOf}
use Rattle.fm_store.specs.StoreCalls.{HandsAreDone}
use Rattle.fm_store.specs.StoreLeft.{MomentsOn, EachLeft, ReadsLikeEither}
use Rattle.fm_store.specs.StoreOf.{StoreOf}
use Rattle.fm_store.specs.StoreReading.{IsNoDamage}
use Rattle.fm_drain.specs.Wanting.{AreWantedOf}
use Rattle.fm_admin.specs.Limits.{RepairLimit}
use Rattle.fm_admin.specs.Marking.{IsEntryBy}
use Rattle.fm_admin.specs.Telling.{TellRefused, TellsBook, WasDrained}
use Rattle.fm_command.specs.declared.request.RepairOrder.{RepairOrder}
use Rattle.fm_admin.specs.declared.repairing.Repaired.{Repaired}

-- The entry was taken, and then the store was drained: `between` is the store after the entry.
pub record TookAndDrained {D M : Type 0} (g : Ghosts D) (old new : StoreOf D M) (e : Entry)
    (number : ℕ) : Type 0 where
  pub between : StoreOf D M
  pub takes : TakesEntry g old.logs between.logs e number
  pub base_same : between.base ≡ old.base
  pub drained : WasDrained g between new

abbrev pub TookOne : {D M : Type 0} → Ghosts D → StoreOf D M → StoreOf D M → Entry
    → Option Repaired → Type 0
TookOne g old new e None = ⊥
TookOne g old new e (Some one) = TookAndDrained g old new e one.number

-- The entry was not taken; or it was, and then the store was not drained or not read.
abbrev pub TakeRefused : {D M : Type 0} → Ghosts D → ModuleGhosts M → StoreOf D M → StoreOf D M
    → List (HandOf M) → Entry → StoreFault → Type 0
TakeRefused {D = D} {M = M} g m old new hands e fault =
    ((new.base ≡ old.base) × AcceptRefused g old.logs new.logs e fault)
    ⊎ ((between : StoreOf D M) × (number : ℕ) × TakesEntry g old.logs between.logs e number
    × (between.base ≡ old.base) × TellRefused g m Flt between new hands fault)

-- the entry was not taken: each crash leaves contents that read like the book, or with the entry
pub record StopsAtEntry {X : Type 0} {D M : Type 0} (g : Ghosts D) (fresh : List ModuleState)
    (between new : StoreOf D M) (k : StoreBook) (e : Entry) (result : Result X StoreFault)
    : Type 0 where
  pub fault : StoreFault
  pub result_is : result ≡ Err fault
  pub undamaged : IsNoDamage fault
  pub same : new ≡ between
  pub left : EachLeft g new (ReadsLikeEither fresh k (store_accepted k e))

-- What becomes of a book: first the entry is taken or not, up to `between`, and each crash leaves
-- contents that read like the book, or with the entry; and then the book with the entry is drained,
-- and told of.
pub record TakesAndTells {X : Type 0} {D M : Type 0} (g : Ghosts D) (fresh : List ModuleState)
    (old new : StoreOf D M) (k : StoreBook) (e : Entry) (result : Result X StoreFault)
    (Told : StoreBook → X → Type 0) : Type 0 where
  pub between : StoreOf D M
  pub any_moment : MomentsOn g (name_of_two old.logs.second) old between
      (ReadsLikeEither fresh k (store_accepted k e))
  pub ends : StopsAtEntry g fresh between new k e result
      ⊎ TellsBook g fresh Flt between new (store_accepted k e) result Told

-- the number of the entry, and what the book with it wants out of use once it is drained
pub record IsRepaired (k : StoreBook) (e : Entry) (one : Repaired) : Type 0 where
  pub number_is : one.number ≡ next_number k.book
  pub wanted : AreWantedOf (drained (store_accepted k e).book) one.wanted

-- of the entry with this number it is told, and of what the rows want out of use
abbrev pub TellsRepaired : ℕ → List ListEvent → Option Repaired → Type 0
TellsRepaired number rows None = ⊥
TellsRepaired number rows (Some one) = (one.number ≡ number) × IsWantedOf rows one.wanted

-- an entry was taken
abbrev pub IsRepairedBy : StoreBook → Entry → Option Repaired → Type 0
IsRepairedBy k e None = ⊥
IsRepairedBy k e (Some one) = IsRepaired k e one

-- hands at the end of the drained book, and the entry that the operator's word comes to, if any
abbrev pub AreHandsAndEntry : {M : Type 0} → ModuleGhosts M → RepairOrder → StoreBook → StoreBook
    → List (HandOf M) → Option Entry → Type 0
AreHandsAndEntry m order k now hands e =
    HandsAreDone m now.book hands
    × IsEntryBy order.namespace order.moment order.repair (drained k.book) e

-- what follows the look for an entry: it is taken; where there is none nothing is done
abbrev pub RepairFollows : {D M : Type 0} → Ghosts D → List ModuleState → StoreOf D M
    → StoreOf D M → StoreBook → Result (Option Entry) StoreFault
    → Result (Option Repaired) StoreFault → Type 0
RepairFollows g fresh mid new k (Ok (Some e)) result =
    TakesAndTells g fresh mid new k e result (λ now one. IsRepairedBy k e one)
RepairFollows g fresh mid new k (Ok None) result = (result ≡ Ok None) × (new ≡ mid)
RepairFollows g fresh mid new k (Err fault) result = (result ≡ Err fault) × (new ≡ mid)

-- What becomes of a book that the hands follow: it is drained and looked at, up to `after_look`,
-- and then the entry that was found is taken. A limit that is told is one of the book.
pub record RepairsBook {D M : Type 0} (g : Ghosts D) (fresh : List ModuleState)
    (old new : StoreOf D M) (k : StoreBook) (order : RepairOrder)
    (result : Result (Option Repaired) StoreFault) : Type 0 where
  pub after_look : StoreOf D M
  pub found : Result (Option Entry) StoreFault
  pub looks : TellsBook g fresh Flt old after_look k found
      (λ now e. IsEntryBy order.namespace order.moment order.repair (drained k.book) e)
  pub follows : RepairFollows g fresh after_look new k found result
  pub limit : IfErr result (RepairLimit old k order)

-- what was done, by whether an entry was found
abbrev pub RepairDid : {D M : Type 0} → Ghosts D → StoreOf D M → StoreOf D M → Option Repaired
    → Type 0
RepairDid g old new None = WasDrained g old new
RepairDid {D = D} {M = M} g old new (Some one) =
    (mid : StoreOf D M) × WasDrained g old mid × (e : Entry) × TookOne g mid new e (Some one)

-- why it was refused: the first drain, or the taking of an entry and what follows it
abbrev pub RepairRefused : {D M : Type 0} → Ghosts D → ModuleGhosts M → StoreOf D M → StoreOf D M
    → List (HandOf M) → StoreFault → Type 0
RepairRefused {D = D} {M = M} g m old new hands fault =
    TellRefused g m Flt old new hands fault
    ⊎ ((mid : StoreOf D M) × WasDrained g old mid × (now : List (HandOf M)) × (e : Entry)
    × TakeRefused g m mid new now e fault)
