-- A store that is drained and has its base moved to its end: what is done, and what becomes of the
-- book that the store stands for.
use Rattle.std.specs.Prelude.{◌≡◌, ℕ, List, [], ◌∷◌, Option, Some, None, Result, Ok, Err, OnOk}
use Rattle.std.specs.Prelude.{OnErr, IfErr, slice_get}
use Rattle.fm_outer.specs.Failures.{Rose}
use Rattle.fm_outer.specs.declared.disk.Disk.{Ghosts}
use Rattle.fm_core.specs.Book.{ModuleState, next_number}
use Rattle.fm_core.specs.Drained.{drained}
use Rattle.fm_core.specs.Hands.{HandOf}
use Rattle.fm_core.specs.Records.{of_module}
use Rattle.fm_core.specs.declared.module.Module.{Ghosts as ModuleGhosts}
use Rattle.fm_entry.specs.declared.entry.Entry.{Entry}
use Rattle.fm_logs.specs.LogsBook.{DrainAlike}
use Rattle.fm_logs.specs.StoreBook.{StoreBook}
use Rattle.fm_logs.specs.declared.disks.DiskName.{DiskName}
use Rattle.fm_logs.specs.declared.disks.DiskName.TheVariants.{Flt}
use Rattle.fm_logs.specs.declared.fault.StoreFault.{StoreFault}
use Rattle.fm_logs.specs.declared.fault.StoreFault.TheVariants.{Disk, Full, Closed, NoMemory}
use Rattle.fm_looks.specs.Opening.{slot_name}
use Rattle.fm_store.specs.Cursors.{AreAtCursors}
use Rattle.fm_store.specs.StoreCalls.{next_entry, saves_of, AreAtEnd, HandsAreDone, CheckpointDoes}
use Rattle.fm_store.specs.StoreLeft.{MomentsOn, EachLeft, ReadsLike, store_based, store_disk}
use Rattle.fm_store.specs.StoreOf.{StoreOf, StoreStandsFor, fills_second}
use Rattle.fm_drain.specs.DrainCalls.{AllFollow, DrainDoes, store_after}
use Rattle.fm_drain.specs.BaseLimits.{BaseLimit, figures_of}

-- a checkpoint was written of the hands after the drain, or none where the drain stopped
abbrev pub CheckpointFollows : {D M : Type 0} → Ghosts D → ModuleGhosts M → StoreOf D M
    → StoreOf D M → List (HandOf M) → Result Unit StoreFault → Result Unit StoreFault → Type 0
CheckpointFollows g m drained new now (Ok done) result =
    CheckpointDoes g drained new (saves_of m now) result
CheckpointFollows g m drained new now (Err fault) result =
    (new ≡ drained) × (result ≡ Err fault)

-- the store was drained, and then a checkpoint was written, unless the drain stopped
pub record DrainsThenBases {D M : Type 0} (g : Ghosts D) (m : ModuleGhosts M)
    (old new : StoreOf D M) (hands now : List (HandOf M)) (result : Result Unit StoreFault)
    : Type 0 where
  pub after_drain : StoreOf D M
  pub answer : Result Unit StoreFault
  pub drain : DrainDoes g m old after_drain hands now answer
  pub checkpoint : CheckpointFollows g m after_drain new now answer result

-- What is done, by whether the store was closed and by its entries past the base: a closed one is
-- refused, one without such entries stays as it is, and any other is drained and then has its base
-- moved.
abbrev pub ToBaseBy : {D M : Type 0} → Option (DiskName × ℕ) → List Entry → Ghosts D
    → ModuleGhosts M → StoreOf D M → StoreOf D M → List (HandOf M) → List (HandOf M)
    → Result Unit StoreFault → Type 0
ToBaseBy (Some closed) entries g m old new hands now result =
    (new ≡ old) × (now ≡ hands) × (result ≡ Err (Closed closed.0 closed.1))
ToBaseBy None [] g m old new hands now result = (new ≡ old) × (now ≡ hands) × (result ≡ Ok tt)
ToBaseBy None (e ∷ es) g m old new hands now result =
    DrainsThenBases g m old new hands now result

abbrev pub ToBaseDoes : {D M : Type 0} → Ghosts D → ModuleGhosts M → StoreOf D M → StoreOf D M
    → List (HandOf M) → List (HandOf M) → Result Unit StoreFault → Type 0
ToBaseDoes g m old new = ToBaseBy old.logs.closed old.logs.entries g m old new

-- After Ok the store is open, as it was, it has no entries past its base, which is at the end, and
-- each module and its hand is there.
pub record IsAtBase {D M : Type 0} (m : ModuleGhosts M) (old new : StoreOf D M)
    (now : List (HandOf M)) : Type 0 where
  pub was_open : old.logs.closed ≡ None
  pub is_open : new.logs.closed ≡ None
  pub base_is : new.logs.base ≡ next_entry old.logs
  pub none_left : new.logs.entries ≡ []
  pub at_cursors : AreAtCursors m new.logs now
  pub at_end : AreAtEnd new.logs

-- A disk failed: the store is closed with its name and its count, which rose.
pub record ClosesAt {D M : Type 0} (g : Ghosts D) (old new : StoreOf D M) : Type 0 where
  pub was_open : old.logs.closed ≡ None
  pub name : DiskName
  pub closed_is : new.logs.closed ≡ Some (name, g.failures (store_disk name new))
  pub rose : Rose (g.failures (store_disk name old)) (g.failures (store_disk name new))

-- Why it was refused: the store was closed before, or a disk failed, or a limit was reached, at
-- which an open store stays open. Want of memory alone is free.
abbrev pub ToBaseRefused : {D M : Type 0} → Ghosts D → StoreOf D M → StoreOf D M → StoreFault
    → Type 0
ToBaseRefused g old new (Closed name failures) =
    (new ≡ old) × (old.logs.closed ≡ Some (name, failures))
ToBaseRefused g old new Disk = ClosesAt g old new
ToBaseRefused g old new (Full kind) = (old.logs.closed ≡ None) × (new.logs.closed ≡ None)
ToBaseRefused g old new NoMemory = old.logs.closed ≡ None
ToBaseRefused _ _ _ _ = ⊥

-- A book that was drained and has its base at its end: it drains to the same, also after more
-- entries, no entry is past its base, and of each module it has the state and the records that the
-- drained book has.
pub record IsBasedOf (k based : StoreBook) : Type 0 where
  pub alike : DrainAlike based.book k.book
  pub confs_same : based.confs ≡ k.confs
  pub base_is : based.book.base ≡ next_number k.book
  pub none_left : based.book.entries ≡ []
  pub ends : (i : ℕ) (p : ModuleState) → slice_get based.book.modules i ≡ Some p
      → slice_get (drained k.book).modules i
      ≡ Some (record { state = p.state; words = of_module i based.book.records })

-- the store stands for the based book, whose end the hands have come to
pub record StandsAtBase {D M : Type 0} (g : Ghosts D) (m : ModuleGhosts M)
    (fresh : List ModuleState) (new : StoreOf D M) (k based : StoreBook) (now : List (HandOf M))
    : Type 0 where
  pub stands : StoreStandsFor g fresh new based
  pub done : HandsAreDone m based.book now
  pub based_is : IsBasedOf k based

-- What becomes of a book that the hands follow: modules are worked, and after Ok the store stands
-- for the book after these works with its base at its end, where the hands are done. After a
-- refusal it stands for the book after the works, unless it was closed since. A limit that is told
-- is one of the book. Each crash, now or at a moment since, leaves contents that read like the
-- book: first while the fault log's disk alone is worked on, which is that of `after_drain` then,
-- and then while a slot's alone is.
pub record ToBaseOnBook {D M : Type 0} (g : Ghosts D) (m : ModuleGhosts M)
    (fresh : List ModuleState) (old new : StoreOf D M) (k : StoreBook) (now : List (HandOf M))
    (result : Result Unit StoreFault) : Type 0 where
  pub works : List ℕ
  pub follow : AllFollow m (store_after works k).book now
  pub at_base : OnOk result
      (StandsAtBase g m fresh new k (store_based (store_after works k)) now)
  pub refused : OnErr result (new.logs.closed ≡ None
      → StoreStandsFor g fresh new (store_after works k))
  pub limit : IfErr result (BaseLimit (figures_of old) k)
  pub after_drain : StoreOf D M
  pub any_moment : MomentsOn g Flt old after_drain (ReadsLike fresh k)
  pub any_later : MomentsOn g (slot_name (fills_second old.base.newest)) after_drain new
      (ReadsLike fresh k)
  pub left : EachLeft g new (ReadsLike fresh k)
