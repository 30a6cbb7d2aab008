-- What the making of a store does, and what a crash within it leaves.
use Rattle.std.specs.Prelude.{◌≡◌, ◌⊎◌, ℕ, ◌<◌, ◌^◌, List, [], ◌∷◌, length, map, slice_get}
use Rattle.std.specs.Prelude.{Some, Result, Ok, Err}
use Rattle.fm_outer.specs.Failures.{Rose}
use Rattle.fm_outer.specs.Moments.{LeavesOnly, OnlyRead}
use Rattle.fm_outer.specs.declared.disk.Disk.{Ghosts}
use Rattle.fm_core.specs.Book.{ModuleState}
use Rattle.fm_journal.specs.Crash.{IsEmptyOrNone}
use Rattle.fm_journal.specs.Format.{IsJournal}
use Rattle.fm_journal.specs.declared.fault.FullKind.TheVariants.{Payload}
use Rattle.fm_slots.specs.Format.{IsClosedSlot}
use Rattle.fm_saved.specs.Confs.{conf_bytes}
use Rattle.fm_saved.specs.declared.conf.Conf.{Conf}
use Rattle.fm_logs.specs.Contents.{Contents, AreTold, AreImages}
use Rattle.fm_logs.specs.StoreBook.{StoreBook, HaveConf}
use Rattle.fm_logs.specs.declared.disks.Disks.{Disks}
use Rattle.fm_logs.specs.declared.fault.StoreFault.{StoreFault}
use Rattle.fm_logs.specs.declared.fault.StoreFault.TheVariants.{Disk, Full, Exists, NoMemory}
use Rattle.fm_init.specs.declared.refused.StoreRefused.{StoreRefused}

-- a store is there: the bytes of the configurations' disk are a journal with a payload
abbrev pub HasStore : List ℕ → Type 0
HasStore bytes = (first : ℕ) × (payload : List ℕ) × (payloads : List (List ℕ))
    × IsJournal bytes first (payload ∷ payloads)

-- the contents of a new store: the configuration, two empty logs, and no open slot
pub record IsNewStore (c : Contents) (conf : Conf) : Type 0 where
  pub conf_is : IsJournal c.conf 0 (conf_bytes conf ∷ [])
  pub no_entries : IsJournal c.err_a 0 []
  pub no_first_slot : IsClosedSlot c.slot_a
  pub no_second_slot : IsClosedSlot c.slot_b
  pub no_records : IsJournal c.flt 0 []

-- modules as they are made: each has its number, and is of the first configuration if it has one
pub record AreFirstModules (fresh : List ModuleState) : Type 0 where
  pub numbered : (i : ℕ) (p : ModuleState) → slice_get fresh i ≡ Some p → p.meaning.own ≡ i
  pub of_first : HaveConf 0 fresh

-- the book of a new store: no entries, no records, and all modules as they are made
abbrev pub new_book : List ModuleState → Conf → StoreBook
new_book fresh conf = record {
  book = record {
    base = 0;
    moment = 0;
    modules = fresh;
    entries = [];
    cursors = map (λ _. 0) fresh;
    records = [];
  };
  confs = conf ∷ [];
  in_force = 0;
}

-- no store, or the configuration
abbrev pub IsNoneOrConf : List ℕ → List ℕ → Type 0
IsNoneOrConf payload c = IsEmptyOrNone c ⊎ IsJournal c 0 (payload ∷ [])

-- the four disks beside the configurations' are ready, in each image
pub record AreReady {D : Type 0} (g : Ghosts D) (disks : Disks D) : Type 0 where
  pub no_entries : (c : List ℕ) → g.images disks.err_a c → IsJournal c 0 []
  pub no_first_slot : (c : List ℕ) → g.images disks.slot_a c → IsClosedSlot c
  pub no_second_slot : (c : List ℕ) → g.images disks.slot_b c → IsClosedSlot c
  pub no_records : (c : List ℕ) → g.images disks.flt c → IsJournal c 0 []

-- only the configurations' disk was touched, and that was read
abbrev pub OnlyLooked : {D : Type 0} → Ghosts D → Disks D → Disks D → Type 0
OnlyLooked g old new = (new ≡ record old { conf = new.conf }) × OnlyRead g old.conf new.conf

-- How a store is made. The configurations' disk is read, and there is no store in any image of it.
-- It stays so while the four others are made. Only once these are ready is it written, and from
-- then on each image of it is no store, or has the configuration. The second error journal is not
-- touched.
pub record MakesStore {D : Type 0} (g : Ghosts D) (old new : Disks D) (conf : Conf) : Type 0 where
  pub read : D
  pub still : OnlyRead g old.conf read
  pub none : (c : List ℕ) → g.images read c → IsEmptyOrNone c
  pub any_moment : (c : Contents) → AreTold g old c
      → LeavesOnly g read new.conf (IsNoneOrConf (conf_bytes conf))
  pub in_order : (new.conf ≡ read) ⊎ ((c : Contents) → AreTold g old c → AreReady g new)
  pub second_same : new.err_b ≡ old.err_b

-- the counts of failures of the six disks
abbrev pub counts_on : {D : Type 0} → Ghosts D → Disks D → Disks ℕ
counts_on g disks = record {
  conf = g.failures disks.conf;
  err_a = g.failures disks.err_a;
  err_b = g.failures disks.err_b;
  slot_a = g.failures disks.slot_a;
  slot_b = g.failures disks.slot_b;
  flt = g.failures disks.flt;
}

-- why the configurations' disk was refused
abbrev pub LookRefused : {D : Type 0} → Ghosts D → D → D → StoreFault → Type 0
LookRefused g old new Exists = (c : List ℕ) → g.seen old ≡ Some c → HasStore c
LookRefused g old new Disk = Rose (g.failures old) (g.failures new)
LookRefused _ _ _ _ = ⊥

-- the count of one of the six disks rose
abbrev pub RoseOnOne : {D : Type 0} → Ghosts D → Disks D → Disks D → Type 0
RoseOnOne g old new =
    Rose (g.failures old.conf) (g.failures new.conf)
    ⊎ (Rose (g.failures old.err_a) (g.failures new.err_a)
    ⊎ (Rose (g.failures old.slot_a) (g.failures new.slot_a)
    ⊎ (Rose (g.failures old.slot_b) (g.failures new.slot_b)
    ⊎ Rose (g.failures old.flt) (g.failures new.flt))))

-- Why no store was made. Exists exactly where one is there; then Full, exactly where the
-- configuration is too long for a payload; and Disk only where a count rose.
abbrev pub InitRefused : {D : Type 0} → Ghosts D → Disks D → Disks D → Conf → StoreFault → Type 0
InitRefused g old new conf Exists =
    OnlyLooked g old new × ((c : List ℕ) → g.seen old.conf ≡ Some c → HasStore c)
InitRefused g old new conf (Full kind) =
    OnlyLooked g old new × (kind ≡ Payload) × (2 ^ 28 < length (conf_bytes conf))
    × ((c : List ℕ) → g.seen old.conf ≡ Some c → IsEmptyOrNone c)
InitRefused g old new conf NoMemory = OnlyLooked g old new
InitRefused g old new conf Disk =
    RoseOnOne g old new × (OnlyLooked g old new ⊎ MakesStore g old new conf)
InitRefused _ _ _ _ _ = ⊥

-- a store was made, where there was none
pub record IsMade {D : Type 0} (g : Ghosts D) (old new : Disks D) (conf : Conf) : Type 0 where
  pub makes : MakesStore g old new conf
  pub was_none : (c : List ℕ) → g.seen old.conf ≡ Some c → IsEmptyOrNone c
  pub is_new : (told c : Contents) → AreTold g old told → AreImages g new c → IsNewStore c conf

-- what the making does, by its answer
abbrev pub InitDoes : {D : Type 0} → Ghosts D → Disks D → Conf
    → Result (Disks D) (StoreRefused D) → Type 0
InitDoes g old conf (Ok new) = IsMade g old new conf
InitDoes g old conf (Err refused) = InitRefused g old refused.disks conf refused.fault

-- the disks that come back
abbrev pub disks_back : {D : Type 0} → Result (Disks D) (StoreRefused D) → Disks D
disks_back (Ok disks) = disks
disks_back (Err refused) = refused.disks
