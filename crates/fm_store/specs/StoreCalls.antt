-- What the calls of a store do, by their answers.
use Rattle.std.specs.Prelude.{◌≡◌, ℕ, ◌+◌, ◌<◌, ◌≤◌, ◌^◌, IsTrue, List, [], length, map, All}
use Rattle.std.specs.Prelude.{slice_get}
use Rattle.std.specs.Prelude.{Bool, Some, None, Result, Ok, Err, OnOk, ◌⊎◌, ◌==◌}
use Rattle.std.specs.List.{list_all}
use Rattle.fm_outer.specs.Failures.{Rose}
use Rattle.fm_outer.specs.declared.disk.Disk.{Ghosts}
use Rattle.fm_core.specs.Book.{ModuleState, Book, next_number}
use Rattle.fm_core.specs.Hands.{HandOf, shown}
use Rattle.fm_core.specs.Meaning.{saved_of, holds_of}
use Rattle.fm_core.specs.Seen.{FollowsAs}
use Rattle.fm_core.specs.declared.module.Module.{Ghosts as ModuleGhosts}
use Rattle.fm_entry.specs.declared.entry.Entry.{Entry}
use Rattle.fm_journal.specs.declared.fault.FullKind.TheVariants.{Numbers, Payload}
use Rattle.fm_saved.specs.Checkpoints.{IsSpelledCheckpoint, checkpoint_bytes}
use Rattle.fm_saved.specs.declared.checkpoint.Checkpoint.{Checkpoint}
use Rattle.fm_slots.specs.Format.{SlotOf}
use Rattle.fm_logs.specs.LogsBook.{store_worked}
use Rattle.fm_logs.specs.LogsOf.{LogsOf, name_of_two}
use Rattle.fm_logs.specs.StoreBook.{StoreBook, store_accepted}
use Rattle.fm_logs.specs.declared.disks.DiskName.TheVariants.{Flt}
use Rattle.fm_logs.specs.declared.fault.StoreFault.{StoreFault}
use Rattle.fm_logs.specs.declared.fault.StoreFault.TheVariants.{Disk, Full, Closed, NoMemory}
use Rattle.fm_logs.specs.declared.logs.Committed.{Committed}
use Rattle.fm_logs.specs.declared.logs.Committed.TheVariants.{Done}
use Rattle.fm_store.specs.StoreOf.{StoreOf, StoreStandsFor, fills_second}
use Rattle.fm_store.specs.StoreOf.{newest_sequence, greatest_at, force_at}
use Rattle.fm_store.specs.Slots.{next_slot, kept_slot}
use Rattle.fm_store.specs.StoreLeft.{MomentsOn, EachLeft, ReadsLike, ReadsLikeEither}
use Rattle.fm_looks.specs.Opening.{slot_name}
use Rattle.fm_store.specs.StoreLeft.{store_based}

-- the number of entries ever
abbrev pub next_entry : {D : Type 0} → LogsOf D → ℕ
next_entry logs = logs.base + length logs.entries

-- each module has come to the end of the entries
abbrev pub AreAtEnd : {D : Type 0} → LogsOf D → Type 0
AreAtEnd logs = IsTrue (list_all (λ cursor. cursor == next_entry logs) logs.cursors)

-- What `accept` makes of a book that may accept the entry: after Ok the store stands for the
-- accepted one, and at each moment, and afterwards whatever is answered, a crash leaves contents
-- that read like the book of before or like that one.
pub record AcceptsOnBook {D M : Type 0} (g : Ghosts D) (fresh : List ModuleState)
    (old new : StoreOf D M) (k : StoreBook) (e : Entry) (result : Result ℕ StoreFault) : Type 0
  where
    pub stands : OnOk result (StoreStandsFor g fresh new (store_accepted k e))
    pub any_moment : MomentsOn g (name_of_two old.logs.second) old new
        (ReadsLikeEither fresh k (store_accepted k e))
    pub left : EachLeft g new (ReadsLikeEither fresh k (store_accepted k e))

-- after Done the store stands for the book that is worked on
abbrev pub CommitStands : {D M : Type 0} → Ghosts D → List ModuleState → StoreOf D M → StoreBook → ℕ
    → Result Committed StoreFault → Type 0
CommitStands g fresh new k i (Ok Done) = StoreStandsFor g fresh new (store_worked k i)
CommitStands g fresh new k i _ = Unit {0}

-- What `commit` makes of a book of which the frame has a step: each crash, now or at a moment
-- since, leaves contents that read like the book.
pub record CommitsOnBook {D M : Type 0} (g : Ghosts D) (fresh : List ModuleState)
    (old new : StoreOf D M) (k : StoreBook) (i : ℕ) (result : Result Committed StoreFault) : Type 0
  where
    pub stands : CommitStands g fresh new k i result
    pub any_moment : MomentsOn g Flt old new (ReadsLike fresh k)
    pub left : EachLeft g new (ReadsLike fresh k)

-- a hand of each module, which follows the book and has taken all entries
pub record HandsAreDone {M : Type 0} (g : ModuleGhosts M) (k : Book) (hands : List (HandOf M))
    : Type 0 where
  pub as_many : length hands ≡ length k.modules
  pub follow : (i : ℕ) (h : HandOf M) → slice_get hands i ≡ Some h → FollowsAs k i (shown g h)
  pub at_end : (i : ℕ) (h : HandOf M) → slice_get hands i ≡ Some h → h.cursor ≡ next_number k

-- the saves of hands' states
abbrev pub saves_of : {M : Type 0} → ModuleGhosts M → List (HandOf M) → List (List ℕ)
saves_of g hands = map (λ h. saved_of (g.meaning h.object) (g.state h.object)) hands

-- all hands are in lawful states
abbrev pub AreLawful : {M : Type 0} → ModuleGhosts M → List (HandOf M) → Type 0
AreLawful g hands = All (λ h. IsTrue (holds_of (g.meaning h.object) (g.state h.object))) hands

-- what a new base is written as: the active journal, the number of entries ever, their greatest
-- moment, the number of the configuration now in force, and the states
abbrev pub checkpoint_at : {D M : Type 0} → StoreOf D M → Bool → List (List ℕ) → Checkpoint
checkpoint_at store second states = record {
  second = second;
  base = next_entry store.logs;
  moment = greatest_at store;
  conf = force_at store;
  states = states;
}

-- what is written into the slot that is not in force
pub record IsNextFrame {D M : Type 0} (store : StoreOf D M) (second : Bool)
    (states : List (List ℕ)) (frame : SlotOf) : Type 0 where
  pub was_open : store.logs.closed ≡ None
  pub few : newest_sequence store.base.newest + 1 < 2 ^ 62
  pub frame_is : frame ≡ record {
    sequence = newest_sequence store.base.newest + 1;
    payload = checkpoint_bytes (checkpoint_at store second states);
  }
  pub short : length (checkpoint_bytes (checkpoint_at store second states)) ≤ 2 ^ 28
  pub spelled : IsSpelledCheckpoint (checkpoint_at store second states)

-- A new base was put in force: the slot that was not in force has the next sequence, and nothing
-- else of the disks beside the logs was touched but `spare`.
pub record PutsBase {D M : Type 0} (g : Ghosts D) (old new : StoreOf D M)
    (states : List (List ℕ)) : Type 0 where
  pub was_open : old.logs.closed ≡ None
  pub few : newest_sequence old.base.newest + 1 < 2 ^ 62
  pub base_is : new.base ≡ record old.base {
    spare = new.base.spare;
    slot_a = new.base.slot_a;
    slot_b = new.base.slot_b;
    newest = Some (fills_second old.base.newest, newest_sequence old.base.newest + 1);
    moment = greatest_at old;
    in_force = force_at old;
    states = states;
  }
  pub kept_same : kept_slot new.base old.base.newest ≡ kept_slot old.base old.base.newest
  pub no_failure : g.failures (next_slot new.base old.base.newest)
      ≡ g.failures (next_slot old.base old.base.newest)

-- a checkpoint was written
pub record Checkpoints {D M : Type 0} (g : Ghosts D) (old new : StoreOf D M)
    (states : List (List ℕ)) : Type 0 where
  pub puts : PutsBase g old new states
  pub short : length (checkpoint_bytes (checkpoint_at old old.logs.second states)) ≤ 2 ^ 28
  pub spare_same : new.base.spare ≡ old.base.spare
  pub logs_are : new.logs ≡ record old.logs { base = next_entry old.logs; entries = [] }

-- The store was closed, as the slot's disk failed: its name and its count are kept, and of the
-- disks nothing but that one and `spare` was touched.
pub record ClosesAtSlot {D M : Type 0} (g : Ghosts D) (old new : StoreOf D M) : Type 0 where
  pub logs_are : new.logs ≡ record old.logs {
    closed = Some (
      slot_name (fills_second old.base.newest),
      g.failures (next_slot new.base old.base.newest),
    );
  }
  pub base_is : new.base ≡ record old.base {
    spare = new.base.spare;
    slot_a = new.base.slot_a;
    slot_b = new.base.slot_b;
  }
  pub kept_same : kept_slot new.base old.base.newest ≡ kept_slot old.base old.base.newest
  pub rose : Rose (g.failures (next_slot old.base old.base.newest))
      (g.failures (next_slot new.base old.base.newest))

-- Why there is no frame. Closed; then Full: there is no next sequence below 2^62, or else the
-- states are too long for a slot. Want of memory alone is free.
abbrev pub NextRefused : {D M : Type 0} → StoreOf D M → Bool → List (List ℕ) → StoreFault → Type 0
NextRefused store second states (Closed name failures) =
    store.logs.closed ≡ Some (name, failures)
NextRefused store second states (Full kind) =
    (store.logs.closed ≡ None)
    × (((kind ≡ Numbers) × (2 ^ 62 ≤ newest_sequence store.base.newest + 1))
    ⊎ ((kind ≡ Payload) × (newest_sequence store.base.newest + 1 < 2 ^ 62)
    × (2 ^ 28 < length (checkpoint_bytes (checkpoint_at store second states)))))
NextRefused store second states NoMemory = store.logs.closed ≡ None
NextRefused _ _ _ _ = ⊥

-- Why no checkpoint was written: there is no frame, and then a failure of the slot's disk.
abbrev pub CheckpointRefused : {D M : Type 0} → Ghosts D → StoreOf D M → StoreOf D M
    → List (List ℕ) → StoreFault → Type 0
CheckpointRefused g old new states Disk =
    (old.logs.closed ≡ None) × (newest_sequence old.base.newest + 1 < 2 ^ 62)
    × (length (checkpoint_bytes (checkpoint_at old old.logs.second states)) ≤ 2 ^ 28)
    × ClosesAtSlot g old new × (new.base.spare ≡ old.base.spare)
CheckpointRefused g old new states fault =
    (new ≡ old) × NextRefused old old.logs.second states fault

abbrev pub CheckpointDoes : {D M : Type 0} → Ghosts D → StoreOf D M → StoreOf D M → List (List ℕ)
    → Result Unit StoreFault → Type 0
CheckpointDoes g old new states (Ok done) = Checkpoints g old new states
CheckpointDoes g old new states (Err fault) = CheckpointRefused g old new states fault

-- What `checkpoint` makes of a book that all hands have come to the end of: after Ok the store
-- stands for it with a new base, and each crash, now or at a moment since, leaves contents that
-- read like it.
pub record CheckpointsOnBook {D M : Type 0} (g : Ghosts D) (fresh : List ModuleState)
    (old new : StoreOf D M) (k : StoreBook) (result : Result Unit StoreFault) : Type 0 where
  pub stands : OnOk result (StoreStandsFor g fresh new (store_based k))
  pub any_moment : MomentsOn g (slot_name (fills_second old.base.newest)) old new
      (ReadsLike fresh k)
  pub left : EachLeft g new (ReadsLike fresh k)
