-- The limits at which a drain and the checkpoint that follows it stop, by the book of before.
use Rattle.std.specs.Prelude.{◌≡◌, ◌⊎◌, ℕ, ◌+◌, ◌<◌, ◌≤◌, ◌^◌, Bool, List, length, map}
use Rattle.fm_core.specs.Book.{Book, next_number, greatest_of}
use Rattle.fm_core.specs.Drained.{ended}
use Rattle.fm_core.specs.Meaning.{saved_of}
use Rattle.fm_drain.specs.DrainLimits.{DrainIsFull}
use Rattle.fm_journal.specs.declared.fault.FullKind.{FullKind}
use Rattle.fm_journal.specs.declared.fault.FullKind.TheVariants.{Numbers, Payload}
use Rattle.fm_logs.specs.StoreBook.{StoreBook, force_now}
use Rattle.fm_logs.specs.declared.fault.StoreFault.{StoreFault}
use Rattle.fm_logs.specs.declared.fault.StoreFault.TheVariants.{Full}
use Rattle.fm_saved.specs.Checkpoints.{checkpoint_bytes}
use Rattle.fm_saved.specs.declared.checkpoint.Checkpoint.{Checkpoint}
use Rattle.fm_store.specs.StoreOf.{StoreOf, newest_sequence}

-- What limits depend on beside the book of a store: the first number of its fault log, the sequence
-- of the slot in force, and whether the second error journal is the active one.
pub record Figures : Type 0 where
  pub flt_first : ℕ
  pub sequence : ℕ
  pub second : Bool

abbrev pub figures_of : {D M : Type 0} → StoreOf D M → Figures
figures_of store = record {
  flt_first = store.logs.flt.first;
  sequence = newest_sequence store.base.newest;
  second = store.logs.second;
}

-- the saves of the states that the modules of a book have once it is drained
abbrev pub drained_saves : Book → List (List ℕ)
drained_saves k = map (λ p. saved_of p.meaning (ended k p).state) k.modules

-- the checkpoint of a book once it is drained
abbrev pub drained_checkpoint : Bool → StoreBook → Checkpoint
drained_checkpoint second k = record {
  second = second;
  base = next_number k.book;
  moment = greatest_of k.book;
  conf = force_now k;
  states = drained_saves k.book;
}

-- Behind a slot with this sequence there is no room for a checkpoint of the drained book: there is
-- no next sequence below 2^62, or else its bytes are too many for a slot.
abbrev pub CheckpointIsFull : ℕ → Bool → StoreBook → FullKind → Type 0
CheckpointIsFull sequence second k kind =
    ((kind ≡ Numbers) × (2 ^ 62 ≤ sequence + 1))
    ⊎ ((kind ≡ Payload) × (sequence + 1 < 2 ^ 62)
    × (2 ^ 28 < length (checkpoint_bytes (drained_checkpoint second k))))

-- a drain reaches this limit, or the checkpoint that follows it
abbrev pub BaseIsFull : Figures → StoreBook → FullKind → Type 0
BaseIsFull f k kind =
    DrainIsFull f.flt_first k.book kind ⊎ CheckpointIsFull f.sequence f.second k kind

-- where a limit was reached, it is this one
abbrev pub BaseLimit : Figures → StoreBook → StoreFault → Type 0
BaseLimit f k (Full kind) = BaseIsFull f k kind
BaseLimit _ _ _ = Unit {0}
