-- The limits of the fault log at which a drain stops, by the book alone: what a step of it says has
-- no room behind its records.
use Rattle.std.specs.Prelude.{◌≡◌, ◌⊎◌, ℕ, ◌+◌, ◌<◌, ◌≤◌, ◌^◌, List, [], ◌∷◌, ◌++◌, length, map}
use Rattle.std.specs.Prelude.{Some, None}
use Rattle.fm_core.specs.Book.{Book, Work, run, worked}
use Rattle.fm_entry.specs.WordBytes.{spoken_bytes}
use Rattle.fm_entry.specs.declared.spoken.Spoken.{Spoken}
use Rattle.fm_journal.specs.Causes.{refused}
use Rattle.fm_journal.specs.Format.{end_of}
use Rattle.fm_journal.specs.declared.fault.FullKind.{FullKind}
use Rattle.fm_journal.specs.declared.fault.FullKind.TheVariants.{Payload}
use Rattle.fm_journal.specs.declared.fault.JournalFault.TheVariants.{Full as JournalIsFull}
use Rattle.fm_logs.specs.declared.fault.StoreFault.{StoreFault}
use Rattle.fm_logs.specs.declared.fault.StoreFault.TheVariants.{Full}

-- A journal with this first number and these payloads has no room for one more: it is too long for
-- a frame, or else the journal would pass this limit by it.
abbrev pub HasNoRoom : ℕ → List (List ℕ) → List ℕ → FullKind → Type 0
HasNoRoom first payloads payload kind =
    ((kind ≡ Payload) × (2 ^ 28 < length payload))
    ⊎ ((length payload ≤ 2 ^ 28)
    × (refused None first (length payloads) (end_of payloads) (5 + length payload)
    ≡ Some (JournalIsFull kind)))

-- Work on a module of the book puts this record behind its records, and a fault log of these, with
-- this first number, has no room for it.
pub record StepIsFull (first : ℕ) (k : Book) (kind : FullKind) : Type 0 where
  pub own : ℕ
  pub spoken : Spoken
  pub says : (worked k own).records ≡ k.records ++ spoken ∷ []
  pub no_room : HasNoRoom first (map spoken_bytes k.records) (spoken_bytes spoken) kind

-- where a step is refused at a limit, it is this one
abbrev pub StepLimit : ℕ → Book → StoreFault → Type 0
StepLimit first k (Full kind) = StepIsFull first k kind
StepLimit _ _ _ = Unit {0}

-- a step is refused, after some works of the book
pub record DrainIsFull (first : ℕ) (k : Book) (kind : FullKind) : Type 0 where
  pub works : List ℕ
  pub step : StepIsFull first (run k (map Work works)) kind
