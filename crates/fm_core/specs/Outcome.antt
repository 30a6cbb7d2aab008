-- What a core answers when it is asked to work on a module.
use Rattle.std.specs.Prelude.{ℕ, ◌-◌, List, [], ◌∷◌, slice_get, Option, Some, None}
use Rattle.fm_entry.specs.declared.entry.Entry.{Entry}
use Rattle.fm_entry.specs.declared.list_event.ListEvent.{ListEvent}
use Rattle.fm_entry.specs.declared.spoken.Spoken.{Spoken}
use Rattle.fm_core.specs.Meaning.{says_of}
use Rattle.fm_core.specs.Book.{ModuleState, Book, state_at}
use Rattle.fm_core.specs.declared.worked.Worked.{Worked}
use Rattle.fm_core.specs.declared.worked.Worked.TheVariants.{Idle, Silent, Spoke}

-- the step said nothing, or something
abbrev pub after_step : List ListEvent → Worked
after_step [] = Silent
after_step (w ∷ ws) = Spoke

-- what is kept of a record: nothing where it has no words
abbrev pub kept_of : List ListEvent → Spoken → List Spoken
kept_of [] spoken = []
kept_of (w ∷ ws) spoken = spoken ∷ []

abbrev pub kept_record : Spoken → List Spoken
kept_record spoken = kept_of spoken.events spoken

abbrev pub outcome_on : Book → ModuleState → ℕ → Option Entry → Worked
outcome_on k p c None = Idle
outcome_on k p c (Some e) = after_step (says_of p.meaning (state_at k p c) c e)

abbrev pub outcome_at : Book → Option ModuleState → Option ℕ → Worked
outcome_at k (Some p) (Some c) = outcome_on k p c (slice_get k.entries (c - k.base))
outcome_at k (Some p) None = Idle
outcome_at k None c = Idle

-- Idle where module i has no entry left to take, else whether its step says nothing or something
abbrev pub outcome : Book → ℕ → Worked
outcome k i = outcome_at k (slice_get k.modules i) (slice_get k.cursors i)
