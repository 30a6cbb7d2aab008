-- What a module becomes and says as it takes entries in order of number.
use Rattle.std.specs.Prelude.{ℕ, ◌+◌, IsTrue, All, List, [], ◌∷◌, ◌++◌}
use Rattle.fm_entry.specs.declared.entry.Entry.{Entry}
use Rattle.fm_entry.specs.declared.list_event.ListEvent.{ListEvent}
use Rattle.fm_entry.specs.declared.spoken.Spoken.{Spoken}
use Rattle.fm_entry.specs.Words.{IsWordOf}
use Rattle.fm_core.specs.Meaning.{Meaning, State, after_of, says_of, holds_of}

-- the state that s becomes along the entries, whose numbers count from n
abbrev pub state_along : Meaning → State → ℕ → List Entry → State
state_along m s n [] = s
state_along m s n (e ∷ es) = state_along m (after_of m s n e) (n + 1) es

-- what a module said at one entry, as a list of records: none where it said nothing, else one
abbrev pub records_at : ℕ → ℕ → List ListEvent → List Spoken
records_at own n [] = []
records_at own n (w ∷ ws) = record { «module» = own; number = n; events = w ∷ ws } ∷ []

-- the records of what is said from the state s along the entries, whose numbers count from n
abbrev pub words_along : Meaning → State → ℕ → List Entry → List Spoken
words_along m s n [] = []
words_along m s n (e ∷ es) =
    records_at m.own n (says_of m s n e) ++ words_along m (after_of m s n e) (n + 1) es

-- along the entries the state comes to a lawful one, and each record on the way has words of the
-- module
pub record StaysLawful (m : Meaning) (s : State) (n : ℕ) (es : List Entry) : Type 0 where
  pub state_holds : IsTrue (holds_of m (state_along m s n es))
  pub words_are : All (λ r. All (IsWordOf m.own) r.events) (words_along m s n es)
