-- The node of a number, and the place of a word.
use Rattle.std.specs.Prelude.{◌≡◌, ◌≤◌, ◌∷◌, ℕ, true, false, nat_lt, List, [], length}
use Rattle.std.specs.Prelude.{slice_get}
use Rattle.std.specs.List.{AllWithin, cons_option}
use Rattle.fm_entry.specs.declared.list_event.ListEvent.{ListEvent}
use Rattle.ev_graph.specs.declared.nodes.Node.{Node}
use Rattle.dx_step.specs.Said.{with_last_word}

-- the node of a number, if there is one
abbrev pub node_at : List Node → ℕ → List Node
node_at nodes e = cons_option (slice_get nodes e) []

-- so many of the first words are of cases before a number, and no other is
pub record IsWordPlace (n : ℕ) (ws : List ListEvent) (at : ℕ) : Type 0 where
  pub within : at ≤ length ws
  pub before : AllWithin (λ w. nat_lt w.case.case n ≡ true) ws 0 at
  pub after : AllWithin (λ w. nat_lt w.case.case n ≡ false) ws at (length ws)

-- last words of solved cases with some more
abbrev pub with_words : List ListEvent → List ListEvent → List ListEvent
with_words [] ws = ws
with_words (w ∷ more) ws = with_words more (with_last_word w ws)
