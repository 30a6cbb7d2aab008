-- The paths at which a pattern gives its event under a binding.
use Rattle.std.specs.Prelude.{ℕ, Bool, true, false, ◌&&◌, ◌||◌, List, [], Option, Some, None}
use Rattle.std.specs.Prelude.{slice_get}
use Rattle.std.specs.Map.{keys_of}
use Rattle.fm_topo.specs.Topology.{Topology}
use Rattle.ev_tree.specs.Condition.{Condition}
use Rattle.ev_tree.specs.Pattern.{Pattern}
use Rattle.ev_expr.specs.Conditions.{holds}
use Rattle.ev_events.specs.Fits.{fits, places_with}
use Rattle.ev_events.specs.Asking.{condition_names, asks_payload}

-- the condition holds at a path, or asks the payload; none holds everywhere
abbrev pub passes : Topology → List (List ℕ) → List ℕ → Pattern → List ℕ → Option Condition → Bool
passes topology vs b q path None = true
passes topology vs b q path (Some c) =
    asks_payload c || holds (record {
      names = condition_names vs b q.parts path;
      topology = topology;
      path = path;
      props = [];
    }) c

-- there is a path of the number, at which the condition of a pattern passes
abbrev pub passes_if : Topology → List (List ℕ) → List ℕ → Pattern → Option (List ℕ) → Bool
passes_if topology vs b q None = false
passes_if topology vs b q (Some path) = passes topology vs b q path q.cond

abbrev pub passes_at : Topology → List (List ℕ) → List ℕ → Pattern → ℕ → Bool
passes_at topology vs b q at = passes_if topology vs b q (slice_get (keys_of topology) at)

-- a pattern gives its event at a path under a binding: the path fits, and the condition passes
abbrev pub gives : Topology → List (List ℕ) → List ℕ → Pattern → List ℕ → Bool
gives topology vs b q path = fits vs b q.parts path && passes topology vs b q path q.cond

-- the numbers of these paths, ascending
abbrev pub giving : Topology → List (List ℕ) → List ℕ → Pattern → List ℕ
giving topology vs b q = places_with (gives topology vs b q) 0 topology
