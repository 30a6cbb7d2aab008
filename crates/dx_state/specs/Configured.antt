-- What a diagnosis module is made with.
use Rattle.std.specs.Prelude.{ℕ, ◌==◌, List, [], length}
use Rattle.std.specs.Prelude.{Option, Some, None, slice_get, if◌then◌else◌, IsTrue, refl}
use Rattle.std.specs.List.{list_all}
use Rattle.fm_nv.specs.Data.{Pairs}
use Rattle.ev_graph.specs.Cutting.{is_cut}
use Rattle.ev_graph.specs.declared.instances.Link.{Link}
use Rattle.ev_graph.specs.Lawful.{GraphValue}

-- Which links payloads can break: the guarded ones; and the instances whose links to a node a
-- payload breaks. Only guarded links break.
pub record Guarding : Type 0 where
  pub guarded : List Link
  pub breaks : ℕ → Pairs → List ℕ
  pub breaks_guarded : (node : ℕ) (payload : Pairs)
      → IsTrue (list_all (λ i. is_cut guarded i node) (breaks node payload))

-- one configuration: the graph, and which of its links payloads can break
pub record Configuration : Type 0 where
  pub graph : GraphValue
  pub guarding : Guarding

-- The configurations that a module is made with: a single one of some number, which it knows of no
-- list; or a list, in which they are numbered from 0.
pub data Configurations : Type 0 where
  Single : ℕ → Configuration → Configurations
  Listed : List Configuration → Configurations

-- how many configurations a module knows of a list
abbrev pub known_of : Configurations → ℕ
known_of (Single number x) = 0
known_of (Listed xs) = length xs

-- the configuration of a number
abbrev pub found_at : Configurations → ℕ → Option Configuration
found_at (Single number x) n = if n == number then Some x else None
found_at (Listed xs) n = slice_get xs n

-- what a module is made with: its own number, and configurations
pub record Rules : Type 0 where
  pub own : ℕ
  pub configurations : Configurations

-- no link is guarded
abbrev pub unguarded : Guarding
unguarded = record {
  guarded = [];
  breaks = λ node payload. [];
  breaks_guarded = λ node payload. refl;
}

-- the configuration without events
abbrev pub no_configuration : Configuration
no_configuration = record {
  graph = record { nodes = []; engines = []; instances = [] };
  guarding = unguarded;
}

abbrev pub or_none : Option Configuration → Configuration
or_none None = no_configuration
or_none (Some x) = x

-- the configuration of a number; one without events where there is none of that number
abbrev pub configuration_at : Rules → ℕ → Configuration
configuration_at r n = or_none (found_at r.configurations n)
