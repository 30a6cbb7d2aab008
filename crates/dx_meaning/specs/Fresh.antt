-- The state that a diagnosis module begins in.
use Rattle.std.specs.Prelude.{ℕ, [], map}
use Rattle.fm_core.specs.Meaning.{Diagnosis}
use Rattle.dx_state.specs.Configured.{Configurations, Single, Listed, Rules, configuration_at}

-- the configuration that it begins in: the single one, or the first of the list
abbrev pub first_of : Configurations → ℕ
first_of (Single number x) = number
first_of (Listed xs) = 0

-- nothing has happened yet
abbrev pub fresh_of : Rules → Diagnosis
fresh_of r = record {
  conf = first_of r.configurations;
  time = 0;
  next = 0;
  open_cases = [];
  solved = [];
  engines = map (λ e. []) (configuration_at r (first_of r.configurations)).graph.engines;
}
