-- The parts that a diagnosis module works on, and the state that they are of.
use Rattle.std.specs.Prelude.{◌≡◌, ℕ, List, [], ◌∷◌, map, Some}
use Rattle.fm_core.specs.Meaning.{Diagnosis}
use Rattle.ev_graph.specs.Lawful.{GraphValue}
use Rattle.ev_graph.specs.declared.nodes.EngineSpec.{EngineSpec}
use Rattle.dx_serd.specs.Rates.{RateOf, rate_of}
use Rattle.dx_case.specs.declared.case.Case.{Case}
use Rattle.dx_case.specs.Cases.{open_of, time_of, IsCaseOf}
use Rattle.dx_restore.specs.declared.parts.Loaded.{Loaded}
use Rattle.dx_restore.specs.declared.parts.Parts.{Parts}

-- the state of some parts
abbrev pub loaded_state : Loaded → Diagnosis
loaded_state l = record {
  conf = l.conf;
  time = l.time;
  next = l.next;
  open_cases = map open_of l.cases.items;
  solved = l.solved.items;
  engines = map (λ r. r.kept) l.engines.items;
}

abbrev pub parts_state : Parts → Diagnosis
parts_state p = record {
  conf = p.conf;
  time = p.time;
  next = p.next;
  open_cases = p.cases.now;
  solved = p.solved.now;
  engines = map (λ r. r.kept) p.engines.now;
}

-- the case was made in this graph, and has come to this time
pub record IsCaseAt (g : GraphValue) (time : ℕ) (c : Case) : Type 0 where
  pub case : IsCaseOf g c
  pub moment : time_of c ≡ Some time

-- engines of these kinds that keep these moments
abbrev pub engines_with : List EngineSpec → List (List ℕ) → List RateOf
engines_with (e ∷ es) (kept ∷ rest) = rate_of e.n e.t kept ∷ engines_with es rest
engines_with _ _ = []
