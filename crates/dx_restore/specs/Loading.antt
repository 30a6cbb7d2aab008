-- What it is to load a state from its bytes.
use Rattle.std.specs.Prelude.{◌≡◌, ℕ, true, false, List, map, Option, Some, None, IsTrue}
use Rattle.std.specs.List.{list_all, All}
use Rattle.fm_core.specs.Meaning.{Diagnosis}
use Rattle.ev_graph.specs.Lawful.{GraphValue}
use Rattle.dx_explain.specs.Cases.{waits}
use Rattle.dx_state.specs.Configured.{Rules, found_at, configuration_at}
use Rattle.dx_state.specs.LawfulState.{is_state}
use Rattle.dx_state.specs.StateBytes.{diagnosis_bytes}
use Rattle.dx_kept.specs.declared.kept_state.KeptState.{KeptState}
use Rattle.dx_kept.specs.Kept.{diagnosis_of}
use Rattle.dx_step.specs.Lawful.{is_there, is_lawful}
use Rattle.dx_restore.specs.declared.parts.Loaded.{Loaded}
use Rattle.dx_restore.specs.Parts.{loaded_state, IsCaseAt, engines_with}

-- the graph of a configuration
abbrev pub graph_at : Rules → ℕ → GraphValue
graph_at r conf = (configuration_at r conf).graph

-- cases of the graph at the time, and its engines
pub record ArePartsOf (g : GraphValue) (l : Loaded) : Type 0 where
  pub cases : All (IsCaseAt g l.time) l.cases.items
  pub engines : l.engines.items ≡ engines_with g.engines (map (λ e. e.kept) l.engines.items)

-- the bytes spell the lawful state of these parts
pub record IsLoaded (r : Rules) (bytes : List ℕ) (l : Loaded) : Type 0 where
  pub lawful : IsTrue (is_lawful r (loaded_state l))
  pub spelled : diagnosis_bytes (loaded_state l) ≡ bytes
  pub parts : ArePartsOf (graph_at r l.conf) l

-- the bytes spell no lawful state
abbrev pub SpellsNone : Rules → List ℕ → Type 0
SpellsNone r bytes =
    (s : Diagnosis) → IsTrue (is_lawful r s) → diagnosis_bytes s ≡ bytes → ⊥

abbrev pub IsReadAs : Rules → List ℕ → Option Loaded → Type 0
IsReadAs r bytes None = SpellsNone r bytes
IsReadAs r bytes (Some l) = IsLoaded r bytes l

-- the bytes spell this state, of a configuration that is there, which is lawful there in all but
-- that each open case waits for a report
pub record IsSpelledState (r : Rules) (bytes : List ℕ) (s : Diagnosis) : Type 0 where
  pub there : IsTrue (is_there (found_at r.configurations s.conf))
  pub state : IsTrue (is_state r.own (configuration_at r s.conf) s)
  pub spelled : diagnosis_bytes s ≡ bytes
  pub only : (t : Diagnosis) → IsTrue (is_lawful r t) → diagnosis_bytes t ≡ bytes → t ≡ s

abbrev pub IsKeptAs : Rules → List ℕ → Option KeptState → Type 0
IsKeptAs r bytes None = SpellsNone r bytes
IsKeptAs r bytes (Some kept) = IsSpelledState r bytes (diagnosis_of kept)

-- the parts of a kept state, of which each open case waits; or none, where one does not
pub record IsRestored (g : GraphValue) (s : Diagnosis) (l : Loaded) : Type 0 where
  pub state : loaded_state l ≡ s
  pub parts : ArePartsOf g l
  pub waiting : list_all (waits g s.time) s.open_cases ≡ true

abbrev pub IsRestoredAs : GraphValue → Diagnosis → Option Loaded → Type 0
IsRestoredAs g s None = list_all (waits g s.time) s.open_cases ≡ false
IsRestoredAs g s (Some l) = IsRestored g s l
