-- What a case is explained as: the text of the row of a drained book that has a UUID, in the graph
-- of the row's configuration.
use Rattle.std.specs.Prelude.{◌≡◌, ◌⊎◌, ℕ, List, Option, Some, None, slice_get}
use Rattle.ev_check.specs.CheckedFile.{CheckedFile}
use Rattle.ev_file.specs.declared.made.Made.{Made}
use Rattle.ev_graph.specs.Lawful.{GraphValue}
use Rattle.ev_inst.specs.Instances.{IsMadeOf}
use Rattle.fm_core.specs.Drained.{Drained}
use Rattle.fm_entry.specs.declared.list_event.ListEvent.{ListEvent}
use Rattle.fm_explain.specs.Explained.{IsExplained}
use Rattle.fm_saved.specs.declared.conf.Conf.{Conf}
use Rattle.fm_drain.specs.CaseStatus.{IsStatusOf}
use Rattle.fm_sources.specs.Rules.{IsRuleFile}
use Rattle.fm_topo.specs.Fault.{IsFaultless}
use Rattle.fm_topo.specs.Topology.{topology_of}
use Rattle.fm_admin.specs.Rows.{row_with}

-- the text is a rule file, and this is its graph over the topology of another text
pub record TextHasGraph (topo text : List ℕ) (g : GraphValue) : Type 0 where
  pub clean : IsFaultless topo
  pub checked : CheckedFile
  pub is_rules : IsRuleFile text checked
  pub made : Made
  pub is_made : IsMadeOf checked (topology_of topo) made
  pub graph_is : g ≡ made.graph

-- the rule file of this number has this graph in the configuration
abbrev pub FileHasGraph : Conf → ℕ → GraphValue → Type 0
FileHasGraph conf file g =
    (text : List ℕ) × (slice_get conf.rules file ≡ Some text) × TextHasGraph conf.topo text g

-- The graph of a row: that of its module's rule file in the row's configuration, where this is the
-- one in force, which has this number. None of a row of another configuration, and of a row whose
-- module has no rule file.
abbrev pub IsGraphOfRow : Conf → ℕ → ListEvent → Option GraphValue → Type 0
IsGraphOfRow conf in_force row (Some g) =
    (row.conf ≡ in_force) × FileHasGraph conf row.case.module g
IsGraphOfRow conf in_force row None =
    (row.conf ≡ in_force → ⊥) ⊎ (slice_get conf.rules row.case.module ≡ None)

-- the text of a row in its graph
abbrev pub IsTextOfRow : Conf → ℕ → ListEvent → List ℕ → Type 0
IsTextOfRow conf in_force row text =
    (graph : Option GraphValue) × IsGraphOfRow conf in_force row graph × IsExplained graph row text

-- the text of a row if there is one
abbrev pub IsTextOfFound : Conf → ℕ → Option ListEvent → Option (List ℕ) → Type 0
IsTextOfFound conf in_force None None = Unit {0}
IsTextOfFound conf in_force (Some row) (Some text) = IsTextOfRow conf in_force row text
IsTextOfFound conf in_force _ _ = ⊥

-- the text of the first row of a drained book that has the UUID under the namespace of the
-- configuration in force, which has this number; none where no row has it
pub record IsExplanationOf (conf : Conf) (in_force : ℕ) (uuid : List ℕ) (d : Drained)
    (text : Option (List ℕ)) : Type 0 where
  pub rows : List ListEvent
  pub status : IsStatusOf d rows
  pub told : IsTextOfFound conf in_force (row_with conf.namespace uuid rows) text
