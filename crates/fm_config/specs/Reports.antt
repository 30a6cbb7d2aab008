-- The events of reports that the rule files of a configuration come to.
use Rattle.std.specs.Prelude.{◌≡◌, ℕ, List, ◌++◌, map, flat_map, ◌↔◌}
use Rattle.std.specs.List.{filter, Contains}
use Rattle.std.specs.List.Sorted.{IsStrictlySortedBy}
use Rattle.fm_name.specs.Category.{is_ereport}
use Rattle.fm_name.specs.Events.{event_cmp}
use Rattle.fm_name.specs.declared.events.EventName.{EventName}
use Rattle.ev_file.specs.declared.made.Made.{Made}
use Rattle.ev_graph.specs.declared.nodes.Node.{Node}
use Rattle.fm_saved.specs.declared.conf.Conf.{Conf}
use Rattle.fm_modules.specs.KeptTexts.{EachHas}
use Rattle.fm_topo.specs.Topology.{Topology}
use Rattle.fm_config.specs.Comes.{ConfComesTo, TextComesTo}

-- the events of nodes that are reports: those of category `ereport`
abbrev pub report_names : List Node → List EventName
report_names nodes =
    map (λ node. node.name) (filter (λ node. is_ereport node.name.class) nodes)

-- the reports of graphs, graph by graph
unfoldable pub all_reports : List Made → List EventName
all_reports mades = flat_map (λ made. report_names made.graph.nodes) mades

-- the reports of what the text of a rule file comes to stand behind others
pub record AreAppended (topo : Topology) (text : List ℕ) (before after : List EventName) : Type 0
  where
    pub made : Made
    pub comes : TextComesTo topo text made
    pub after_is : after ≡ before ++ report_names made.graph.nodes

-- the reports of what texts come to, text by text
pub record AreGathered (topo : Topology) (texts : List (List ℕ)) (events : List EventName) : Type 0
  where
    pub mades : List Made
    pub come : EachHas (TextComesTo topo) texts mades
    pub events_are : events ≡ all_reports mades

-- the same events, each once and in event order
pub record AreOnce (events once : List EventName) : Type 0 where
  pub ascend : IsStrictlySortedBy event_cmp once
  pub same : (event : EventName) → Contains once event ↔ Contains events event

-- The reports of a configuration: those of the graphs that its rule files come to, in event order,
-- each once, and none else.
pub record AreReportsOf (conf : Conf) (events : List EventName) : Type 0 where
  pub mades : List Made
  pub come : ConfComesTo conf mades
  pub ascend : IsStrictlySortedBy event_cmp events
  pub same : (event : EventName) → Contains events event ↔ Contains (all_reports mades) event
