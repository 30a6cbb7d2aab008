-- What the texts of a configuration come to: a configuration of a module for each rule file; or
-- which of them are refused.
use Rattle.std.specs.Prelude.{◌≡◌, ◌⊎◌, ℕ, List, [], ◌∷◌, map, slice_get, take, Some}
use Rattle.fm_saved.specs.declared.conf.Conf.{Conf}
use Rattle.fm_topo.specs.Fault.{IsFaultless, IsFirstFault}
use Rattle.fm_topo.specs.Topology.{Topology, topology_of}
use Rattle.fm_topo.specs.declared.faults.TopoFault.TheVariants.{At}
use Rattle.fm_topo.specs.declared.faults.TopoKind.{TopoKind}
use Rattle.fm_sources.specs.Rules.{IsRuleFile, IsRulesFault}
use Rattle.fm_sources.specs.declared.faults.RulesKind.{RulesKind}
use Rattle.ev_check.specs.CheckedFile.{CheckedFile}
use Rattle.ev_file.specs.declared.made.Made.{Made}
use Rattle.ev_graph.specs.Lawful.{GraphValue, IsGraph}
use Rattle.ev_inst.specs.GuardsOf.{AreGuardsOf}
use Rattle.ev_guards.specs.Guards.{GuardsValue}
use Rattle.ev_inst.specs.Instances.{IsInstFault, IsMadeOf}
use Rattle.ev_inst.specs.declared.fault.InstFault.TheVariants.{Nodes, Links}
use Rattle.dx_rules.specs.Rulebooks.{ruled_of}
use Rattle.dx_state.specs.Configured.{Configuration, Guarding}
use Rattle.dx_rules.specs.Payloads.{guarding_of}
use Rattle.fm_modules.specs.declared.kept.MadeConf.{MadeConf}
use Rattle.fm_modules.specs.declared.fault.KeptFault.{KeptFault}
use Rattle.fm_modules.specs.declared.fault.KeptFault.TheVariants.{Refused, NoMemory}

-- each of a list has its own in another, in order
abbrev pub EachHas : {A B : Type 0} → (A → B → Type 0) → List A → List B → Type 0
EachHas has [] [] = Unit {0}
EachHas has (x ∷ xs) (y ∷ ys) = has x y × EachHas has xs ys
EachHas has _ _ = ⊥

-- the text is that of this topology
pub record IsTopologyText (text : List ℕ) (topo : Topology) : Type 0 where
  pub clean : IsFaultless text
  pub topology_is : topo ≡ topology_of text

-- a checked rule file, which has this graph over the topology, says this of payloads: just the
-- guarded links of the graph are guarded, and a payload breaks just those that it breaks by the
-- conditions of the file
pub record MakesGuarding (checked : CheckedFile) (topo : Topology) (g : GraphValue)
    (x : Guarding) : Type 0 where
  pub guards : GuardsValue
  pub are : AreGuardsOf checked topo g guards
  pub guarding_is : x ≡ guarding_of guards

-- a checked rule file makes this configuration of a module over the topology: its graph, which is
-- one, and what it says of payloads
pub record MakesConfiguration (checked : CheckedFile) (topo : Topology) (x : Configuration)
    : Type 0 where
  pub made : Made
  pub is_made : IsMadeOf checked topo made
  pub graph_is : x.graph ≡ made.graph
  pub is_graph : IsGraph x.graph
  pub guarding : MakesGuarding checked topo x.graph x.guarding

-- the text is a rule file, which makes this configuration of a module
pub record TextMakes (topo : Topology) (text : List ℕ) (x : Configuration) : Type 0 where
  pub checked : CheckedFile
  pub is_rules : IsRuleFile text checked
  pub makes : MakesConfiguration checked topo x

-- over the topology of a configuration each of its rule files makes one of a module
pub record ConfMakes (conf : Conf) (row : List Configuration) : Type 0 where
  pub topo : Topology
  pub topo_is : IsTopologyText conf.topo topo
  pub files : EachHas (TextMakes topo) conf.rules row

-- the text is no topology; the text is no rule file, and this is wrong with it first
abbrev pub IsNoTopology : List ℕ → Type 0
IsNoTopology text = (line : ℕ) × (kind : TopoKind) × IsFirstFault text (At line kind)

abbrev pub IsNoRuleFile : List ℕ → Type 0
IsNoRuleFile text = (place : ℕ) × (kind : RulesKind) × IsRulesFault text place kind

-- a checked rule file has no graph over the topology: it is past a limit
abbrev pub HasNoGraph : CheckedFile → Topology → Type 0
HasNoGraph checked topo = IsInstFault checked topo Nodes ⊎ IsInstFault checked topo Links

-- the text is no rule file, or is one without a graph over the topology
abbrev pub IsRefusedText : Topology → List ℕ → Type 0
IsRefusedText topo text =
    IsNoRuleFile text ⊎ ((checked : CheckedFile) × IsRuleFile text checked
    × HasNoGraph checked topo)

-- one of the texts is refused over the topology
abbrev pub AreRefusedTexts : Topology → List (List ℕ) → Type 0
AreRefusedTexts topo texts =
    (i : ℕ) × (text : List ℕ) × (slice_get texts i ≡ Some text) × IsRefusedText topo text

-- the configuration has no topology, or a rule file that is refused over it
abbrev pub IsRefusedConf : Conf → Type 0
IsRefusedConf conf =
    IsNoTopology conf.topo ⊎ ((topo : Topology) × IsTopologyText conf.topo topo
    × AreRefusedTexts topo conf.rules)

-- the configuration at a place is the first that is refused: those before it make such of modules
pub record IsFirstRefused (confs : List Conf) (at : ℕ) : Type 0 where
  pub rows : List (List Configuration)
  pub before : EachHas ConfMakes (take at confs) rows
  pub conf : Conf
  pub there : slice_get confs at ≡ Some conf
  pub refused : IsRefusedConf conf

-- why a text or a configuration makes none
abbrev pub KeptCause : Type 0 → KeptFault → Type 0
KeptCause IsRefused Refused = IsRefused
KeptCause IsRefused NoMemory = Unit {0}

-- what the rule files of a configuration make, and those of several
abbrev pub conf_row : MadeConf → List Configuration
conf_row made = map ruled_of made.files.items

abbrev pub conf_rows : List MadeConf → List (List Configuration)
conf_rows mades = map conf_row mades
