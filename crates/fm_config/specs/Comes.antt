-- What the rule files of a configuration come to over its topology.
use Rattle.std.specs.Prelude.{ℕ, List}
use Rattle.ev_check.specs.CheckedFile.{CheckedFile}
use Rattle.ev_file.specs.declared.made.Made.{Made}
use Rattle.ev_inst.specs.Instances.{IsMadeOf}
use Rattle.fm_modules.specs.KeptTexts.{EachHas, IsTopologyText}
use Rattle.fm_saved.specs.declared.conf.Conf.{Conf}
use Rattle.fm_sources.specs.Rules.{IsRuleFile}
use Rattle.fm_topo.specs.Topology.{Topology}

-- the text is a rule file, which comes to this over the topology
pub record TextComesTo (topo : Topology) (text : List ℕ) (made : Made) : Type 0 where
  pub checked : CheckedFile
  pub is_rules : IsRuleFile text checked
  pub is_made : IsMadeOf checked topo made

-- over the topology of a configuration its rule files come to these
pub record ConfComesTo (conf : Conf) (mades : List Made) : Type 0 where
  pub topo : Topology
  pub topo_is : IsTopologyText conf.topo topo
  pub files : EachHas (TextComesTo topo) conf.rules mades
