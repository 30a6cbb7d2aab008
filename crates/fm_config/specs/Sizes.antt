-- The text of a configuration: its namespace, and how large what its rule files come to is.
use Rattle.std.specs.Prelude.{◌≡◌, ℕ, List}
use Rattle.ev_file.specs.declared.made.Made.{Made}
use Rattle.ev_listing.specs.Listing.{sizes_of}
use Rattle.fm_adm.specs.Config.{config_text}
use Rattle.fm_adm.specs.declared.config.ModuleSizes.{ModuleSizes}
use Rattle.fm_modules.specs.KeptTexts.{EachHas, IsTopologyText}
use Rattle.fm_saved.specs.declared.conf.Conf.{Conf}
use Rattle.fm_topo.specs.Topology.{Topology}
use Rattle.fm_config.specs.Comes.{TextComesTo}
use Rattle.fm_config.specs.declared.fault.ConfFault.{ConfFault}
use Rattle.fm_config.specs.declared.fault.ConfFault.TheVariants.{Refused, NoMemory}

-- the text is a rule file, and what it comes to over the topology is so large
pub record TextHasSizes (topo : Topology) (text : List ℕ) (sizes : ModuleSizes) : Type 0 where
  pub made : Made
  pub comes : TextComesTo topo text made
  pub sizes_are : sizes ≡ sizes_of made

-- over the topology of a configuration each of its rule files comes to something so large
pub record HaveSizes (conf : Conf) (sizes : List ModuleSizes) : Type 0 where
  pub topo : Topology
  pub topo_is : IsTopologyText conf.topo topo
  pub files : EachHas (TextHasSizes topo) conf.rules sizes

-- the line of its namespace, and a line for each rule file, which are numbered from 0 on
pub record IsConfText (conf : Conf) (text : List ℕ) : Type 0 where
  pub sizes : List ModuleSizes
  pub are : HaveSizes conf sizes
  pub text_is : text ≡ config_text conf.namespace sizes

-- why there is none
abbrev pub ConfCause : Type 0 → ConfFault → Type 0
ConfCause IsRefused Refused = IsRefused
ConfCause IsRefused NoMemory = Unit {0}
