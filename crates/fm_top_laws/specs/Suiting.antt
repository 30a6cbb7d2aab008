-- What stands before a run that is valid, in positive words: the sources tell rule files that come
-- to graphs over a topology, and the disks contents that read as a book.
use Rattle.std.specs.Prelude.{◌≡◌, ℕ, List, [], ◌∷◌, All, Some, slice_get}
use Rattle.ev_check.specs.CheckedFile.{CheckedFile}
use Rattle.ev_file.specs.Files.{IsSpelledFile}
use Rattle.ev_file.specs.declared.made.Made.{Made}
use Rattle.ev_inst.specs.Instances.{IsMadeOf}
use Rattle.ev_listing.specs.Listing.{files_bytes}
use Rattle.fm_answers.specs.StreamsAt.{SourceAt}
use Rattle.fm_esc_laws.specs.ToldTexts.{TellTexts}
use Rattle.fm_journal.specs.Crash.{IsEmptyOrNone}
use Rattle.fm_logs.specs.Contents.{Contents}
use Rattle.fm_logs.specs.StoreBook.{force_now}
use Rattle.fm_logs.specs.declared.disks.DiskName.TheVariants.{Conf as ConfDisk}
use Rattle.fm_saved.specs.declared.conf.Conf.{Conf}
use Rattle.fm_sources.specs.Rules.{IsRuleFile}
use Rattle.fm_sources.specs.Sources.{Given}
use Rattle.fm_topo.specs.Fault.{IsFaultless}
use Rattle.fm_topo.specs.Topology.{Topology, topology_of}
use Rattle.fm_top.specs.ExplainedRow.{HasNoRow}
use Rattle.fm_top.specs.GenerateStart.{BeginsEarly}
use Rattle.fm_top.specs.Kept.{BookAt}
use Rattle.fm_top.specs.Order.{AreContents, Look, World, at_early, at_files, at_graphs, at_marked}
use Rattle.fm_top.specs.Order.{at_no_store, at_row, at_rules, at_same, at_store, at_topology}
use Rattle.fm_top.specs.Outside.{standing}
use Rattle.fm_top.specs.RepairEntry.{MarksNothing}

-- the text is a rule file that comes to a graph over the topology
pub record ComesToGraph (topo : Topology) (text : List ℕ) : Type 0 where
  pub checked : CheckedFile
  pub is_rules : IsRuleFile text checked
  pub made : Made
  pub is_made : IsMadeOf checked topo made

-- the sources tell the text of a topology, and those of rule files that come to graphs over it
pub record TellGraphs (sources : Given SourceAt) : Type 0 where
  pub told : TellTexts standing sources
  pub clean : IsFaultless told.topo
  pub graphs : All (ComesToGraph (topology_of told.topo)) told.texts

-- the input tells the bytes of compiled files
pub record TellsFiles (input : SourceAt) : Type 0 where
  pub mades : List Made
  pub spelled : All IsSpelledFile mades
  pub bytes_are : input.left ≡ Some (files_bytes mades)

-- the disks tell contents of which this is so
pub record TellSuch (w : World) (IsSo : Contents → Type 0) : Type 0 where
  pub told : Contents
  pub are : AreContents w told
  pub is : IsSo told

-- the contents read as a book that has just these texts in force
pub record KeepsTexts (texts : List (List ℕ)) (topo : List ℕ) (told : Contents) : Type 0 where
  pub stood : BookAt told
  pub conf : Conf
  pub in_force : slice_get stood.book.confs (force_now stood.book) ≡ Some conf
  pub rules_are : conf.rules ≡ texts
  pub topo_is : conf.topo ≡ topo

-- the disks keep what the sources tell
pub record KeepsGraphs (w : World) : Type 0 where
  pub graphs : TellGraphs w.sources
  pub kept : TellSuch w (KeepsTexts graphs.told.texts graphs.told.topo)

-- WHAT SUITS EACH LOOK, one line a look: what stands before is such that nothing is found
abbrev pub Suits : World → Look → Type 0
Suits w at_rules = TellGraphs w.sources
Suits w at_topology = TellGraphs w.sources
Suits w at_graphs = TellGraphs w.sources
Suits w at_files = TellsFiles w.input
Suits w at_no_store = (bytes : List ℕ) × (w.disks ConfDisk ≡ Some bytes) × IsEmptyOrNone bytes
Suits w at_store = TellSuch w BookAt
Suits w at_same = KeepsGraphs w
Suits w (at_marked asked) = TellSuch w (λ told. MarksNothing asked told → ⊥)
Suits w (at_row uuid) = TellSuch w (λ told. HasNoRow uuid told → ⊥)
Suits w at_early = TellSuch w BeginsEarly

abbrev pub AllSuit : World → List Look → Type 0
AllSuit w [] = Unit {0}
AllSuit w (look ∷ more) = Suits w look × AllSuit w more
