-- What was read of sources, in the words of the sources as they stand.
use Rattle.std.proofs.Common.{inl, inr, ℕ, zero, suc, List, [], ◌∷◌, map, ap, Result, Ok}
use Rattle.std.proofs.Common.{Err}
use Rattle.fm_answers.specs.StreamsAt.{source_at}
use Rattle.fm_outer.specs.declared.source.Source.{Ghosts}
use Rattle.fm_sources.specs.Sources.{given, GaveRules, GaveTopology, RulesRefused}
use Rattle.fm_sources.specs.Sources.{TopologyRefused, FilesGave, RefusedAt}
use Rattle.fm_sources.specs.Sources.{ReadsSources}
use Rattle.fm_sources.specs.Texts.{GaveText}
use Rattle.fm_sources.specs.declared.faults.SourceFault.{SourceFault}
use Rattle.fm_sources.specs.declared.faults.SourceFault.TheVariants as faults
use Rattle.fm_sources.specs.declared.files.RuleFile.{RuleFile}
use Rattle.fm_sources.specs.declared.sources.Sources.{Sources}
use Rattle.fm_topo.specs.Topology.{Topology}
use Rattle.fm_top.specs.Outside.{standing}

module _ {S : Type 0} (g : Ghosts S) where
  pub gave_text : (limit : ℕ) (old new : S) (text : List ℕ) → GaveText g limit old new text
      → GaveText standing limit (source_at g old) (source_at g new) text
  gave_text limit old new text gave =
      record {
        consumed = gave.consumed;
        whole = gave.whole;
        near = gave.near;
        quiet = gave.quiet;
      }

  gave_rules : (old new : S) (file : RuleFile) → GaveRules g old new file
      → GaveRules standing (source_at g old) (source_at g new) file
  gave_rules old new file gave =
      record { gave = gave_text 1048576 old new _ gave.gave; is_rules = gave.is_rules }

  gave_topology : (old new : S) (text : List ℕ) (topo : Topology)
      → GaveTopology g old new text topo
      → GaveTopology standing (source_at g old) (source_at g new) text topo
  gave_topology old new text topo gave = record {
    gave = gave_text 16777216 old new text gave.gave;
    clean = gave.clean;
    topology_is = gave.topology_is;
    lawful = gave.lawful;
  }

  rules_refused : (number : ℕ) (old new : S) (fault : SourceFault)
      → RulesRefused g number old new fault
      → RulesRefused standing number (source_at g old) (source_at g new) fault
  rules_refused number old new faults.Read rose = rose
  rules_refused number old new (faults.Rules file place kind) (is, text, gave, fault) =
      (is, text, gave_text 1048576 old new text gave, fault)
  rules_refused number old new faults.NoMemory want = tt
  rules_refused number old new _ refused = absurd refused

  topology_refused : (old new : S) (fault : SourceFault) → TopologyRefused g old new fault
      → TopologyRefused standing (source_at g old) (source_at g new) fault
  topology_refused old new faults.Read rose = rose
  topology_refused old new (faults.Topology line kind) (text, gave, fault) =
      (text, gave_text 16777216 old new text gave, fault)
  topology_refused old new faults.NoMemory want = tt
  topology_refused old new _ refused = absurd refused

  files_gave : (olds news : List S) (files : List RuleFile) → FilesGave g olds news files
      → FilesGave standing (map (source_at g) olds) (map (source_at g) news) files
  files_gave [] [] [] gave = tt
  files_gave (old ∷ olds) (new ∷ news) (file ∷ files) (one, more) =
      (gave_rules old new file one, files_gave olds news files more)
  files_gave _ _ _ gave = absurd gave

  refused_at : (number at : ℕ) (olds news : List S) (fault : SourceFault)
      → RefusedAt g number at olds news fault
      → RefusedAt standing number at (map (source_at g) olds) (map (source_at g) news) fault
  refused_at number zero (old ∷ olds) (new ∷ news) fault (refused, same) =
      (rules_refused number old new fault refused, ap (map (source_at g)) same)
  refused_at number (suc at) (old ∷ olds) (new ∷ news) fault ((file, gave), more) =
      ((file, gave_rules old new file gave), refused_at (suc number) at olds news fault more)
  refused_at _ _ _ _ _ refused = absurd refused

  pub reads_standing : (olds news : List S) (old new : S) (result : Result Sources SourceFault)
      → ReadsSources g (given olds old) (given news new) result
      → ReadsSources standing (given (map (source_at g) olds) (source_at g old))
      (given (map (source_at g) news) (source_at g new)) result
  reads_standing olds news old new (Ok got) (files, topology) =
      (files_gave olds news got.files.items files, gave_topology old new _ _ topology)
  reads_standing olds news old new (Err fault) (inl ((at, refused), same)) =
      inl ((at, refused_at 0 at olds news fault refused), ap (source_at g) same)
  reads_standing olds news old new (Err fault) (inr ((files, gave), refused)) =
      inr ((files, files_gave olds news files gave), topology_refused old new fault refused)
