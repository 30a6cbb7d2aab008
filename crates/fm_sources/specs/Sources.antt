-- What is read of rule files and a topology, and which is refused first.
use Rattle.std.specs.Prelude.{◌≡◌, ◌⊎◌, ℕ, zero, suc, List, [], ◌∷◌, Result, Ok, Err}
use Rattle.fm_outer.specs.Failures.{Rose}
use Rattle.fm_outer.specs.declared.source.Source.{Ghosts}
use Rattle.fm_topo.specs.Fault.{IsFaultless, IsFirstFault}
use Rattle.fm_topo.specs.Lawful.{IsTopology}
use Rattle.fm_topo.specs.Topology.{Topology, topology_of}
use Rattle.fm_topo.specs.declared.faults.TopoFault.TheVariants.{At}
use Rattle.fm_sources.specs.Rules.{IsRuleFile, IsRulesFault}
use Rattle.fm_sources.specs.Texts.{GaveText}
use Rattle.fm_sources.specs.declared.faults.SourceFault.{SourceFault}
use Rattle.fm_sources.specs.declared.faults.SourceFault.TheVariants as faults
use Rattle.fm_sources.specs.declared.files.RuleFile.{RuleFile}
use Rattle.fm_sources.specs.declared.sources.Sources.{Sources}

-- the source gave the text of a rule file that comes to this
pub record GaveRules {S : Type 0} (g : Ghosts S) (old new : S) (file : RuleFile) : Type 0 where
  pub gave : GaveText g 1048576 old new file.text.items
  pub is_rules : IsRuleFile file.text.items file.checked

-- the source gave the text of this topology
pub record GaveTopology {S : Type 0} (g : Ghosts S) (old new : S) (text : List ℕ)
    (topo : Topology) : Type 0 where
  pub gave : GaveText g 16777216 old new text
  pub clean : IsFaultless text
  pub topology_is : topo ≡ topology_of text
  pub lawful : IsTopology topo

-- why the rule file of a number was not taken
abbrev pub RulesRefused : {S : Type 0} → Ghosts S → ℕ → S → S → SourceFault → Type 0
RulesRefused g number old new faults.Read = Rose (g.failures old) (g.failures new)
RulesRefused g number old new (faults.Rules file place kind) =
    (file ≡ number) × (text : List ℕ) × GaveText g 1048576 old new text
    × IsRulesFault text place kind
RulesRefused g number old new (faults.Topology line kind) = ⊥
RulesRefused g number old new faults.NoMemory = Unit {0}

-- why the topology was not taken
abbrev pub TopologyRefused : {S : Type 0} → Ghosts S → S → S → SourceFault → Type 0
TopologyRefused g old new faults.Read = Rose (g.failures old) (g.failures new)
TopologyRefused g old new (faults.Rules file place kind) = ⊥
TopologyRefused g old new (faults.Topology line kind) =
    (text : List ℕ) × GaveText g 16777216 old new text × IsFirstFault text (At line kind)
TopologyRefused g old new faults.NoMemory = Unit {0}

-- each source gave a rule file
abbrev pub FilesGave : {S : Type 0} → Ghosts S → List S → List S → List RuleFile → Type 0
FilesGave g [] [] [] = Unit {0}
FilesGave g (old ∷ olds) (new ∷ news) (file ∷ files) =
    GaveRules g old new file × FilesGave g olds news files
FilesGave _ _ _ _ = ⊥

-- The source at a place is the first that is refused, under a number that rises with the place:
-- those before it gave rule files, and those behind it were not read.
abbrev pub RefusedAt : {S : Type 0} → Ghosts S → ℕ → ℕ → List S → List S → SourceFault → Type 0
RefusedAt g number zero (old ∷ olds) (new ∷ news) fault =
    RulesRefused g number old new fault × (news ≡ olds)
RefusedAt g number (suc at) (old ∷ olds) (new ∷ news) fault =
    ((file : RuleFile) × GaveRules g old new file) × RefusedAt g (suc number) at olds news fault
RefusedAt _ _ _ _ _ _ = ⊥

abbrev pub FilesRefused : {S : Type 0} → Ghosts S → List S → List S → SourceFault → Type 0
FilesRefused g olds news fault = (at : ℕ) × RefusedAt g 0 at olds news fault

-- the sources of a command: those of the rule files, and that of the topology
pub record Given (S : Type 0) : Type 0 where
  pub rules : List S
  pub topo : S

abbrev pub given : {S : Type 0} → List S → S → Given S
given rules topo = record { rules = rules; topo = topo }

-- What was read of all, or why it was not taken: a rule file was refused and the topology not
-- read, or the rule files are some and the topology was refused.
abbrev pub ReadsSources : {S : Type 0} → Ghosts S → Given S → Given S → Result Sources SourceFault
    → Type 0
ReadsSources g old new (Ok got) =
    FilesGave g old.rules new.rules got.files.items
    × GaveTopology g old.topo new.topo got.topo_text.items got.topo
ReadsSources g old new (Err fault) =
    (FilesRefused g old.rules new.rules fault × (new.topo ≡ old.topo))
    ⊎ (((files : List RuleFile) × FilesGave g old.rules new.rules files)
    × TopologyRefused g old.topo new.topo fault)
