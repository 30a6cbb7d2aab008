-- What sources tell, and the rule files that texts are.
use Rattle.std.specs.Prelude.{◌≡◌, ◌≤◌, ℕ, List, [], ◌∷◌, length, map, Some}
use Rattle.fm_outer.specs.declared.source.Source.{Ghosts}
use Rattle.fm_sources.specs.Rules.{IsRuleFile}
use Rattle.fm_sources.specs.Sources.{Given}
use Rattle.fm_sources.specs.declared.files.RuleFile.{RuleFile}

-- each text is the rule file at its place
abbrev pub AreFilesOf : List (List ℕ) → List RuleFile → Type 0
AreFilesOf [] [] = Unit {0}
AreFilesOf (text ∷ texts) (file ∷ files) = IsRuleFile text file.checked × AreFilesOf texts files
AreFilesOf _ _ = ⊥

-- each source tells what it has left, that of the topology no more than a topology may have
pub record TellTexts {S : Type 0} (g : Ghosts S) (old : Given S) : Type 0 where
  pub texts : List (List ℕ)
  pub rules_are : map g.left old.rules ≡ map Some texts
  pub topo : List ℕ
  pub topo_is : g.left old.topo ≡ Some topo
  pub short : length topo ≤ 16777216
