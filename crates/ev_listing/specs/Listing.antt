-- The listing of what rule files come to, and compiled files one after another.
use Rattle.std.specs.Prelude.{◌≡◌, ℕ, List, [], ◌++◌, length, map, flat_map, count_by, All}
use Rattle.std.specs.Prelude.{Option, Some, None}
use Rattle.ev_graph.specs.Kinds.{is_root_kind, is_report_kind}
use Rattle.ev_file.specs.Files.{IsSpelledFile, IsFileFront, file_bytes}
use Rattle.ev_file.specs.declared.made.Made.{Made}
use Rattle.fm_adm.specs.Config.{listing_lines}
use Rattle.fm_adm.specs.declared.config.ModuleSizes.{ModuleSizes}

-- how large what a rule file comes to is: its events, those of them that are roots and reports,
-- its instances, and how many more weren't made
abbrev pub sizes_of : Made → ModuleSizes
sizes_of made = record {
  events = length made.graph.nodes;
  roots = count_by (λ node. is_root_kind node.kind) made.graph.nodes;
  reports = count_by (λ node. is_report_kind node.kind) made.graph.nodes;
  instances = length made.graph.instances;
  skipped = made.skipped;
}

-- a line for each rule file, which are numbered from 0 on
abbrev pub listing : List Made → List ℕ
listing mades = listing_lines 0 (map sizes_of mades)

-- compiled files, one after another
abbrev pub files_bytes : List Made → List ℕ
files_bytes mades = flat_map file_bytes mades

-- no compiled file begins these bytes
pub record IsNoFileFront (bytes : List ℕ) : Type 0 where
  pub none : (made : Made) (size : ℕ) → IsSpelledFile made → IsFileFront made size bytes → ⊥

-- what stands behind compiled files: nothing, or bytes with which none begins
abbrev pub IsRest : Option ℕ → List ℕ → List ℕ → Type 0
IsRest None files rest = rest ≡ []
IsRest (Some place) files rest = (place ≡ length files) × ((rest ≡ [] → ⊥) × IsNoFileFront rest)

-- bytes are these compiled files, one after another, to their end or to the place of the first
-- byte with which none begins
pub record AreFiles (mades : List Made) (bytes : List ℕ) (bad : Option ℕ) : Type 0 where
  pub rest : List ℕ
  pub spelled : All IsSpelledFile mades
  pub parts : bytes ≡ files_bytes mades ++ rest
  pub ends : IsRest bad (files_bytes mades) rest
