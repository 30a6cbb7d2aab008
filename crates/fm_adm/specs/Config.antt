-- The text of a configuration.
use Rattle.std.specs.Prelude.{ℕ, ◌+◌, List, [], ◌∷◌, ◌++◌, codes, decimal}
use Rattle.uuid.specs.Text.{hyphenated_text, lower}
use Rattle.fm_adm.specs.declared.config.ModuleSizes.{ModuleSizes}

-- a name and a count behind it
unfoldable pub named_count : List ℕ → ℕ → List ℕ
named_count name count = name ++ decimal count

-- how many events a graph has, and how many of them are roots and reports
abbrev pub events_part : ModuleSizes → List ℕ
events_part sizes = named_count (codes " events ") sizes.events
    ++ (named_count (codes " roots ") sizes.roots ++ named_count (codes " reports ") sizes.reports)

-- how many instances were made, and how many were passed over
abbrev pub instances_part : ModuleSizes → List ℕ
instances_part sizes = named_count (codes " instances ") sizes.instances
    ++ (named_count (codes " skipped ") sizes.skipped ++ codes "\n")

-- the line of a module: its number, and the sizes of its graph
unfoldable pub listing_line : ℕ → ModuleSizes → List ℕ
listing_line number sizes =
    named_count (codes "dx") number ++ (events_part sizes ++ instances_part sizes)

-- a line for each module, whose numbers rise from this one
abbrev pub listing_lines : ℕ → List ModuleSizes → List ℕ
listing_lines number [] = []
listing_lines number (sizes ∷ more) =
    listing_line number sizes ++ listing_lines (number + 1) more

-- the line of the namespace
abbrev pub namespace_line : List ℕ → List ℕ
namespace_line namespace =
    codes "namespace " ++ (hyphenated_text lower namespace ++ codes "\n")

-- the namespace, and a line for each module
abbrev pub config_text : List ℕ → List ModuleSizes → List ℕ
config_text namespace modules = namespace_line namespace ++ listing_lines 0 modules
