-- How a topology is printed.
use Rattle.std.specs.Prelude.{ℕ, List, [], ◌∷◌, ◌++◌, map, decimal}
use Rattle.std.specs.List.{join_with_byte}
use Rattle.fm_topo.specs.Property.{Properties}
use Rattle.fm_topo.specs.Topology.{Topology}
use Rattle.fm_topo.specs.declared.values.TopoValue.{TopoValue}
use Rattle.fm_topo.specs.declared.values.TopoValue.TheVariants.{Number, Text}

-- a value: a decimal number, or a text in quotes
abbrev pub value_text : TopoValue → List ℕ
value_text (Number n) = decimal n
value_text (Text text) = 34 ∷ (text ++ (34 ∷ []))

-- properties, each after a space
abbrev pub properties_text : Properties → List ℕ
properties_text [] = []
properties_text (p ∷ ps) = (32 ∷ (p.0 ++ (61 ∷ value_text p.1))) ++ properties_text ps

-- a line: a path and its properties
abbrev pub place_line : List ℕ × Properties → List ℕ
place_line place = place.0 ++ properties_text place.1

-- a topology: a line for each path, with a newline between two lines
unfoldable pub topology_text : Topology → List ℕ
topology_text topology = join_with_byte 10 (map place_line topology)

-- the lines of more places, each behind a newline
abbrev pub rest_text : Topology → List ℕ
rest_text [] = []
rest_text (p ∷ ps) = (10 ∷ place_line p) ++ rest_text ps
