-- The rule that a `Statement` stands for: all of it but its place in the text.
use Rattle.std.specs.Prelude.{ℕ, List, map, Option}
use Rattle.ev_tree.specs.declared.tree.Count.{Count}
use Rattle.ev_tree.specs.declared.tree.Declared.{Declared}
use Rattle.ev_tree.specs.declared.tree.EngineAttr.{EngineAttr}
use Rattle.ev_tree.specs.declared.tree.EventAttr.{EventAttr}
use Rattle.ev_tree.specs.declared.tree.Statement.{Statement}
use Rattle.ev_tree.specs.declared.tree.Statement.TheVariants as statements
use Rattle.ev_tree.specs.declared.tree.Tree.{Tree}
use Rattle.ev_tree.specs.Pattern.{Pattern, view_pattern}

-- an event and its attributes, an engine and its attributes, or a propagation: its left patterns,
-- the numbers N and K at the arrow, and its right patterns
pub data Rule : Type 0 where
  EventRule : Declared → List EventAttr → Rule
  EngineRule : Declared → List EngineAttr → Rule
  PropRule : List Pattern → Option Count → Option Count → List Pattern → Rule

-- the rule of a statement
abbrev pub view_statement : Statement → Rule
view_statement (statements.Event at event attrs) = EventRule event attrs
view_statement (statements.Engine at engine attrs) = EngineRule engine attrs
view_statement (statements.Prop at left n k right) =
    PropRule (map view_pattern left) n k (map view_pattern right)

-- the place of a statement's first byte
abbrev pub place_of : Statement → ℕ
place_of (statements.Event at event attrs) = at
place_of (statements.Engine at engine attrs) = at
place_of (statements.Prop at left n k right) = at

-- the rules of a tree, in order
abbrev pub view_tree : Tree → List Rule
view_tree tree = map view_statement tree.statements
