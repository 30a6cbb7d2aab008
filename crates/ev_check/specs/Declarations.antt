-- What a rule file declares, in order of statements, and what is declared twice or not at all.
use Rattle.std.specs.Prelude.{ℕ, Bool, false, not, ◌&&◌, ◌||◌, List, ◌∷◌, map, Option, Some, None}
use Rattle.std.specs.Prelude.{if◌then◌else◌, position, filter_map}
use Rattle.std.specs.List.{list_any}
use Rattle.std.specs.Cmp.Lexicographic.{pointwise}
use Rattle.ev_words.specs.Iterators.{same_name}
use Rattle.ev_tree.specs.declared.tree.Declared.{Declared}
use Rattle.ev_tree.specs.declared.tree.EventAttr.{EventAttr}
use Rattle.ev_tree.specs.declared.tree.EventAttr.TheVariants as event_attrs
use Rattle.ev_tree.specs.declared.tree.EngineAttr.{EngineAttr}
use Rattle.ev_tree.specs.declared.tree.EngineAttr.TheVariants as engine_attrs
use Rattle.ev_tree.specs.declared.tree.Part.{Part}
use Rattle.ev_tree.specs.declared.tree.SidePattern.{SidePattern}
use Rattle.ev_tree.specs.declared.tree.Statement.{Statement}
use Rattle.ev_tree.specs.declared.tree.Statement.TheVariants as statements
use Rattle.ev_words.specs.declared.kinds.CheckKind.{CheckKind}
use Rattle.ev_words.specs.declared.kinds.CheckKind.TheVariants.{Twice, Undeclared}

-- the event that a statement declares, and the engine
abbrev pub event_in : Statement → Option Declared
event_in (statements.Event place d attrs) = Some d
event_in _ = None

abbrev pub engine_in : Statement → Option Declared
engine_in (statements.Engine place d attrs) = Some d
engine_in _ = None

-- the events and the engines of statements, in order: the place in the list is the number
abbrev pub events_in : List Statement → List Declared
events_in ss = filter_map event_in ss

abbrev pub engines_in : List Statement → List Declared
engines_in ss = filter_map engine_in ss

-- both have the same class, and as many names, each pair the same
abbrev pub is_alike : Declared → Declared → Bool
is_alike d e = same_name d.class e.class && pointwise same_name d.names e.names

-- the class, and then the names
abbrev pub class_names : Declared → List (List ℕ)
class_names d = d.class ∷ d.names

-- the number of the first in a list that is alike
abbrev pub declared_number : List Declared → Declared → Option ℕ
declared_number ds d = position (is_alike d) ds

-- one of them is alike
abbrev pub is_declared : List Declared → Declared → Bool
is_declared ds d = list_any (is_alike d) ds

-- what the pattern is of: its class at the names of its parts
abbrev pub name_of : Part → List ℕ
name_of p = p.name

abbrev pub subject_of : SidePattern → Declared
subject_of p = record { class = p.class; names = map name_of p.parts }

-- a statement declares what one of these events or engines is
abbrev pub is_again : List Declared → List Declared → Statement → Bool
is_again events engines (statements.Event place d attrs) = is_declared events d
is_again events engines (statements.Engine place d attrs) = is_declared engines d
is_again events engines _ = false

-- the engine of an upset, at its names, or the trip of an engine, at its names, is not declared
abbrev pub is_undeclared_engine : List Declared → List (List ℕ) → EventAttr → Bool
is_undeclared_engine engines names (event_attrs.Engine c) =
    not (is_declared engines (record { class = c; names = names }))
is_undeclared_engine engines names _ = false

abbrev pub is_undeclared_trip : List Declared → List (List ℕ) → EngineAttr → Bool
is_undeclared_trip events names (engine_attrs.Trip c) =
    not (is_declared events (record { class = c; names = names }))
is_undeclared_trip events names _ = false

-- no event is what the pattern is of
abbrev pub is_undeclared : List Declared → SidePattern → Bool
is_undeclared events p = not (is_declared events (subject_of p))

-- a statement names an event or an engine that is not one of these
abbrev pub names_undeclared : List Declared → List Declared → Statement → Bool
names_undeclared events engines (statements.Event place d attrs) =
    list_any (is_undeclared_engine engines d.names) attrs
names_undeclared events engines (statements.Engine place d attrs) =
    list_any (is_undeclared_trip events d.names) attrs
names_undeclared events engines (statements.Prop place left n k right) =
    list_any (is_undeclared events) left || list_any (is_undeclared events) right

-- what the second phase finds at a statement, after these
abbrev pub twice_after : List Statement → Statement → Option CheckKind
twice_after before s =
    if is_again (events_in before) (engines_in before) s then Some Twice else None

-- what the third phase finds at a statement, in a file of these events and engines
abbrev pub undeclared_among : List Declared → List Declared → Statement → Option CheckKind
undeclared_among events engines s =
    if names_undeclared events engines s then Some Undeclared else None
