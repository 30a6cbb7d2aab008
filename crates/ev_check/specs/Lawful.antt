-- What a checked file keeps, by its propagations alone: what the making of instances rests on.
use Rattle.std.specs.Prelude.{◌≡◌, ◌<◌, ◌^◌, ℕ, Bool, true, false, not, ◌&&◌, ◌||◌, List, map}
use Rattle.std.specs.Prelude.{All, filter_map}
use Rattle.std.specs.List.{list_any}
use Rattle.fm_name.specs.Category.{category_of}
use Rattle.ev_tree.specs.Pattern.{Pattern}
use Rattle.ev_tree.specs.declared.tree.At.{At}
use Rattle.ev_tree.specs.declared.tree.At.TheVariants as ats
use Rattle.ev_tree.specs.declared.tree.Declared.{Declared}
use Rattle.ev_tree.specs.declared.tree.Part.{Part}
use Rattle.ev_ways.specs.Ways.{Reaches}
use Rattle.ev_check.specs.declared.checked.EventSpec.{EventSpec}
use Rattle.ev_words.specs.Categories.{is_report, is_side}
use Rattle.ev_check.specs.CheckedFile.{CheckedFile, Linking, view_prop}
use Rattle.ev_check.specs.Declarations.{declared_number, is_declared, name_of}
use Rattle.ev_words.specs.Iterators.{goes_down}
use Rattle.ev_words.specs.Operands.{operands_if}
use Rattle.ev_words.specs.Words.{is_payload}

-- what the pattern is of: its class at the names of its parts
abbrev pub pattern_subject : Pattern → Declared
pattern_subject q = record { class = q.class; names = map name_of q.parts }

-- v is a vertical iterator of one of the patterns
abbrev pub is_vertical_in : List Pattern → List ℕ → Bool
is_vertical_in qs v = list_any (λ (q : Pattern). list_any (goes_down v) q.parts) qs

-- v is a vertical iterator of the propagation
abbrev pub is_vertical_of : Linking → List ℕ → Bool
is_vertical_of l v = is_vertical_in l.left v || is_vertical_in l.right v

-- a constant instance is a u32, and a horizontal iterator is no vertical one
abbrev pub IsLawfulAt : (List ℕ → Bool) → At → Type 0
IsLawfulAt vertical (ats.Number n) = n < 2 ^ 32
IsLawfulAt vertical (ats.Across v) = vertical v ≡ false
IsLawfulAt vertical _ = Unit {0}

abbrev pub IsLawfulPart : (List ℕ → Bool) → Part → Type 0
IsLawfulPart vertical p = IsLawfulAt vertical p.at

-- A pattern on that side, of a file of these events: its category may stand there, what it is of is
-- declared, its parts are lawful, and only on the right, of a report, it asks the payload.
pub record IsLawfulPattern (events : List Declared) (vertical : List ℕ → Bool) (left : Bool)
    (q : Pattern) : Type 0 where
  pub side : is_side left (category_of q.class) ≡ true
  pub declared : is_declared events (pattern_subject q) ≡ true
  pub parts : All (IsLawfulPart vertical) q.parts
  pub asks : (list_any is_payload (operands_if q.cond) &&
      (left || not (is_report (category_of q.class)))) ≡ false

-- each of its patterns is lawful on its side
pub record IsLawfulLinking (events : List Declared) (l : Linking) : Type 0 where
  pub causes : All (IsLawfulPattern events (is_vertical_of l) true) l.left
  pub effects : All (IsLawfulPattern events (is_vertical_of l) false) l.right

-- the events of a file, in order: the place of one is its number
abbrev pub spec_event : EventSpec → Declared
spec_event e = e.event

abbrev pub file_events : CheckedFile → List Declared
file_events f = map spec_event f.events

-- the numbers of the events that patterns are of
abbrev pub pattern_numbers : List Declared → List Pattern → List ℕ
pattern_numbers events qs = filter_map (λ q. declared_number events (pattern_subject q)) qs

abbrev pub linking_causes : List Declared → Linking → List ℕ
linking_causes events l = pattern_numbers events l.left

abbrev pub linking_effects : List Declared → Linking → List ℕ
linking_effects events l = pattern_numbers events l.right

-- Each propagation is lawful. Where each leads from the events on its left to those on its right,
-- no event reaches itself.
pub record IsLawfulFile (f : CheckedFile) : Type 0 where
  pub props : All (IsLawfulLinking (file_events f)) (map view_prop f.props)
  pub acyclic : (x : ℕ)
      → Reaches (map (linking_causes (file_events f)) (map view_prop f.props))
      (map (linking_effects (file_events f)) (map view_prop f.props)) x x → ⊥
