-- The arrows between the declared events: one for each propagation statement, in order.
use Rattle.std.specs.Prelude.{◌≡◌, ℕ, List, Option, Some, None, length, filter_map}
use Rattle.ev_tree.specs.declared.tree.Declared.{Declared}
use Rattle.ev_tree.specs.declared.tree.SidePattern.{SidePattern}
use Rattle.ev_tree.specs.declared.tree.Statement.{Statement}
use Rattle.ev_tree.specs.declared.tree.Statement.TheVariants as statements
use Rattle.ev_check.specs.Declarations.{events_in, declared_number, subject_of}
use Rattle.ev_ways.specs.Drawing.{Drawing}
use Rattle.ev_words.specs.Attributes.{trip_value}
use Rattle.ev_check.specs.Defaults.{first_by}

-- the number of the event that a pattern is of, where it is declared
abbrev pub numbered : List Declared → SidePattern → Option ℕ
numbered events p = declared_number events (subject_of p)

-- the numbers of the events on a side
abbrev pub side_numbers : List Declared → List SidePattern → List ℕ
side_numbers events ps = filter_map (numbered events) ps

-- the causes and the effects of a statement's arrow
abbrev pub causes_of : List Declared → Statement → Option (List ℕ)
causes_of events (statements.Prop place left n k right) = Some (side_numbers events left)
causes_of events _ = None

abbrev pub effects_of : List Declared → Statement → Option (List ℕ)
effects_of events (statements.Prop place left n k right) = Some (side_numbers events right)
effects_of events _ = None

-- the causes and the effects of the arrows of a file
abbrev pub causes_in : List Statement → List (List ℕ)
causes_in ss = filter_map (causes_of (events_in ss)) ss

abbrev pub effects_in : List Statement → List (List ℕ)
effects_in ss = filter_map (effects_of (events_in ss)) ss

-- these are the events of the file, and this is the drawing of its arrows between them
pub record AreArrowsOf (ss : List Statement) (ds : List Declared) (d : Drawing) : Type 0 where
  pub events : ds ≡ events_in ss
  pub nodes : d.nodes ≡ length ds
  pub causes : d.causes ≡ causes_in ss
  pub effects : d.effects ≡ effects_in ss

-- the number of the event of this class, where there is one, at these names
abbrev pub number_at : List Declared → List (List ℕ) → Option (List ℕ) → Option ℕ
number_at events names None = None
number_at events names (Some c) = declared_number events (record { class = c; names = names })

-- the number of the trip of an engine statement, among these events
abbrev pub trip_among : List Declared → Statement → Option ℕ
trip_among events (statements.Engine place d attrs) =
    number_at events d.names (first_by trip_value attrs)
trip_among events _ = None

-- in a file
abbrev pub trip_in : List Statement → Statement → Option ℕ
trip_in ss s = trip_among (events_in ss) s
