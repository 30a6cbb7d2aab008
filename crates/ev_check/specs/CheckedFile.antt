-- A checked rule file: its statements with their defaults filled in, and its numbers resolved.
use Rattle.std.specs.Prelude.{◌≡◌, ℕ, List, map, Option, Some, None, filter_map}
use Rattle.std.specs.Option.{unwrap_or}
use Rattle.fm_name.specs.Category.{category_of}
use Rattle.fm_name.specs.declared.classes.Category.{Category}
use Rattle.fm_name.specs.declared.classes.Category.TheVariants.{Ereport, Fault, Defect, Upset}
use Rattle.ev_tree.specs.Pattern.{Pattern, view_pattern}
use Rattle.ev_tree.specs.declared.tree.Count.{Count}
use Rattle.ev_tree.specs.declared.tree.Count.TheVariants as counts
use Rattle.ev_tree.specs.declared.tree.Declared.{Declared}
use Rattle.ev_tree.specs.declared.tree.EventAttr.{EventAttr}
use Rattle.ev_tree.specs.declared.tree.Statement.{Statement}
use Rattle.ev_tree.specs.declared.tree.Statement.TheVariants as statements
use Rattle.ev_check.specs.declared.checked.DeclKind.{DeclKind}
use Rattle.ev_check.specs.declared.checked.DeclKind.TheVariants as kinds
use Rattle.ev_check.specs.declared.checked.EventSpec.{EventSpec}
use Rattle.ev_check.specs.declared.checked.SerdSpec.{SerdSpec}
use Rattle.ev_check.specs.declared.checked.PropSpec.{PropSpec}
use Rattle.ev_words.specs.Attributes.{engine_value}
use Rattle.ev_check.specs.Declarations.{events_in, engines_in}
use Rattle.ev_check.specs.Defaults.{first_by, fit_of, retire_of, within_of, n_of, t_of}
use Rattle.ev_check.specs.Drawn.{number_at, trip_among}

-- a propagation: its sides and its numbers N and K
pub record Linking : Type 0 where
  pub left : List Pattern
  pub right : List Pattern
  pub n : Count
  pub k : Count

abbrev pub view_prop : PropSpec → Linking
view_prop p =
    record { left = map view_pattern p.left; right = map view_pattern p.right; n = p.n; k = p.k }

-- all that a checked file has, in order of statements
pub record CheckedFile : Type 0 where
  pub events : List EventSpec
  pub engines : List SerdSpec
  pub props : List PropSpec

-- the kind of an event of a category
abbrev pub kind_of : List Declared → Declared → List EventAttr → Option Category → DeclKind
kind_of engines d attrs (Some Ereport) = kinds.Report (within_of attrs)
kind_of engines d attrs (Some Fault) = kinds.Fault (fit_of attrs) (retire_of attrs)
kind_of engines d attrs (Some Defect) = kinds.Defect (fit_of attrs) (retire_of attrs)
kind_of engines d attrs (Some Upset) =
    kinds.Upset (number_at engines d.names (first_by engine_value attrs))
kind_of engines d attrs _ = kinds.Inner

-- what a statement gives
abbrev pub event_spec : List Declared → Statement → Option EventSpec
event_spec engines (statements.Event place d attrs) =
    Some (record { event = d; kind = kind_of engines d attrs (category_of d.class) })
event_spec engines _ = None

abbrev pub serd_spec : List Declared → Statement → Option SerdSpec
serd_spec events (statements.Engine place d attrs) = Some (record {
  engine = d;
  n = n_of attrs;
  t = t_of attrs;
  trip = unwrap_or (trip_among events (statements.Engine place d attrs)) 0;
})
serd_spec events _ = None

abbrev pub linking : Statement → Option Linking
linking (statements.Prop place left n k right) = Some (record {
  left = map view_pattern left;
  right = map view_pattern right;
  n = unwrap_or n counts.All;
  k = unwrap_or k (counts.Number 1);
})
linking _ = None

-- this is all that the statements give
pub record IsFileOf (ss : List Statement) (f : CheckedFile) : Type 0 where
  pub events_are : f.events ≡ filter_map (event_spec (engines_in ss)) ss
  pub engines_are : f.engines ≡ filter_map (serd_spec (events_in ss)) ss
  pub props_are : map view_prop f.props ≡ filter_map linking ss

-- the two are equal but for where the conditions lie in memory
pub record IsCopyOf (a b : CheckedFile) : Type 0 where
  pub events_are : b.events ≡ a.events
  pub engines_are : b.engines ≡ a.engines
  pub props_are : map view_prop b.props ≡ map view_prop a.props
