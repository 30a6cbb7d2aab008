-- What a checked file keeps of its events, its engines and the numbers at its arrows.
use Rattle.std.specs.Prelude.{◌≡◌, ◌<◌, ◌≤◌, ◌^◌, ℕ, Bool, true, nat_lt, nat_le, map}
use Rattle.std.specs.Prelude.{Some, slice_get}
use Rattle.fm_name.specs.Category.{category_of}
use Rattle.fm_name.specs.declared.classes.Category.{Category}
use Rattle.fm_name.specs.declared.classes.Category.TheVariants.{Ereport, Error, Fault, Defect}
use Rattle.fm_name.specs.declared.classes.Category.TheVariants.{Upset}
use Rattle.ev_tree.specs.declared.tree.Count.{Count}
use Rattle.ev_tree.specs.declared.tree.Count.TheVariants as counts
use Rattle.ev_ways.specs.Ways.{Reaches}
use Rattle.ev_words.specs.Categories.{is_report, is_upset}
use Rattle.ev_check.specs.CheckedFile.{CheckedFile, Linking, view_prop}
use Rattle.ev_check.specs.Declarations.{declared_number}
use Rattle.ev_check.specs.Lawful.{file_events, linking_causes, linking_effects}
use Rattle.ev_check.specs.declared.checked.DeclKind.{DeclKind}
use Rattle.ev_check.specs.declared.checked.DeclKind.TheVariants as kinds
use Rattle.ev_check.specs.declared.checked.EventSpec.{EventSpec}
use Rattle.ev_check.specs.declared.checked.SerdSpec.{SerdSpec}

-- the category of the events of a kind
abbrev pub category_for : DeclKind → Category
category_for (kinds.Fault fit retire) = Fault
category_for (kinds.Defect fit retire) = Defect
category_for (kinds.Upset engine) = Upset
category_for kinds.Inner = Error
category_for (kinds.Report within) = Ereport

-- the values of a kind are inside their limits
abbrev pub is_limited : DeclKind → Bool
is_limited (kinds.Fault fit retire) = nat_lt 0 fit
is_limited (kinds.Defect fit retire) = nat_lt 0 fit
is_limited (kinds.Report within) = nat_le within (2 ^ 50)
is_limited _ = true

-- a declared event is of its category, inside the limits; the engine of an upset has its names
pub record IsWholeEvent (f : CheckedFile) (e : EventSpec) : Type 0 where
  pub category : category_of e.event.class ≡ Some (category_for e.kind)
  pub limits : is_limited e.kind ≡ true
  pub engine : (n : ℕ) → e.kind ≡ kinds.Upset (Some n)
      → (s : SerdSpec) × (slice_get f.engines n ≡ Some s) × (s.engine.names ≡ e.event.names)

-- a declared engine is inside the limits, and its trip is a report with its names, the first that
-- is declared so
pub record IsWholeEngine (f : CheckedFile) (s : SerdSpec) : Type 0 where
  pub some_n : 0 < s.n
  pub most_n : s.n ≤ 1024
  pub some_t : 0 < s.t
  pub most_t : s.t ≤ 2 ^ 60
  pub event : EventSpec
  pub trips : slice_get f.events s.trip ≡ Some event
  pub first : declared_number (file_events f) event.event ≡ Some s.trip
  pub names : event.event.names ≡ s.engine.names
  pub report : is_report (category_of event.event.class) ≡ true

-- an effect needs a cause at least
abbrev pub needs_cause : Count → Bool
needs_cause counts.All = true
needs_cause (counts.Number n) = nat_lt 0 n

-- each event, each engine, and each number K is so, and no upset reaches a trip
pub record IsWholeFile (f : CheckedFile) : Type 0 where
  pub events : (k : ℕ) (e : EventSpec) → slice_get f.events k ≡ Some e → IsWholeEvent f e
  pub engines : (k : ℕ) (s : SerdSpec) → slice_get f.engines k ≡ Some s → IsWholeEngine f s
  pub counts_are : (j : ℕ) (l : Linking) → slice_get (map view_prop f.props) j ≡ Some l
      → needs_cause l.k ≡ true
  pub apart : (u k : ℕ) (e : EventSpec) (s : SerdSpec) → slice_get f.events u ≡ Some e
      → is_upset (category_of e.event.class) ≡ true → slice_get f.engines k ≡ Some s
      → Reaches (map (linking_causes (file_events f)) (map view_prop f.props))
      (map (linking_effects (file_events f)) (map view_prop f.props)) u s.trip → ⊥
