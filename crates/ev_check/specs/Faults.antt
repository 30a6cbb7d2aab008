-- The first fault of a rule file.
use Rattle.std.specs.Prelude.{◌≡◌, ◌⊎◌, ℕ, ◌<◌, Bool, true, false, is_some, List, Option, Some}
use Rattle.std.specs.Prelude.{None, slice_get, slice_index, take, filter_map}
use Rattle.fm_name.specs.Category.{category_of}
use Rattle.ev_tree.specs.Rule.{place_of}
use Rattle.ev_tree.specs.declared.tree.Declared.{Declared}
use Rattle.ev_tree.specs.declared.tree.Statement.{Statement}
use Rattle.ev_tree.specs.declared.tree.Statement.TheVariants as statements
use Rattle.ev_ways.specs.Lists.{AllBelow, IsIn}
use Rattle.ev_ways.specs.Ways.{Way, Reaches}
use Rattle.ev_ways.specs.Search.{far}
use Rattle.ev_ways.specs.Cycle.{IsFirstCycle}
use Rattle.ev_words.specs.declared.kinds.CheckKind.{CheckKind}
use Rattle.ev_words.specs.declared.kinds.CheckKind.TheVariants.{UpsetTrips, Cycle}
use Rattle.ev_check.specs.declared.kinds.CheckFault.{CheckFault}
use Rattle.ev_check.specs.declared.kinds.CheckFault.TheVariants.{At, NoMemory}
use Rattle.ev_words.specs.Categories.{is_upset}
use Rattle.ev_check.specs.Declarations.{events_in, engines_in, twice_after, undeclared_among}
use Rattle.ev_check.specs.Drawn.{causes_in, effects_in, trip_in}
use Rattle.ev_words.specs.Words.{word_of}

-- A phase tells what it finds at a statement, after the ones before it.
abbrev pub Phase : Type 0
Phase = List Statement → Statement → Option CheckKind

-- the phase finds nothing at the first n statements
abbrev pub IsClean : Phase → List Statement → ℕ → Type 0
IsClean f ss n = (j : ℕ) → j < n → (s : Statement) → slice_get ss j ≡ Some s
    → f (take j ss) s ≡ None

-- the phase finds nothing
pub record Passes (f : Phase) (ss : List Statement) : Type 0 where
  pub each : (j : ℕ) (s : Statement) → slice_get ss j ≡ Some s → f (take j ss) s ≡ None

-- the first statement at which the phase finds something has this place, and this is what it finds
pub record IsFirst (f : Phase) (ss : List Statement) (place : ℕ) (kind : CheckKind) : Type 0 where
  pub number : ℕ
  pub statement : Statement
  pub stands : slice_get ss number ≡ Some statement
  pub begins : place_of statement ≡ place
  pub found : f (take number ss) statement ≡ Some kind
  pub first : IsClean f ss number

-- the phases one to three
abbrev pub in_itself : Phase
in_itself before s = word_of s

abbrev pub finds_undeclared : List Statement → Phase
finds_undeclared ss before s = undeclared_among (events_in ss) (engines_in ss) s

-- the event of that number is an upset
pub record IsUpset (events : List Declared) (u : ℕ) : Type 0 where
  pub event : Declared
  pub declared : slice_get events u ≡ Some event
  pub category : is_upset (category_of event.class) ≡ true

-- the event of that number is reached from a declared upset
pub record IsUpsets (ss : List Statement) (y : ℕ) : Type 0 where
  pub upset : ℕ
  pub is : IsUpset (events_in ss) upset
  pub steps : ℕ
  pub way : Way (causes_in ss) (effects_in ss) steps upset y

-- the numbers of the upsets
pub record AreUpsets (events : List Declared) (starts : List ℕ) : Type 0 where
  pub each : (u : ℕ) → IsIn u starts → IsUpset events u
  pub all : (u : ℕ) → IsUpset events u → IsIn u starts

-- the numbers of the upsets among the first n events
pub record AreUpsetsTo (events : List Declared) (n : ℕ) (starts : List ℕ) : Type 0 where
  pub below : AllBelow n starts
  pub each : (u : ℕ) → IsIn u starts → IsUpset events u
  pub all : (u : ℕ) → u < n → IsUpset events u → IsIn u starts

-- the trip of an engine statement is reached from a declared upset
pub record IsTripped (ss : List Statement) (s : Statement) : Type 0 where
  pub trip : ℕ
  pub number : trip_in ss s ≡ Some trip
  pub reached : IsUpsets ss trip

-- the first engine statement whose trip is reached from a declared upset has this place
pub record IsTripFault (ss : List Statement) (place : ℕ) : Type 0 where
  pub number : ℕ
  pub statement : Statement
  pub stands : slice_get ss number ≡ Some statement
  pub begins : place_of statement ≡ place
  pub tripped : IsTripped ss statement
  pub first : (j : ℕ) → j < number → (s : Statement) → slice_get ss j ≡ Some s → IsTripped ss s → ⊥

abbrev pub IsTripAnswer : List Statement → ℕ → CheckKind → Type 0
IsTripAnswer ss place kind = IsTripFault ss place × (kind ≡ UpsetTrips)

-- the node has a distance
pub record HasFar (distance : List (Option ℕ)) (node : Option ℕ) : Type 0 where
  pub at : ℕ
  pub is : node ≡ Some at
  pub steps : ℕ
  pub stands : far distance at ≡ Some steps

abbrev pub has_far : List (Option ℕ) → Option ℕ → Bool
has_far distance None = false
has_far distance (Some node) = is_some (far distance node)

-- no trip of an engine is reached from a declared upset
pub record IsTripFree (ss : List Statement) : Type 0 where
  pub each : (j : ℕ) (s : Statement) → slice_get ss j ≡ Some s → IsTripped ss s → ⊥

-- the place of an event statement
abbrev pub event_place : Statement → Option ℕ
event_place (statements.Event place d attrs) = Some place
event_place _ = None

-- the events of these numbers are a shortest way from the first event that reaches itself back to
-- it, and the statement of that event has this place
pub record IsCycleFault (ss : List Statement) (place : ℕ) (members : List Declared) : Type 0 where
  pub numbers : List ℕ
  pub cycle : IsFirstCycle (causes_in ss) (effects_in ss) numbers
  pub named : members ≡ filter_map (slice_get (events_in ss)) numbers
  pub begins : slice_get (filter_map event_place ss) (slice_index numbers 0) ≡ Some place

abbrev pub IsCycleAnswer : List Statement → ℕ → CheckKind → Type 0
IsCycleAnswer ss place kind = (members : List Declared) × IsCycleFault ss place members
    × (kind ≡ Cycle members)

-- no event reaches itself
pub record IsAcyclic (ss : List Statement) : Type 0 where
  pub each : (x : ℕ) → Reaches (causes_in ss) (effects_in ss) x x → ⊥

-- the fault that the fourth phase finds, or the fifth
abbrev pub IsArrowAnswer : List Statement → ℕ → CheckKind → Type 0
IsArrowAnswer ss place kind = IsTripAnswer ss place kind
    ⊎ (IsTripFree ss × IsCycleAnswer ss place kind)

-- no phase finds a fault
pub record IsChecked (ss : List Statement) : Type 0 where
  pub words : Passes in_itself ss
  pub once : Passes twice_after ss
  pub declared : Passes (finds_undeclared ss) ss
  pub trips : IsTripFree ss
  pub acyclic : IsAcyclic ss

-- the first fault, by the phase that finds it
pub data IsCheckFault (ss : List Statement) (place : ℕ) (kind : CheckKind) : Type 0 where
  InItself : IsFirst in_itself ss place kind → IsCheckFault ss place kind
  IsTwice : Passes in_itself ss → IsFirst twice_after ss place kind → IsCheckFault ss place kind
  NotDeclared : Passes in_itself ss → Passes twice_after ss
      → IsFirst (finds_undeclared ss) ss place kind → IsCheckFault ss place kind
  IsDrawn : Passes in_itself ss → Passes twice_after ss → Passes (finds_undeclared ss) ss
      → IsArrowAnswer ss place kind → IsCheckFault ss place kind

-- what `check` answers where it doesn't take the file
abbrev pub IsAnswer : (ℕ → CheckKind → Type 0) → CheckFault → Type 0
IsAnswer F (At place kind) = F place kind
IsAnswer F NoMemory = Unit {0}
