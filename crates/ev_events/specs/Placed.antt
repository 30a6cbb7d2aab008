-- Declared events and engines at the paths of a topology with their names.
use Rattle.std.specs.Prelude.{◌≡◌, ◌<◌, ℕ, Bool, true, false, List, Option, Some, None, slice_get}
use Rattle.std.specs.Prelude.{length, codes, if◌then◌else◌}
use Rattle.std.specs.List.{list_any, join_by}
use Rattle.std.specs.BTreeMap.{is_at}
use Rattle.std.specs.Map.{keys_of, lookup}
use Rattle.std.specs.Ordering.{is_lt, is_eq}
use Rattle.std.specs.Cmp.Lexicographic.{pointwise}
use Rattle.fm_name.specs.Path.{names_of}
use Rattle.fm_name.specs.Events.{event_cmp}
use Rattle.fm_name.specs.declared.events.EventName.{EventName}
use Rattle.fm_topo.specs.Topology.{Topology}
use Rattle.ev_tree.specs.declared.tree.Declared.{Declared}
use Rattle.ev_incidence.specs.Sets.{ascends_by}
use Rattle.ev_words.specs.Iterators.{same_name}

-- event order
abbrev pub is_before_name : EventName → EventName → Bool
is_before_name a b = is_lt (event_cmp a b)

-- an event or engine that is declared, at a path of the topology with its names
pub record IsDeclaredAt (topology : Topology) (d : Declared) (name : EventName) : Type 0 where
  pub class : name.class ≡ d.class
  pub number : ℕ
  pub there : slice_get (keys_of topology) number ≡ Some name.path
  pub named : names_of name.path ≡ d.names

-- one of those that are declared is at a path
pub record IsDeclaredName (topology : Topology) (ds : List Declared) (number : ℕ)
    (name : EventName) :
    Type 0 where
  pub declared : Declared
  pub stands : slice_get ds number ≡ Some declared
  pub at : IsDeclaredAt topology declared name

-- the name stands among others
pub record IsAmongNames (names : List EventName) (name : EventName) : Type 0 where
  pub place : ℕ
  pub stands : slice_get names place ≡ Some name

-- Names in event order, each with a number: just those of the declared ones at all paths with their
-- names, and the number of the declared one.
pub record ArePlaced (topology : Topology) (ds : List Declared) (names : List EventName)
    (numbers : List ℕ) : Type 0 where
  pub ascend : ascends_by is_before_name names ≡ true
  pub long : length numbers ≡ length names
  pub each : (i k : ℕ) (name : EventName) → slice_get names i ≡ Some name
      → slice_get numbers i ≡ Some k → IsDeclaredName topology ds k name
  pub all : (k : ℕ) (name : EventName) → IsDeclaredName topology ds k name → IsAmongNames names name

-- there are more of them than a limit
pub record AreMore (topology : Topology) (ds : List Declared) (limit : ℕ) : Type 0 where
  pub names : List EventName
  pub ascend : ascends_by is_before_name names ≡ true
  pub each : (i : ℕ) (name : EventName) → slice_get names i ≡ Some name
      → (k : ℕ) × IsDeclaredName topology ds k name
  pub many : limit < length names

-- the declared one at a path, where the path has its names
abbrev pub event_at : Declared → Option (List ℕ) → Option EventName
event_at d None = None
event_at d (Some path) =
    if pointwise same_name (names_of path) d.names
    then Some (record { class = d.class; path = path }) else None

-- names, joined by slashes
abbrev pub names_joined : List (List ℕ) → List ℕ
names_joined names = join_by (λ name. name) (codes "/") names

-- what is kept for a name
abbrev pub number_of_name : List (EventName × ℕ) → EventName → Option ℕ
number_of_name entries name = lookup (is_at (event_cmp name)) entries

-- it is this name
abbrev pub is_that_name : Option EventName → EventName → Bool
is_that_name None q = false
is_that_name (Some name) q = is_eq (event_cmp name q)

-- one of the paths of these numbers, at which a declared one is, gives the name
abbrev pub is_name_at : Topology → Declared → List ℕ → EventName → Bool
is_name_at topology d ats q =
    list_any (λ at. is_that_name (event_at d (slice_get (keys_of topology) at)) q) ats

-- the first of the declared ones are kept, each by its number, and nothing else
pub record AreKept (topology : Topology) (ds : List Declared) (count : ℕ)
    (entries : List (EventName × ℕ)) : Type 0 where
  pub each : (name : EventName) (k : ℕ) → number_of_name entries name ≡ Some k
      → IsDeclaredName topology ds k name
  pub all : (k : ℕ) (name : EventName) → k < count → IsDeclaredName topology ds k name
      → (m : ℕ) × (number_of_name entries name ≡ Some m)

-- where a name stands among others, if it does
abbrev pub IsPlaceOf : List EventName → EventName → Option ℕ → Type 0
IsPlaceOf names name None = (at : ℕ) → slice_get names at ≡ Some name → ⊥
IsPlaceOf names name (Some at) = slice_get names at ≡ Some name
