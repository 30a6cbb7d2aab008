-- What becomes of actuators that are brought to hold what is wanted.
use Rattle.std.specs.Prelude.{◌≡◌, ◌⊎◌, ◌↔◌, ℕ, ◌≤◌, ◌-◌, Bool, false, IsTrue, List, ◌∷◌}
use Rattle.std.specs.Prelude.{length, zero, suc}
use Rattle.std.specs.Prelude.{Option, None, Some, Result, Ok, Err, Contains, slice_get}
use Rattle.std.specs.List.{AllZip}
use Rattle.std.specs.Str.{bytes_eq}
use Rattle.fm_name.specs.Path.{parts_of, names_of}
use Rattle.fm_outer.specs.Failures.{Rose}
use Rattle.fm_act.specs.declared.faults.ActRefused.{ActRefused}
use Rattle.fm_act.specs.declared.faults.ActRefused.TheVariants.{Act, NoMemory}

-- whether there is a name, and it is this one
abbrev pub is_named : List ℕ → Option (List ℕ) → Bool
is_named kind None = false
is_named kind (Some name) = bytes_eq name kind

-- whether the last part of a path has the name
unfoldable pub is_of_kind : List ℕ → List ℕ → Bool
is_of_kind kind path = is_named kind (slice_get (names_of path) (length (parts_of path) - 1))

-- what is held is exactly what is wanted of a kind
abbrev pub HoldsWanted : List ℕ → List (List ℕ) → List (List ℕ) → Type 0
HoldsWanted kind wanted held = (path : List ℕ)
    → Contains held path ↔ (Contains wanted path × IsTrue (is_of_kind kind path))

-- An actuator that tells what it holds, and held no more than it lists, holds exactly what is
-- wanted of its kind.
abbrev pub BecomesWanted : List ℕ → List (List ℕ) → Option (List (List ℕ))
    → Option (List (List ℕ)) → Type 0
BecomesWanted kind wanted None new = Unit {0}
BecomesWanted kind wanted (Some old) None = ⊥
BecomesWanted kind wanted (Some old) (Some new) = length old ≤ 65536
    → HoldsWanted kind wanted new

-- an actuator at one moment: its kind, the paths that it holds, where it tells them, and its count
-- of failures
pub record ActuatorState : Type 0 where
  pub kind : List ℕ
  pub held : Option (List (List ℕ))
  pub failures : ℕ

abbrev pub actuator_state : List ℕ → Option (List (List ℕ)) → ℕ → ActuatorState
actuator_state kind held failures = record { kind = kind; held = held; failures = failures }

-- it is of the same kind, and its count didn't fall
pub record KeepsKind (old new : ActuatorState) : Type 0 where
  pub kind : new.kind ≡ old.kind
  pub later : old.failures ≤ new.failures

-- it didn't fail, and holds what is wanted of it
pub record Settled (wanted : List (List ℕ)) (old new : ActuatorState) : Type 0 where
  pub quiet : new.failures ≡ old.failures
  pub holds : BecomesWanted old.kind wanted old.held new.held

-- its count of failures rose
abbrev pub HasFailed : ActuatorState → ActuatorState → Type 0
HasFailed old new = Rose old.failures new.failures

-- it holds what is wanted of it, or it failed
abbrev pub WasTried : List (List ℕ) → ActuatorState → ActuatorState → Type 0
WasTried wanted old new = Settled wanted old new ⊎ HasFailed old new

-- The actuator at the place failed, those before it hold what is wanted of them, and so does each
-- behind it that didn't fail.
abbrev pub FirstFailed : List (List ℕ) → ℕ → List ActuatorState → List ActuatorState → Type 0
FirstFailed wanted zero (old ∷ olds) (new ∷ news) =
    HasFailed old new × AllZip (WasTried wanted) olds news
FirstFailed wanted (suc at) (old ∷ olds) (new ∷ news) =
    Settled wanted old new × FirstFailed wanted at olds news
FirstFailed _ _ _ _ = ⊥

-- what becomes of all, by the answer
abbrev pub Reconciled : List (List ℕ) → List ActuatorState → List ActuatorState
    → Result (Unit {0}) ActRefused → Type 0
Reconciled wanted olds news (Ok done) = AllZip (Settled wanted) olds news
Reconciled wanted olds news (Err (Act index)) = FirstFailed wanted index olds news
Reconciled wanted olds news (Err NoMemory) = Unit {0}

-- what is answered where the first that failed is at a place: its index, where a u32 has it
abbrev pub IsActRefusal : ℕ → ActRefused → Type 0
IsActRefusal at (Act index) = index ≡ at
IsActRefusal at NoMemory = Unit {0}
