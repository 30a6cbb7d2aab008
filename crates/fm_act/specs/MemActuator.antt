-- What an actuator in memory is seen as.
use Rattle.std.specs.Prelude.{ℕ, List, [], ◌∷◌, Bool, true, false, not, ◌&&◌, Result, Err}
use Rattle.std.specs.Prelude.{Option, None, Some, if◌then◌else◌}
use Rattle.std.specs.List.{list_all}
use Rattle.std.specs.Ordering.{is_lt}
use Rattle.std.specs.Set.{remove_key}
use Rattle.std.specs.BTreeMap.{is_at}
use Rattle.std.specs.BTreeSet.{insert_key}
use Rattle.fm_name.specs.Order.{path_cmp}
use Rattle.fm_outer.specs.FailPlan.{Plan, is_due, after_call}
use Rattle.fm_act.specs.declared.faults.ActFault.{ActFault}
use Rattle.fm_act.specs.declared.faults.ActFault.TheVariants.{Failed}

-- its kind, the paths that it holds, and which calls fail
pub record MemActuatorState : Type 0 where
  pub kind : List ℕ
  pub held : List (List ℕ)
  pub plan : Plan

-- whether paths ascend strictly in path order
abbrev pub are_in_order : List (List ℕ) → Bool
are_in_order [] = true
are_in_order (path ∷ paths) =
    list_all (λ other. is_lt (path_cmp path other)) paths && are_in_order paths

-- what it tells of what it holds, which always ascends
abbrev pub told_paths : MemActuatorState → Option (List (List ℕ))
told_paths act = if are_in_order act.held then Some act.held else None

-- whether a call failed
abbrev pub has_failed : {T : Type 0} → Result T ActFault → Bool
has_failed (Err Failed) = true
has_failed _ = false

-- one call more, which failed where that was due, and what is held after it
abbrev pub after_act_call : List (List ℕ) → MemActuatorState → MemActuatorState
after_act_call held act =
    record act { held = held; plan = after_call (not (is_due act.plan)) act.plan }

-- what is held with a path more, and without a path
abbrev pub with_path : List ℕ → List (List ℕ) → List (List ℕ)
with_path path held = insert_key path_cmp held path

abbrev pub without_path : List ℕ → List (List ℕ) → List (List ℕ)
without_path path held = remove_key (is_at (path_cmp path)) held
