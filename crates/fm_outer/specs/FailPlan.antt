-- Which calls of an object in memory are to fail.
use Rattle.std.specs.Prelude.{ℕ, List, Bool, false, ◌==◌, ◌||◌, nat_le, if◌then◌else◌, None, Some}
use Rattle.std.specs.List.{list_any}
use Rattle.std.specs.declared.option.Option.{Option}
use Rattle.fm_outer.specs.Failures.{counted}

-- the numbers of the calls that fail, the call from which on each fails, how many calls were made,
-- and how many failed
pub record Plan : Type 0 where
  pub fails : List ℕ
  pub stop : Option ℕ
  pub calls : ℕ
  pub failures : ℕ

-- a stop is set, and the call is not before it
abbrev pub stopped_by : Option ℕ → ℕ → Bool
stopped_by None call = false
stopped_by (Some first) call = nat_le first call

-- the next call is one that fails
abbrev pub is_due : Plan → Bool
is_due plan = list_any (λ number. number == plan.calls) plan.fails || stopped_by plan.stop
    plan.calls

-- one call more, done or not
abbrev pub after_call : Bool → Plan → Plan
after_call done plan =
    record plan {
      calls = counted plan.calls;
      failures =
          if done then plan.failures else counted plan.failures;
    }

-- no call was made, and no stop is set
abbrev pub fresh_plan : List ℕ → Plan
fresh_plan fails = record { fails = fails; stop = None; calls = 0; failures = 0 }
