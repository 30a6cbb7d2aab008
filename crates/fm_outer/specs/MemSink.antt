-- What a sink in memory is seen as.
use Rattle.std.specs.Prelude.{ℕ, ◌+◌, List, ◌++◌, Bool, not, ◌&&◌, nat_le, length}
use Rattle.fm_outer.specs.FailPlan.{Plan, is_due, after_call}

-- the bytes that were put, how many there may be, and which calls fail
pub record SinkState : Type 0 where
  pub bytes : List ℕ
  pub room : ℕ
  pub plan : Plan

-- the sink takes the piece now
abbrev pub takes : SinkState → List ℕ → Bool
takes sink piece = not (is_due sink.plan) && nat_le (length sink.bytes + length piece) sink.room

-- one call more, which took these bytes
abbrev pub sink_after : Bool → List ℕ → SinkState → SinkState
sink_after done taken sink =
    record sink { bytes = sink.bytes ++ taken; plan = after_call done sink.plan }
