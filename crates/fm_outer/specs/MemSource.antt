-- What a source in memory is seen as.
use Rattle.std.specs.Prelude.{ℕ, List, Bool, min, length, drop}
use Rattle.fm_outer.specs.FailPlan.{Plan, after_call}

-- the bytes that are left, how many a call gives at most, and which calls fail
pub record SourceState : Type 0 where
  pub left : List ℕ
  pub piece : ℕ
  pub plan : Plan

-- how many bytes a call with such a buffer gives
abbrev pub given_count : SourceState → ℕ → ℕ
given_count source room = min source.piece (min room (length source.left))

-- one call more, which gave n bytes
abbrev pub source_after : Bool → ℕ → SourceState → SourceState
source_after done n source =
    record source { left = drop n source.left; plan = after_call done source.plan }
