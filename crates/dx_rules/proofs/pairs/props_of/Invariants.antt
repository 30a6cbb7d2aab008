-- The pairs so far, and those of the rest, are all.
use Rattle.std.proofs.Common.{◌≡◌, ◌++◌}
use Rattle.fm_nv.specs.Data.{from}
use Rattle.dx_rules.specs.Payloads.{props_of}
use Rattle.dx_rules.proofs.pairs.props_of.Given as goal

abbrev pub invariant-loop-at : goal.invariant-loop-at
invariant-loop-at l = l.props.items ++ props_of (from l.at l.payload) ≡ props_of l.payload
