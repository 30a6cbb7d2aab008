-- No pair so far has the name.
use Rattle.std.proofs.Common.{◌≡◌}
use Rattle.fm_nv.specs.Data.{find, from}
use Rattle.fm_nv.proofs.nv.Content.get.Given as goal

abbrev pub invariant-loop-at : goal.invariant-loop-at
invariant-loop-at l = find l.name l.self ≡ find l.name (from l.at l.self)
