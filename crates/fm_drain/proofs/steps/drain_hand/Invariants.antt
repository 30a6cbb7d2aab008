-- The steps so far, up to this number.
use Rattle.std.proofs.Common.{◌≡◌, Ok}
use Rattle.fm_drain.proofs.HandLaws.{HandSteps}
use Rattle.fm_drain.proofs.steps.drain_hand.Given as goal

abbrev pub invariant-entries : goal.invariant-entries
invariant-entries g l =
    HandSteps g.D.Disk g.M.Module l.initial.store l.store l.fn.hand l.now (Ok tt)
    × (l.now.cursor ≡ l._number)
