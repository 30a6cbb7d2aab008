use Rattle.std.proofs.Common.{◌≡◌, take}
use Rattle.fm_core.specs.Hands.{shown}
use Rattle.fm_core.specs.Counter.{counters}
use Rattle.test_core.specs.Trials.{shown_after}
use Rattle.test_core.proofs.trials.rebuilt.Given as goal

abbrev pub invariant-steps : goal.invariant-steps
invariant-steps l = shown counters l.hand ≡ shown_after (take l.entry-index l.entries)
