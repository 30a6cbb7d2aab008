-- The saves so far are those of the hands so far.
use Rattle.std.proofs.Common.{◌≡◌, take}
use Rattle.fm_store.specs.StoreCalls.{AreLawful, saves_of}
use Rattle.fm_store.proofs.checkpoints.save_states.Given as goal

abbrev pub invariant-hands : goal.invariant-hands
invariant-hands g l =
    (l.states.items ≡ saves_of g.M.Module (take l.hand-index l.hands))
    × AreLawful g.M.Module (take l.hand-index l.hands)
