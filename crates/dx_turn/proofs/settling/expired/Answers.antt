use Rattle.std.proofs.Common.{◌≡◌}
use Rattle.dx_turn.proofs.Moving.{stays_current}
use Rattle.dx_turn.proofs.settling.expired.Goals as goal

pub returns-then-stays : goal.returns-then-stays
returns-then-stays c = λ k is.
    let g = c.args.ground.now.graph.now in
    let time = c.args.ground.now.time in
    let w = c.requires.waiting k is in
    let same : c.in-Some.case ≡ k = cc in
    stays_current g time c.in-Some.case k c.stays.result same w c.if-stays.true c.stays.ensures
