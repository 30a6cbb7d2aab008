use Rattle.ev_check.proofs.Tripping.{upsets_all, upsets_more}
use Rattle.ev_check.proofs.trips.upsets.Goals as goal

pub loop-number-preserved : goal.loop-number-preserved
loop-number-preserved c =
    upsets_more c.args.events.now c.loop-number.number c.index-events-number.result
    c.loop-number.starts.items _ c.loop-number-test.true c.index-events-number.is
    c.in_ok-add_upset.ensures c.loop-number.invariant

pub returns-clause-are : goal.returns-clause-are
returns-clause-are c =
    upsets_all c.args.events.now c.loop-number.number c.loop-number.starts.items
    c.loop-number-test.false c.loop-number.invariant
