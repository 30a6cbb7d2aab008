use Rattle.fm_core.proofs.Tallies.{guessed_there, found_there, found_none}
use Rattle.fm_core.proofs.counting.find_class.Goals as goal

pub returns-then-stands : goal.returns-then-stands
returns-then-stands c =
    guessed_there c.args.class.now c.args.counts.now c.args.guess c.stands.result c.requires
    c.stands.ensures c.if-stands.true

pub returns-then-stands-2 : goal.returns-then-stands-2
returns-then-stands-2 c =
    found_there c.args.class.now c.args.counts.now c.find_place-at.result c.stands-2.result
    c.find_place-at.ensures c.stands-2.ensures
    c.if-stands-2.true

pub returns-else-stands-2 : goal.returns-else-stands-2
returns-else-stands-2 c =
    found_none c.args.class.now c.args.counts.now c.find_place-at.result c.stands-2.result
    c.find_place-at.ensures c.stands-2.ensures
    c.if-stands-2.false
