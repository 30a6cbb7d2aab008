use Rattle.ev_ways.proofs.Searches.{skip_taken, take_taken}
use Rattle.ev_ways.proofs.search.take_arrow.Goals as goal

pub returns-then-taken-arrow-clause-grown : goal.returns-then-taken-arrow-clause-grown
returns-then-taken-arrow-clause-grown c =
    skip_taken c.args.links.now.effects.now c.args.value c.args.arrow c.args.distance.now
    c.args.taken.now c.requires.taken c.if-taken-arrow.true

pub give-requires-clause-inside : goal.give-requires-clause-inside
give-requires-clause-inside c =
    rw (c.row_of.ensures, c.requires.nodes) (c.args.links.now.effects_below c.args.arrow)

pub returns-clause-taken : goal.returns-clause-taken
returns-clause-taken c =
    take_taken c.args.links.now.effects.now c.args.value c.args.arrow c.args.distance.now
    c.give.new.distance c.args.taken.now c.requires.taken
    (rw (← c.row_of.ensures) c.in_ok-give.ensures.grown)
