use Rattle.std.proofs.Common.{arith, rules}
use Rattle.ev_ways.proofs.Searches.{next_taken, next_searched, all_searched}
use Rattle.ev_ways.proofs.search.search.Goals as goal

pub returns-then-is_empty : goal.returns-then-is_empty
returns-then-is_empty c = record {
  found = all_searched c.args.links.now.causes.now c.args.links.now.effects.now c.args.starts.now
      c.loop-level.level c.loop-level.distance c.loop-level.front.items c.loop-level.taken
      c.loop-level.invariant (search rules);
}

pub spread-requires-clause-taken : goal.spread-requires-clause-taken
spread-requires-clause-taken c =
    next_taken c.args.links.now.effects.now c.loop-level.level c.loop-level.distance
    c.loop-level.taken c.loop-level.invariant.taken_is

pub loop-level-preserved : goal.loop-level-preserved
loop-level-preserved c =
    next_searched c.args.links.now.causes.now c.args.links.now.effects.now c.args.starts.now
    c.loop-level.level c.loop-level.distance c.spread.new.distance
    c.loop-level.front.items c.spread.new.front.items c.loop-level.taken c.spread.new.taken
    c.loop-level.invariant
    c.in_ok-spread.ensures.front c.in_ok-spread.ensures.taken
    (rw (← c.as_slice.ensures.value) c.in_ok-spread.ensures.grown)

pub returns : goal.returns
returns c = record {
  found = all_searched c.args.links.now.causes.now c.args.links.now.effects.now c.args.starts.now
      c.loop-level.level c.loop-level.distance c.loop-level.front.items c.loop-level.taken
      c.loop-level.invariant (omega (arith, c.loop-level.invariant.front_is.room));
}
