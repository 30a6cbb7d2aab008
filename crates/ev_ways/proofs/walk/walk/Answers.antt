use Rattle.std.proofs.Common.{◌-◌, length, arith}
use Rattle.ev_ways.proofs.Cycles.{walk_begins, walk_more, walk_ends}
use Rattle.ev_ways.proofs.walk.walk.Goals as goal

pub loop-step-init : goal.loop-step-init
loop-step-init c = rw c.in_ok-members.ensures.items
    (walk_begins c.args.links.now.causes.now c.args.links.now.effects.now c.args.node
    c.args.distance.now c.args.first c.requires.first)

pub onward-step-requires-clause-on : goal.onward-step-requires-clause-on
onward-step-requires-clause-on c =
    (c.loop-step.invariant.last (length c.loop-step.members.items - 1)
    (omega (arith, c.loop-step.invariant.some))).stands

pub loop-step-preserved : goal.loop-step-preserved
loop-step-preserved c =
    rw c.in_ok-push.ensures.items
    (walk_more c.args.links.now.causes.now c.args.links.now.effects.now c.args.node
    c.args.distance.now c.args.first c.loop-step.members.items c.loop-step.step c.onward-step.result
    c.requires.towards c.loop-step.invariant c.onward-step.ensures.best
    c.onward-step.ensures.closer)

pub returns : goal.returns
returns c = walk_ends c.args.links.now.causes.now c.args.links.now.effects.now c.args.node
    c.args.distance.now c.args.first c.loop-step.members.items c.loop-step.step
    c.requires.towards c.requires.first c.loop-step.invariant (omega arith)
