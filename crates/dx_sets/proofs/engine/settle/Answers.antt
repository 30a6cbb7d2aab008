use Rattle.std.proofs.Common.{[], arith}
use Rattle.dx_sets.specs.Engine.{uncut_gets}
use Rattle.dx_sets.proofs.Losing.{popped_cost, popped_held_one}
use Rattle.dx_sets.proofs.Looking.{looking_begins, looking_ends, looking_again, settles_on}
use Rattle.dx_sets.proofs.engine.settle.Goals as goal

pub lose_causes-requires-clause-looking : goal.lose_causes-requires-clause-looking
lose_causes-requires-clause-looking g c =
    looking_begins c.args.table.now (g.C.CutTest.is_cut c.args.cuts.now) c.args.root
    c.in-Some.node c.loop-node.sets c.pop_front.new.self c.loop-node.invariant.steady
    c.in-Some.ensures.some

pub lose_effects-requires-clause-looking : goal.lose_effects-requires-clause-looking
lose_effects-requires-clause-looking g c =
    let cut = g.C.CutTest.is_cut c.args.cuts.now in
    looking_again c.args.table.now cut c.args.root []
    (uncut_gets c.args.table.now cut c.in-Some.node)
    c.pop_front.new.self c.lose_causes.new.sets c.lose_causes.ensures.looking

pub loop-node-smaller : goal.loop-node-smaller
loop-node-smaller g c =
    omega (
      arith,
      popped_held_one c.args.table.now (g.C.CutTest.is_cut c.args.cuts.now) c.in-Some.node
          c.loop-node.sets c.pop_front.new.self c.requires.incidence c.in-Some.ensures.some,
      c.lose_causes.ensures.looking.way.moves.sums (λ e. 1),
      c.lose_effects.ensures.looking.way.moves.sums (λ e. 1),
    )

pub loop-node-preserved : goal.loop-node-preserved
loop-node-preserved g c =
    let v = c.args.table.now in
    let cut = g.C.CutTest.is_cut c.args.cuts.now in
    record {
      steady = looking_ends v cut c.args.root c.lose_causes.new.sets c.lose_effects.new.sets
          c.requires.incidence c.lose_effects.ensures.looking;
      settles = settles_on v cut c.args.root c.in-Some.node c.args.sets.now c.loop-node.sets
          c.pop_front.new.self c.lose_causes.new.sets c.lose_effects.new.sets c.in-Some.ensures.some
          c.loop-node.invariant.settles c.lose_causes.ensures.looking.way
          c.lose_effects.ensures.looking.way;
      cost = omega (
        arith,
        popped_cost v cut c.in-Some.node c.loop-node.sets c.pop_front.new.self c.requires.incidence
            c.in-Some.ensures.some,
        c.loop-node.invariant.cost,
        c.tick.ensures,
        c.lose_causes.ensures.cost,
        c.lose_effects.ensures.cost,
      );
    }
