use Rattle.std.proofs.Common.{arith, sym, ◌∙◌}
use Rattle.dx_sets.proofs.Linking.{steady_out, way_out, link_cost, effect_there}
use Rattle.dx_sets.proofs.Linking.{steady_in, way_in, cost_in, with_one, with_one_is}
use Rattle.dx_sets.proofs.links.lose_link.Goals as goal

pub lose_effect_at-requires : goal.lose_effect_at-requires
lose_effect_at-requires g c =
    let cut = g.C.CutTest.is_cut c.args.cuts.now in
    let one = with_one_is cut c.args.link in
    effect_there c.args.table.now cut c.args.root c.args.link c.args.sets.now
    c.requires.steady c.requires.once (with_one cut c.args.link) one c.requires.over
    c.lose_gift.new.sets (c.lose_gift.ensures.paid (with_one cut c.args.link) one)
    (sym c.has-was_in.ensures ∙ c.if-was_in.true)

pub returns-then-was_in-clause-lost : goal.returns-then-was_in-clause-lost
returns-then-was_in-clause-lost g c =
    let cut = g.C.CutTest.is_cut c.args.cuts.now in
    record {
      steady = λ more one. steady_in c.args.table.now cut c.args.root c.args.link c.args.sets.now
          c.requires.steady c.requires.once more one c.requires.over
          c.lose_gift.new.sets (c.lose_gift.ensures.paid more one)
          (sym c.has-was_in.ensures ∙ c.if-was_in.true) c.lose_effect_at.new.sets
          c.tick.new.self c.lose_effect_at.new.steps c.lose_effect_at.ensures;
      way = λ more one. way_in c.args.table.now cut c.args.root c.args.link c.args.sets.now
          c.requires.steady c.requires.once more one c.requires.over
          c.lose_gift.new.sets (c.lose_gift.ensures.paid more one)
          (sym c.has-was_in.ensures ∙ c.if-was_in.true) c.lose_effect_at.new.sets
          c.tick.new.self c.lose_effect_at.new.steps c.lose_effect_at.ensures;
    }

pub returns-else-was_in-clause-lost : goal.returns-else-was_in-clause-lost
returns-else-was_in-clause-lost g c =
    let cut = g.C.CutTest.is_cut c.args.cuts.now in
    record {
      steady = λ more one. steady_out c.args.table.now cut c.args.root c.args.link c.args.sets.now
          c.requires.steady c.requires.once more one c.requires.over
          c.lose_gift.new.sets (c.lose_gift.ensures.paid more one)
          (sym c.has-was_in.ensures ∙ c.if-was_in.false);
      way = λ more one. way_out c.args.table.now cut c.args.root c.args.link c.args.sets.now
          c.requires.steady c.requires.once more one c.requires.over
          c.lose_gift.new.sets (c.lose_gift.ensures.paid more one);
    }

pub returns-then-was_in-clause-cost : goal.returns-then-was_in-clause-cost
returns-then-was_in-clause-cost g c =
    let cut = g.C.CutTest.is_cut c.args.cuts.now in
    let one = with_one_is cut c.args.link in
    omega (
      arith,
      c.tick.ensures,
      cost_in c.args.table.now cut c.args.root c.args.link c.args.sets.now
          c.requires.steady c.requires.once (with_one cut c.args.link) one c.requires.over
          c.lose_gift.new.sets (c.lose_gift.ensures.paid (with_one cut c.args.link) one)
          (sym c.has-was_in.ensures ∙ c.if-was_in.true) c.lose_effect_at.new.sets
          c.tick.new.self c.lose_effect_at.new.steps c.lose_effect_at.ensures,
    )

pub returns-else-was_in-clause-cost : goal.returns-else-was_in-clause-cost
returns-else-was_in-clause-cost g c =
    let cut = g.C.CutTest.is_cut c.args.cuts.now in
    let one = with_one_is cut c.args.link in
    omega (
      arith,
      c.tick.ensures,
      link_cost c.args.table.now cut c.args.root c.args.link c.args.sets.now
          c.requires.steady c.requires.once (with_one cut c.args.link) one c.requires.over
          c.lose_gift.new.sets (c.lose_gift.ensures.paid (with_one cut c.args.link) one),
    )
