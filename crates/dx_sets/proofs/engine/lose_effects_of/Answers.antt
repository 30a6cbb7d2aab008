use Rattle.std.proofs.Common.{◌<◌, length, arith, ap, sym, ◌∙◌}
use Rattle.ev_incidence.specs.Table.{row_at}
use Rattle.dx_sets.proofs.Losing.{paying_start}
use Rattle.dx_sets.proofs.Paying.{support_owed, paid_here, paid_past}
use Rattle.dx_sets.proofs.engine.lose_effects_of.Goals as goal
use Rattle.dx_sets.proofs.engine.lose_effects_of.Goals.{then-not-has, else-not-has}

pub loop-effect-init : goal.loop-effect-init
loop-effect-init g c = record {
  paying = rw c.effects-effect-items.ensures.effects (paying_start c.args.table.now
      (g.C.CutTest.is_cut c.args.cuts.now) c.args.root c.args.place c.args.sets.now
      c.requires.owed c.requires.given);
  cost = omega arith;
}

pub lose_giver-requires : goal.lose_giver-requires
lose_giver-requires g c =
    let v = c.args.table.now in
    let is = c.effects-effect-items.ensures.effects in
    let l : c.loop-effect.effect-index < length (row_at v.effects c.args.place) =
    omega (arith, ap length is) in
    let gone = rw is at (sym c.has.ensures ∙ c.if-not-has.true) in
    let paying = rw is at c.loop-effect.invariant.paying in
    rw is (support_owed v (g.C.CutTest.is_cut c.args.cuts.now) c.args.root c.args.place
    c.loop-effect.effect-index c.args.sets.now c.loop-effect.sets c.requires.owed l gone paying)

pub loop-effect-preserved : goal.loop-effect-preserved
loop-effect-preserved g c =
    let v = c.args.table.now in
    let is = c.effects-effect-items.ensures.effects in
    let l : c.loop-effect.effect-index < length (row_at v.effects c.args.place) =
    omega (arith, ap length is) in
    let paying = rw is at c.loop-effect.invariant.paying in
    elim c.if-not-has.branch [
      | then-not-has w ↦
          let gone = rw is at (sym c.has.ensures ∙ w.if-not-has.true) in
          record {
            paying = rw (w.sets-is, w.lose_giver.ensures, is) (paid_here v
                (g.C.CutTest.is_cut c.args.cuts.now) c.args.root c.args.place
                c.loop-effect.effect-index c.args.sets.now c.loop-effect.sets c.requires.owed l gone
                paying);
            cost = omega (arith, c.tick.ensures, c.loop-effect.invariant.cost);
          }
      | else-not-has w ↦
          let gone = rw is at (sym c.has.ensures ∙ w.if-not-has.false) in
          record {
            paying = rw (w.sets-is, is) (paid_past v
                (g.C.CutTest.is_cut c.args.cuts.now) c.args.root c.args.place
                c.loop-effect.effect-index c.args.sets.now c.loop-effect.sets c.requires.owed l gone
                paying);
            cost = omega (arith, c.tick.ensures, c.loop-effect.invariant.cost);
          }
    ]
