use Rattle.std.proofs.Common.{◌≡◌, ◌<◌, length, get_or, arith, ap, sym, ◌∙◌}
use Rattle.ev_incidence.specs.Table.{row_at}
use Rattle.dx_sets.proofs.Looking.{effect_some, effect_cost, unmet_cost}
use Rattle.dx_sets.proofs.Looking.{looked_cut, looked_effect, looked_unmet}
use Rattle.dx_sets.proofs.engine.lose_effects.Goals as goal
use Rattle.dx_sets.proofs.engine.lose_effects.Goals.{then-not-has, else-not-has}
use Rattle.dx_sets.proofs.engine.lose_effects.Goals.{then-effects_left-n, else-effects_left-n}

pub loop-place-init : goal.loop-place-init
loop-place-init g c = record {
  looking = rw c.gets-place-items.ensures.gets c.requires.looking;
  cost = omega arith;
}

pub lose_effect-requires : goal.lose_effect-requires
lose_effect-requires g c =
    let v = c.args.table.now in
    let cut = g.C.CutTest.is_cut c.args.cuts.now in
    let is = c.gets-place-items.ensures.gets in
    let l : c.loop-place.place-index < length (row_at v.gets c.args.node) =
    omega (arith, ap length is) in
    let here = rw is at (sym c.has.ensures ∙ c.if-not-has.true) in
    let some = effect_some v cut c.args.root c.args.node c.loop-place.place-index
    c.args.sets.now c.loop-place.sets c.requires.incidence l here
    (rw is at c.loop-place.invariant.looking) in
    elim c.if-effects_left-n.branch [
      | then-effects_left-n w ↦
          rw (w.sets-is, w.remove_causes_of.ensures.leave.effects_left, is) some
      | else-effects_left-n w ↦ rw (w.sets-is, is) some
    ]

pub loop-place-preserved : goal.loop-place-preserved
loop-place-preserved g c =
    let v = c.args.table.now in
    let cut = g.C.CutTest.is_cut c.args.cuts.now in
    let is = c.gets-place-items.ensures.gets in
    let l : c.loop-place.place-index < length (row_at v.gets c.args.node) =
    omega (arith, ap length is) in
    let h = rw is at c.loop-place.invariant.looking in
    elim c.if-not-has.branch [
      | then-not-has w ↦
          let here = rw is at (sym c.has.ensures ∙ w.if-not-has.true) in
          elim w.if-effects_left-n.branch [
            | then-effects_left-n x ↦
                let e = rw is at (sym w.effects_left.ensures
                ∙ (x.if-effects_left-n.true ∙ w.n.ensures)) in
                let leave = rw is at x.remove_causes_of.ensures.leave in
                let looks = rw is at x.remove_causes_of.ensures.cost in
                record {
                  looking = rw (w.sets-is, w.lose_effect.ensures, x.sets-is, is)
                      (looked_unmet v cut c.args.root c.args.node c.loop-place.place-index
                      c.args.sets.now c.loop-place.sets c.requires.incidence l here h e
                      x.remove_causes_of.new.sets leave);
                  cost = rw (
                    w.sets-is,
                    w.steps-is,
                    w.lose_effect.ensures,
                    x.sets-is,
                    x.steps-is,
                    is,
                  )
                      (omega (
                        arith,
                        c.tick.ensures,
                        c.loop-place.invariant.cost,
                        looks,
                        unmet_cost v cut c.args.root c.args.node c.loop-place.place-index
                            c.args.sets.now c.loop-place.sets c.requires.incidence l here h
                            x.remove_causes_of.new.sets leave e,
                      ));
                }
            | else-effects_left-n x ↦
                let ne = λ (e : get_or c.loop-place.sets.effects_left
                (get_or (row_at v.gets c.args.node) c.loop-place.place-index 0) 0
                ≡ get_or v.n (get_or (row_at v.gets c.args.node) c.loop-place.place-index 0) 0).
                x.if-effects_left-n.false (w.effects_left.ensures ∙ (rw is e ∙ sym w.n.ensures)) in
                record {
                  looking = rw (w.sets-is, w.lose_effect.ensures, x.sets-is, is)
                      (looked_effect v cut c.args.root c.args.node c.loop-place.place-index
                      c.args.sets.now c.loop-place.sets c.requires.incidence l here h ne);
                  cost = rw (
                    w.sets-is,
                    w.steps-is,
                    w.lose_effect.ensures,
                    x.sets-is,
                    x.steps-is,
                    is,
                  )
                      (omega (
                        arith,
                        c.tick.ensures,
                        c.loop-place.invariant.cost,
                        effect_cost v cut c.args.root c.args.node c.loop-place.place-index
                            c.args.sets.now c.loop-place.sets c.requires.incidence l here h ne,
                      ));
                }
          ]
      | else-not-has w ↦
          let gone = rw is at (sym c.has.ensures ∙ w.if-not-has.false) in
          record {
            looking = rw (w.sets-is, is) (looked_cut v cut c.args.root c.args.node
                c.loop-place.place-index c.args.sets.now c.loop-place.sets c.requires.incidence l
                gone h);
            cost = rw (w.sets-is, w.steps-is) (omega (
              arith,
              c.tick.ensures,
              c.loop-place.invariant.cost,
            ));
          }
    ]
