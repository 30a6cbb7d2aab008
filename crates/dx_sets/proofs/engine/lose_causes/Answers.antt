use Rattle.std.proofs.Common.{◌≡◌, ◌<◌, length, get_or, arith, ap, sym, ◌∙◌}
use Rattle.ev_incidence.specs.Table.{row_at}
use Rattle.dx_sets.specs.Engine.{uncut_gets}
use Rattle.dx_sets.proofs.Looking.{cause_some, cause_last, cause_cost, last_cost}
use Rattle.dx_sets.proofs.Looking.{looked_cause, looked_last}
use Rattle.dx_sets.proofs.engine.lose_causes.Goals as goal
use Rattle.dx_sets.proofs.engine.lose_causes.Goals.{then-is_last, else-is_last}

pub loop-place-init : goal.loop-place-init
loop-place-init g c = record {
  looking = rw c.uses-place-items.ensures.uses c.requires.looking;
  cost = omega arith;
}

pub lose_cause-requires : goal.lose_cause-requires
lose_cause-requires g c =
    let v = c.args.table.now in
    let cut = g.C.CutTest.is_cut c.args.cuts.now in
    let is = c.uses-place-items.ensures.uses in
    let l : c.loop-place.place-index < length (row_at v.uses c.args.node) =
    omega (arith, ap length is) in
    rw is (cause_some v cut c.args.root c.args.node c.loop-place.place-index
    (uncut_gets v cut c.args.node) c.args.sets.now c.loop-place.sets c.requires.incidence l
    (rw is at c.loop-place.invariant.looking))

pub lose_effects_of-requires-clause-owed : goal.lose_effects_of-requires-clause-owed
lose_effects_of-requires-clause-owed g c =
    let v = c.args.table.now in
    let cut = g.C.CutTest.is_cut c.args.cuts.now in
    let is = c.uses-place-items.ensures.uses in
    let l : c.loop-place.place-index < length (row_at v.uses c.args.node) =
    omega (arith, ap length is) in
    let e = rw is at (sym c.causes_left.ensures ∙ (c.if-is_last.true ∙ c.k.ensures)) in
    rw (c.lose_cause.ensures, is) (cause_last v cut c.args.root c.args.node
    c.loop-place.place-index (uncut_gets v cut c.args.node) c.args.sets.now c.loop-place.sets
    c.requires.incidence l (rw is at c.loop-place.invariant.looking) e)

pub lose_effects_of-requires-clause-given : goal.lose_effects_of-requires-clause-given
lose_effects_of-requires-clause-given g c =
    rw c.lose_cause.ensures (record { each = c.loop-place.invariant.looking.given.each })

pub loop-place-preserved : goal.loop-place-preserved
loop-place-preserved g c =
    let v = c.args.table.now in
    let cut = g.C.CutTest.is_cut c.args.cuts.now in
    let is = c.uses-place-items.ensures.uses in
    let l : c.loop-place.place-index < length (row_at v.uses c.args.node) =
    omega (arith, ap length is) in
    let h = rw is at c.loop-place.invariant.looking in
    elim c.if-is_last.branch [
      | then-is_last w ↦
          let e = rw is at (sym c.causes_left.ensures ∙ (w.if-is_last.true ∙ c.k.ensures)) in
          let paid = rw (c.lose_cause.ensures, is) at w.lose_effects_of.ensures.paid in
          let looks = rw is at w.lose_effects_of.ensures.cost in
          record {
            looking = rw (w.sets-is, is) (looked_last v cut c.args.root c.args.node
                c.loop-place.place-index (uncut_gets v cut c.args.node) c.args.sets.now
                c.loop-place.sets c.requires.incidence l h w.lose_effects_of.new.sets paid);
            cost = rw (w.sets-is, w.steps-is) (omega (
              arith,
              c.tick.ensures,
              c.loop-place.invariant.cost,
              looks,
              last_cost v cut c.args.root c.args.node c.loop-place.place-index
                  (uncut_gets v cut c.args.node) c.args.sets.now c.loop-place.sets
                  c.requires.incidence l h w.lose_effects_of.new.sets e paid,
            ));
          }
      | else-is_last w ↦
          let ne = λ (e : get_or c.loop-place.sets.causes_left
          (get_or (row_at v.uses c.args.node) c.loop-place.place-index 0) 0
          ≡ get_or v.k (get_or (row_at v.uses c.args.node) c.loop-place.place-index 0) 0).
          w.if-is_last.false (c.causes_left.ensures ∙ (rw is e ∙ sym c.k.ensures)) in
          record {
            looking = rw (w.sets-is, c.lose_cause.ensures, is) (looked_cause v cut c.args.root
                c.args.node c.loop-place.place-index (uncut_gets v cut c.args.node)
                c.args.sets.now c.loop-place.sets c.requires.incidence l h ne);
            cost = rw (w.sets-is, w.steps-is, c.lose_cause.ensures, is) (omega (
              arith,
              c.tick.ensures,
              c.loop-place.invariant.cost,
              cause_cost v cut c.args.root c.args.node c.loop-place.place-index
                  (uncut_gets v cut c.args.node) c.args.sets.now c.loop-place.sets
                  c.requires.incidence l h ne,
            ));
          }
    ]
