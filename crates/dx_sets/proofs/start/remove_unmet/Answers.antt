use Rattle.std.proofs.Common.{◌<◌, length, get_or, arith}
use Rattle.dx_sets.proofs.Beginning.{exact_moved, given_moved, unmet_keeps, unmet_met, met_past}
use Rattle.dx_sets.proofs.Beginning.{way_on}
use Rattle.dx_sets.proofs.start.remove_unmet.Goals as goal
use Rattle.dx_sets.proofs.start.remove_unmet.Goals.{then-effects_left-n, else-effects_left-n}

pub loop-place-preserved : goal.loop-place-preserved
loop-place-preserved g c =
    let v = c.args.table.now in
    let cut = g.C.CutTest.is_cut c.args.cuts.now in
    let h = c.loop-place.invariant in
    elim c.if-effects_left-n.branch [
      | then-effects_left-n w ↦
          let few : get_or c.loop-place.sets.effects_left c.loop-place.place 0
          < get_or v.n c.loop-place.place 0 =
          omega (arith, w.if-effects_left-n.true, c.effects_left.ensures, c.n.ensures) in
          let l = w.remove_causes_of.ensures.leave in
          let t = w.remove_causes_of.new.sets in
          let j_in : c.loop-place.place < length v.causes =
          omega (arith, c.count-count.ensures.count) in
          rw w.sets-is (record {
            exact = exact_moved v cut c.loop-place.sets t h.exact l.moves l.causes_left
                l.effects_left l.support;
            given = given_moved c.args.root c.loop-place.sets t h.given l.moves l.support;
            met = unmet_met v cut c.args.root c.loop-place.place c.args.sets.now c.loop-place.sets t
                h.exact j_in few l h.met;
            way = way_on v cut c.args.root c.args.sets.now c.loop-place.sets t h.way (record {
              moves = l.moves;
              keeps = unmet_keeps v cut c.args.root c.loop-place.place c.args.sets.now
                  c.loop-place.sets t h.exact j_in few l;
            });
          })
      | else-effects_left-n w ↦
          rw w.sets-is (record {
            exact = h.exact;
            given = h.given;
            met = met_past v c.loop-place.place c.loop-place.sets
                (omega (arith, w.if-effects_left-n.false, c.effects_left.ensures, c.n.ensures))
                h.met;
            way = h.way;
          })
    ]
