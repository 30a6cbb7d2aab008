-- One hand more is saved.
use Rattle.std.proofs.Common.{rules, refl, length}
use Rattle.std.proofs.lemmas.Option.{slice_get_read}
use Rattle.fm_store.proofs.Saves.{saves_more, lawful_more}
use Rattle.fm_store.proofs.checkpoints.save_states.Goals as goal

pub hands-preserved : goal.hands-preserved
hands-preserved g c =
    let there = slice_get_read c.args.hands.now (length c.args.hands.now) c.hands.hand-index
    c.hand-item.result refl c.hands-test.true c.hand-item.is in (
      saves_more g.M.Module c.args.hands.now c.hands.hand-index c.hand-item.result
          c.hands.states.items c.push.new.self.items c.in_ok-new.field-0 there
          c.hands.invariant.0 (search rules)
          (search rules),
      lawful_more g.M.Module c.args.hands.now c.hands.hand-index c.hand-item.result there
          c.hands.invariant.1 (search rules),
    )
