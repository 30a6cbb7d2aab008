-- One effect more.
use Rattle.std.proofs.Common.{get_or, refl}
use Rattle.ev_inst.proofs.Collected.{effect_step}
use Rattle.ev_inst.proofs.guarding.add_effects.Goals as goal

pub effects-preserved : goal.effects-preserved
effects-preserved c =
    effect_step c.args.side.now c.args.effects.now c.requires.events c.effects.at
    (get_or c.args.effects.now c.effects.at 0) c.effects-test.true refl c.args.guarded.now
    c.effects.guarded c.add_effect.new.guarded c.effects.invariant c.in_ok-add_effect.ensures
