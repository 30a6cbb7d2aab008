-- One text more.
use Rattle.fm_config.specs.Sizes.{TextHasSizes}
use Rattle.fm_config.proofs.Texts.{each_next}
use Rattle.fm_config.proofs.sizes.all_sizes.Goals as goal

pub texts-preserved : goal.texts-preserved
texts-preserved c =
    each_next (TextHasSizes c.args.topo.now) c.args.texts.now c.texts.text-index
    c.text-item.result c.texts.sizes.items c.push.new.self.items c.in_ok-text_sizes.field-0
    c.texts-test.true c.text-item.is c.texts.invariant
    (rw (← c.get.ensures) c.in_ok-text_sizes.ensures.sizes) c.in_ok-push.ensures.items
