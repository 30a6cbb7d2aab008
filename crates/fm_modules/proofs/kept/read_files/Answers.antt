-- One text more.
use Rattle.dx_rules.specs.Rulebooks.{ruled_of}
use Rattle.fm_modules.specs.KeptTexts.{TextMakes}
use Rattle.fm_modules.proofs.KeptRows.{each_more}
use Rattle.fm_modules.proofs.kept.read_files.Goals as goal

pub texts-preserved : goal.texts-preserved
texts-preserved c =
    each_more (TextMakes c.args.topo.now) ruled_of c.args.texts.now c.texts.text-index
    c.text-item.result c.texts.files.items c.push.new.self.items c.in_ok-read_ruled.field-0
    c.texts-test.true c.text-item.is c.texts.invariant
    (rw (← c.get.ensures) c.in_ok-read_ruled.ensures.makes) c.in_ok-push.ensures.items
