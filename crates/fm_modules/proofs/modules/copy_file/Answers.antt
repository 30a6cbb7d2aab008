-- One copy more.
use Rattle.std.proofs.Common.{◌<◌, length, subst, sym}
use Rattle.fm_modules.specs.declared.kept.MadeConf.{MadeConf}
use Rattle.fm_modules.proofs.FirstModules.{copies_more}
use Rattle.fm_modules.proofs.modules.copy_file.Goals as goal

pub mades-preserved : goal.mades-preserved
mades-preserved c =
    copies_more c.args.file c.args.mades.now c.mades.made-index c.made-item.result
    c.index.result.now c.in_ok-copy.field-0 c.mades.list.items c.push.new.self.items
    c.mades-test.true c.made-item.is
    (subst (λ (m : MadeConf). c.args.file < length m.files.items) (sym c.made-item.is)
    (c.requires c.mades.made-index c.made-item.result c.mades-test.true))
    c.index.ensures c.in_ok-copy.ensures c.mades.invariant c.in_ok-push.ensures.items
