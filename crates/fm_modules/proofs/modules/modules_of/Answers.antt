-- One module more.
use Rattle.fm_modules.specs.KeptTexts.{conf_rows}
use Rattle.fm_modules.proofs.FirstModules.{modules_more}
use Rattle.fm_modules.proofs.modules.modules_of.Goals as goal

pub files-preserved : goal.files-preserved
files-preserved c =
    modules_more (conf_rows c.args.mades.now) c.files.file c.files.modules.items
    c.push.new.self.items c.in_ok-module_of.field-0 c.files.invariant c.in_ok-module_of.ensures
    c.in_ok-push.ensures.items
