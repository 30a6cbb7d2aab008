-- The module of the copies.
use Rattle.std.proofs.Common.{ap}
use Rattle.dx_step.specs.Longer.{rules_of}
use Rattle.fm_modules.specs.KeptTexts.{conf_rows}
use Rattle.fm_modules.specs.Modules.{configurations_at}
use Rattle.fm_modules.proofs.FirstModules.{module_is}
use Rattle.fm_modules.proofs.modules.module_of.Goals as goal

pub returns : goal.returns
returns c =
    module_is c.in_ok-made.made _ c.args.file
    (configurations_at c.args.file (conf_rows c.args.mades.now)) c.in_ok-made.ensures.rules
    c.in_ok-made.ensures.state (ap (rules_of c.args.file) c.in_ok-copy_file.ensures)
