-- The copies are of the configurations before the place that is reached.
use Rattle.std.proofs.Common.{◌≡◌, map, take}
use Rattle.dx_rules.specs.Rulebooks.{ruled_of}
use Rattle.fm_modules.specs.KeptTexts.{conf_rows}
use Rattle.fm_modules.specs.Modules.{configurations_at}
use Rattle.fm_modules.proofs.modules.copy_file.Given as goal

abbrev pub invariant-mades : goal.invariant-mades
invariant-mades l = map ruled_of l.list.items
    ≡ configurations_at l.file (conf_rows (take l.made-index l.mades))
