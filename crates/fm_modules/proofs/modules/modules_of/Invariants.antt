-- The modules are those of the rule files before the one that is reached.
use Rattle.std.proofs.Common.{◌≡◌}
use Rattle.fm_store.specs.StoreOf.{made_modules}
use Rattle.fm_modules.specs.KeptTexts.{conf_rows}
use Rattle.fm_modules.specs.Modules.{first_modules}
use Rattle.dx_engine.specs.Diagnosers.{diagnosers}
use Rattle.fm_modules.proofs.modules.modules_of.Given as goal

abbrev pub invariant-files : goal.invariant-files
invariant-files l =
    made_modules diagnosers l.modules.items ≡ first_modules l.file (conf_rows l.mades)
