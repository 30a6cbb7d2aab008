-- The texts before the place that is reached make these.
use Rattle.std.proofs.Common.{map, take}
use Rattle.dx_rules.specs.Rulebooks.{ruled_of}
use Rattle.fm_modules.specs.KeptTexts.{EachHas, TextMakes}
use Rattle.fm_modules.proofs.kept.read_files.Given as goal

abbrev pub invariant-texts : goal.invariant-texts
invariant-texts l =
    EachHas (TextMakes l.topo) (take l.text-index l.texts) (map ruled_of l.files.items)
