-- The texts before the place that is reached have these sizes.
use Rattle.std.proofs.Common.{take}
use Rattle.fm_modules.specs.KeptTexts.{EachHas}
use Rattle.fm_config.specs.Sizes.{TextHasSizes}
use Rattle.fm_config.proofs.sizes.all_sizes.Given as goal

abbrev pub invariant-texts : goal.invariant-texts
invariant-texts l = EachHas (TextHasSizes l.topo) (take l.text-index l.texts) l.sizes.items
