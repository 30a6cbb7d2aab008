-- The configurations before the place that is reached make these.
use Rattle.std.proofs.Common.{take}
use Rattle.fm_modules.specs.KeptTexts.{ConfMakes, EachHas, conf_rows}
use Rattle.fm_modules.proofs.kept.read_confs.Given as goal

abbrev pub invariant-confs : goal.invariant-confs
invariant-confs l = EachHas ConfMakes (take l.number l.confs) (conf_rows l.mades.items)
