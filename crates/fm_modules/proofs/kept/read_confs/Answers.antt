-- One configuration more.
use Rattle.fm_modules.specs.KeptTexts.{ConfMakes, conf_row}
use Rattle.fm_modules.proofs.KeptRows.{each_more}
use Rattle.fm_modules.proofs.kept.read_confs.Goals as goal

pub confs-preserved : goal.confs-preserved
confs-preserved c =
    each_more ConfMakes conf_row c.args.confs.now c.confs.number c.index-confs-number.result
    c.confs.mades.items c.push.new.self.items c.in_ok-read_numbered.field-0 c.confs-test.true
    c.index-confs-number.is c.confs.invariant c.in_ok-read_numbered.ensures.makes
    c.in_ok-push.ensures.items
