-- One text more, or one that is refused.
use Rattle.std.proofs.lemmas.Result.{err_from_is_err_and}
use Rattle.fm_config.proofs.Gathered.{gathered_next, none_yet}
use Rattle.fm_config.proofs.Texts.{one_refused}
use Rattle.fm_config.proofs.reports.gather_reports.Goals as goal

pub texts-init : goal.texts-init
texts-init c = none_yet c.args.topo.now c.new-events.result.items c.new-events.ensures.items

pub texts-preserved : goal.texts-preserved
texts-preserved c =
    gathered_next c.args.topo.now c.args.texts.now c.texts.text-index c.text-item.result
    c.texts.events.items
    c.put_reports.new.events.items c.texts-test.true c.text-item.is c.texts.invariant
    (rw (← c.get.ensures) c.in_ok-put_reports.ensures.put)

pub returns-in_err-put_reports-clause-refused : goal.returns-in_err-put_reports-clause-refused
returns-in_err-put_reports-clause-refused c =
    let p = err_from_is_err_and c.from_residual.result c.from_residual.ensures.1 in
    rw (p.1, p.2) (one_refused c.args.topo.now c.args.texts.now c.texts.text-index
    c.text-item.result c.in_err-put_reports.field-0.0 c.texts-test.true c.text-item.is
    (rw (← c.get.ensures) c.in_err-put_reports.ensures.refused))
