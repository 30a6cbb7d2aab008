-- The reports of all texts, each once.
use Rattle.std.proofs.lemmas.Result.{err_from_is_err_and}
use Rattle.fm_config.proofs.Gathered.{conf_once, once_pass}
use Rattle.fm_config.proofs.Texts.{conf_refused}
use Rattle.fm_config.proofs.reports.conf_reports.Goals as goal

pub returns-in_err-events-clause-refused : goal.returns-in_err-events-clause-refused
returns-in_err-events-clause-refused c =
    let p = err_from_is_err_and c.from_residual-in_err-events.result
    c.from_residual-in_err-events.ensures.1 in
    rw (p.1, p.2) (conf_refused c.args.conf.now c.in_ok-topo.topo c.as_slice.result.now
    c.get.result.now c.in_err-events.field-0.0 c.as_slice.ensures c.get.ensures
    c.in_ok-topo.ensures.topology c.in_err-events.ensures.refused)

pub returns-clause-reports : goal.returns-clause-reports
returns-clause-reports c =
    conf_once c.args.conf.now c.in_ok-topo.topo c.as_slice.result.now c.get.result.now
    c.in_ok-events.events.items c.keep_once.result.items c.as_slice.ensures c.get.ensures
    c.in_ok-topo.ensures.topology c.in_ok-events.ensures.gathered c.keep_once.ensures

pub returns-clause-category : goal.returns-clause-category
returns-clause-category c =
    once_pass c.in_ok-topo.topo c.as_slice.result.now c.in_ok-events.events.items
    c.keep_once.result.items c.in_ok-events.ensures.gathered c.keep_once.ensures
