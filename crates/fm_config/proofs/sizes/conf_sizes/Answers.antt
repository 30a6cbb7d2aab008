-- A text that is refused over the topology, or the topology.
use Rattle.std.proofs.lemmas.Result.{IfErr-weaker, err_from_is_err_and}
use Rattle.fm_modules.specs.KeptTexts.{AreRefusedTexts, IsRefusedConf}
use Rattle.fm_config.specs.Sizes.{ConfCause}
use Rattle.fm_config.proofs.Texts.{conf_refused, topo_refused}
use Rattle.fm_config.proofs.sizes.conf_sizes.Goals as goal

pub returns-clause-refused : goal.returns-clause-refused
returns-clause-refused c =
    IfErr-weaker c.all_sizes.result
    (ConfCause (AreRefusedTexts c.in_ok-topo.topo c.as_slice.result.now))
    (ConfCause (IsRefusedConf c.args.conf.now))
    (λ fault cause.
    conf_refused c.args.conf.now c.in_ok-topo.topo c.as_slice.result.now c.get.result.now fault
    c.as_slice.ensures c.get.ensures c.in_ok-topo.ensures.topology cause)
    c.all_sizes.ensures.refused

pub returns-in_err-topo-clause-refused : goal.returns-in_err-topo-clause-refused
returns-in_err-topo-clause-refused c =
    let p = err_from_is_err_and c.from_residual.result c.from_residual.ensures.1 in
    rw (p.1, p.2) (topo_refused c.args.conf.now c.get.result.now c.in_err-topo.field-0.0
    c.get.ensures c.in_err-topo.ensures.refused)
