-- A text that is refused over the topology.
use Rattle.std.proofs.lemmas.Result.{IfErr-weaker}
use Rattle.fm_modules.specs.KeptTexts.{AreRefusedTexts, IsRefusedConf, KeptCause}
use Rattle.fm_modules.proofs.KeptRows.{conf_refused}
use Rattle.fm_modules.proofs.kept.read_conf_texts.Goals as goal

pub returns-clause-refused : goal.returns-clause-refused
returns-clause-refused c =
    IfErr-weaker c.read_files.result
    (KeptCause (AreRefusedTexts c.in-Ok.topo c.as_slice.result.now))
    (KeptCause (IsRefusedConf c.args.conf.now))
    (λ fault cause.
    conf_refused c.args.conf.now c.in-Ok.topo c.as_slice.result.now c.get.result.now fault
    c.as_slice.ensures c.get.ensures c.in-Ok.ensures.clean c.in-Ok.ensures.same cause)
    c.read_files.ensures.refused
