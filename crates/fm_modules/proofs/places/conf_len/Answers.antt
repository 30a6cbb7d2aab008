-- One text more, and all of them.
use Rattle.std.proofs.Common.{arith}
use Rattle.fm_modules.proofs.Gates.{len_more, len_whole}
use Rattle.fm_modules.proofs.places.conf_len.Goals as goal

pub rules-preserved : goal.rules-preserved
rules-preserved c =
    len_more c.args.conf.now.topo c.as_slice-text-items.result.now c.args.conf.now.rules
    c.rules.text-index c.text-item.result c.get-in-rules.result.now c.rules.count
    c.as_slice-text-items.ensures c.requires.rules_fit c.rules-test.true c.text-item.is
    c.get-in-rules.ensures c.rules.invariant

pub returns : goal.returns
returns c =
    len_whole c.args.conf.now c.as_slice-text-items.result.now c.rules.text-index c.rules.count
    c.requires c.as_slice-text-items.ensures (omega (arith, c.rules-test.false))
    c.rules.invariant.0
