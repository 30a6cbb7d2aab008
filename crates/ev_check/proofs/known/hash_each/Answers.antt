use Rattle.std.proofs.Common.{take_all, rules}
use Rattle.std.proofs.hash.Loops.{each_more}
use Rattle.std.specs.Hash as fed
use Rattle.ev_check.proofs.known.hash_each.Goals as goal

pub loop-name-preserved : goal.loop-name-preserved
loop-name-preserved g c =
    search (
      rules,
      each_more g.H.Hasher.write fed.str c.args.state.now c.args.names.now
          c.loop-name.name-index c.name-item.result c.loop-name-test.true c.name-item.is,
    )

pub returns : goal.returns
returns g c = search (rules, take_all)
