-- The numbers gathered, each once, are the events.
use Rattle.std.proofs.Common.{map, arith}
use Rattle.ev_tree.specs.Pattern.{view_pattern}
use Rattle.ev_inst.proofs.Gathering.{set_is}
use Rattle.ev_inst.proofs.numbers.side_events.Goals as goal

pub returns-in-Some : goal.returns-in-Some
returns-in-Some c =
    let b = c.args.binding.now in
    let told = rw c.in-Some.is at c.in_ok-numbers.ensures in
    let few = told.1.few in (
      told.0,
      (
        set_is b.topo.now c.args.index.now.nodes.now b.names.now b.instances.now
            (map view_pattern c.args.patterns.now) c.in-Some.numbers.items c.set_of.result.items
            told.1 c.set_of.ensures.rises c.set_of.ensures.members,
        omega (arith, few, c.set_of.ensures.few),
      ),
    )
