use Rattle.std.proofs.Common.{rules, ◌≡◌}
use Rattle.fm_topo.specs.Fault.{IsFaultless}
use Rattle.fm_topo.specs.Topology.{topology_of}
use Rattle.fm_topo.proofs.Stepping.{at_start}
use Rattle.fm_topo.proofs.Kept.{lawful}
use Rattle.fm_topo.proofs.reader.read_topo.Goals as goal

pub loop-found-init : goal.loop-found-init
loop-found-init c = at_start c.args.text.now c.new-found.result.entries c.new-found.ensures.empty

pub topology_from-requires : goal.topology_from-requires
topology_from-requires c =
    let clean : IsFaultless c.args.text.now = search rules in
    let same : c.step.new.found.entries ≡ topology_of c.args.text.now = search rules in
    lawful c.step.new.found.entries c.args.text.now clean same
