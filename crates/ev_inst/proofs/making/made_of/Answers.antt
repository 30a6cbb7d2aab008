-- What is gathered can be built, and is the graph of the file.
use Rattle.std.proofs.Common.{refl, ap, arith}
use Rattle.ev_graph.specs.Lawful.{links}
use Rattle.ev_events.proofs.Wholeness.{whole_file}
use Rattle.ev_inst.proofs.Buildable.{buildable}
use Rattle.ev_inst.proofs.Ready.{made_is}
use Rattle.ev_inst.proofs.making.made_of.Goals as goal

pub build-requires : goal.build-requires
build-requires c =
    let to = c.requires.gathered.to in
    let same = ap links to.instances_are in
    let few = to.few in
    buildable c.args.checked.now c.args.topo.now
    (whole_file c.args.checked.now c.props-props.ensures.sound) c.props-props.ensures.lawful
    c.args.placed.nodes.items c.args.placed.engines.items c.requires.placed to.candidates _ refl
    refl to.instances_are (omega (arith, same, few))

pub returns : goal.returns
returns c =
    made_is c.args.checked.now c.args.topo.now c.args.placed.nodes.items
    c.args.placed.engines.items c.requires.placed c.args.gathered c.requires.gathered
    (omega arith) c.in_ok-graph.graph c.in_ok-graph.ensures.value c.in_ok-graph.ensures.graph
