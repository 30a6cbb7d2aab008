-- One propagation more.
use Rattle.std.proofs.Common.{refl}
use Rattle.ev_check.specs.CheckedFile.{view_prop}
use Rattle.ev_inst.proofs.Gathering.{linking_there}
use Rattle.ev_inst.proofs.Collected.{all_bare, prop_step}
use Rattle.ev_inst.proofs.guarding.guards_of_all.Goals as goal

pub props-init : goal.props-init
props-init c = all_bare c.args.topo.now c.args.nodes.now _ c.in_ok-nodes_bare.ensures refl

pub add_prop-requires-clause-ready : goal.add_prop-requires-clause-ready
add_prop-requires-clause-ready c = record {
  nodes_are = c.requires.nodes;
  tables = c.in-Ok.ensures.tables;
  known = c.requires.known.each c.props.at (view_prop c.index-props-at.result)
      (linking_there c.args.props.now c.props.at c.index-props-at.result c.props-test.true
      c.index-props-at.is);
}

pub props-preserved : goal.props-preserved
props-preserved c =
    prop_step c.args.topo.now c.args.nodes.now c.args.props.now c.props.at
    c.index-props-at.result c.props-test.true c.index-props-at.is c.in-Ok.candidates.bindings
    c.props.all c.add_prop.new.all c.props.invariant c.in-Ok.ensures.all
    c.in_ok-add_prop.ensures
