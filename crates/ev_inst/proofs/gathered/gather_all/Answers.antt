-- One propagation more, or too many links.
use Rattle.ev_check.specs.CheckedFile.{view_prop}
use Rattle.ev_inst.proofs.Gathering.{linking_there, props_more, props_step}
use Rattle.ev_inst.proofs.gathered.gather_all.Goals as goal

pub returns-in-Err-clause-many : goal.returns-in-Err-clause-many
returns-in-Err-clause-many c = λ is.
    props_more c.args.topo.now c.args.nodes.now c.args.props.now c.props.at
    c.index-props-at.result c.props-test.true c.index-props-at.is c.props.left c.props.gathered
    c.props.invariant (c.in-Err.ensures.many is)

pub add_candidates-requires-clause-ready : goal.add_candidates-requires-clause-ready
add_candidates-requires-clause-ready c = record {
  nodes_are = c.requires.nodes;
  tables = c.in-Ok.ensures.tables;
  known = c.requires.known.each c.props.at (view_prop c.index-props-at.result)
      (linking_there c.args.props.now c.props.at c.index-props-at.result c.props-test.true
      c.index-props-at.is);
}

pub props-preserved : goal.props-preserved
props-preserved c =
    props_step c.args.topo.now c.args.nodes.now c.args.props.now c.props.at
    c.index-props-at.result c.props-test.true c.index-props-at.is c.in-Ok.candidates.bindings
    c.props.left c.in-Ok.candidates.left c.props.gathered c.add_candidates.new.gathered
    c.props.invariant c.in-Ok.ensures.all c.in-Ok.ensures.left c.in_ok-add_candidates.ensures
