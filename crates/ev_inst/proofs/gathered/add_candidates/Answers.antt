-- One candidate more.
use Rattle.ev_check.specs.CheckedFile.{view_prop}
use Rattle.ev_inst.proofs.Gathering.{candidate_step}
use Rattle.ev_inst.proofs.gathered.add_candidates.Goals as goal

pub bindings-preserved : goal.bindings-preserved
bindings-preserved c =
    candidate_step c.args.topo.now c.args.index.now.nodes.now (view_prop c.args.prop.now)
    c.args.candidates.now.bindings c.as_slice-bindings.result.now c.as_slice-bindings.ensures
    c.bindings.at c.index-bindings-at.result c.as_slice.result.now c.bindings-test.true
    c.index-bindings-at.is c.as_slice.ensures c.in_ok-outcome.outcome c.args.gathered.now
    c.bindings.gathered c.add_outcome.new.gathered c.bindings.invariant
    c.in_ok-outcome.ensures.outcome c.in_ok-outcome.ensures.few c.in_ok-add_outcome.ensures
