-- One candidate more.
use Rattle.ev_check.specs.CheckedFile.{view_prop}
use Rattle.ev_inst.proofs.Collected.{candidate_more}
use Rattle.ev_inst.proofs.guarding.add_prop.Goals as goal

pub bindings-preserved : goal.bindings-preserved
bindings-preserved c =
    candidate_more c.args.topo.now c.args.index.now.nodes.now (view_prop c.args.prop.now)
    c.args.candidates.now.bindings c.as_slice-bindings.result.now c.as_slice-bindings.ensures
    c.bindings.at c.index-bindings-at.result c.as_slice.result.now c.bindings-test.true
    c.index-bindings-at.is c.as_slice.ensures c.args.all.now c.bindings.all
    c.add_candidate.new.all c.bindings.invariant c.in_ok-add_candidate.ensures
