-- One node more.
use Rattle.ev_inst.proofs.Collected.{bare_step}
use Rattle.ev_inst.proofs.guarding.bare_nodes.Goals as goal

pub nodes-preserved : goal.nodes-preserved
nodes-preserved c =
    bare_step c.args.nodes.now c.nodes.node-index c.node-item.result c.nodes-test.true
    c.node-item.is c.nodes.bare.items c.push.new.self.items
    (record { path = c.in_ok-path.path; guards = c.new-guards.result }) c.nodes.invariant
    c.in_ok-path.ensures c.new-guards.ensures.items c.in_ok-push.ensures.items
