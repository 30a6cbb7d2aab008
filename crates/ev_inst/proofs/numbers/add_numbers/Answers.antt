-- The number of one path more.
use Rattle.std.proofs.Common.{ℕ, List, length, length-append, ap, arith}
use Rattle.ev_inst.proofs.Numbering.{numbers_added}
use Rattle.ev_inst.proofs.numbers.add_numbers.Goals as goal

pub ats-preserved : goal.ats-preserved
ats-preserved c =
    let long = ap (λ (xs : List ℕ). length xs) c.in_ok-push.ensures.items in (
      numbers_added c.args.topo.now c.args.index.now.nodes.now c.requires.order c.args.class.now
          c.args.ats.now
          c.ats.at-index c.node_number.result c.path.result.now c.args.found.now.items
          c.ats.found.items c.push.new.self.items c.ats-test.true c.path.ensures.path
          c.node_number.ensures c.ats.invariant.0 c.in_ok-push.ensures.items,
      omega (arith, long, c.ats.invariant.1, length-append {A = ℕ}),
    )
