use Rattle.std.proofs.Common.{◌+◌, length, ap}
use Rattle.fm_answers.proofs.Tallies.{turned_same, turned_ready}
use Rattle.fm_answers.proofs.tally.Tally.turn.Goals as goal

pub returns-clause-same : goal.returns-clause-same
returns-clause-same c =
    turned_same c.args.self.now _ c.drain.new.self c.requires c.drain.ensures.worked
    c.in_ok-drain.ensures.done c.in_ok-next.ensures.next
    (ap (λ rs. c.args.self.now.spoken + length rs) c.spoken.ensures)

pub returns-clause-ready : goal.returns-clause-ready
returns-clause-ready c =
    turned_ready c.args.self.now _ c.drain.new.self c.requires c.drain.ensures.worked
    c.in_ok-drain.ensures.done c.in_ok-next.ensures.next
    (ap (λ rs. c.args.self.now.spoken + length rs) c.spoken.ensures) c.in_ok-next.ensures.ready
