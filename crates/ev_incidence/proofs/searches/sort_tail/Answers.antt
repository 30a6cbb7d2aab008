use Rattle.ev_incidence.proofs.SortedTail.{tail_sorted}
use Rattle.ev_incidence.proofs.searches.sort_tail.Goals as goal

pub returns : goal.returns
returns c =
    tail_sorted c.args.at c.args.numbers.now c.split_at_mut-tail.result.0.now
    c.split_at_mut-tail.result.1.now c.sort_unstable.new.self c.split_at_mut-tail.ensures.value
    c.split_at_mut-tail.ensures.front_len c.sort_unstable.ensures.len
    c.sort_unstable.ensures.permutation
