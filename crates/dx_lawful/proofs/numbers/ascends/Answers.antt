use Rattle.std.proofs.Common.{rules}
use Rattle.std.proofs.lemmas.List.Sorted.{answers_always}
use Rattle.std.proofs.Common.{nat_lt}
use Rattle.ev_incidence.proofs.Ascending.{ascends_is}
use Rattle.dx_lawful.proofs.numbers.ascends.Goals as goal

pub returns : goal.returns
returns c =
    ascends_is nat_lt c.args.numbers.now c.is_sorted_by.result
    (c.is_sorted_by.ensures.cases nat_lt (answers_always _ _ _ (λ f a r q k. search rules)))
