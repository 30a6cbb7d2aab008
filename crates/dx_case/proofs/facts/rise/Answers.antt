use Rattle.std.proofs.Common.{rules}
use Rattle.std.proofs.lemmas.List.Sorted.{answers_always}
use Rattle.ev_incidence.proofs.Ascending.{ascends_is}
use Rattle.fm_entry.specs.Words.{is_link_before}
use Rattle.dx_case.proofs.facts.rise.Goals as goal

pub returns : goal.returns
returns c =
    ascends_is is_link_before c.args.links.now c.is_sorted_by.result
    (c.is_sorted_by.ensures.cases is_link_before (answers_always _ _ _ (λ f a r q k. search rules)))
