use Rattle.std.proofs.Common.{rules}
use Rattle.std.specs.Ordering.{is_lt}
use Rattle.std.proofs.lemmas.List.Sorted.{answers_always}
use Rattle.fm_name.specs.Events.{event_cmp}
use Rattle.ev_incidence.proofs.Ascending.{ascends_is}
use Rattle.dx_lawful.proofs.words.events_ascend.Goals as goal

pub returns : goal.returns
returns c =
    ascends_is (λ a b. is_lt (event_cmp a b)) c.args.events.now c.is_sorted_by.result
    (c.is_sorted_by.ensures.cases (λ a b. is_lt (event_cmp a b))
    (answers_always _ _ _ (λ f a r q k. search rules)))
