use Rattle.std.proofs.Common.{rules, ◌∙◌}
use Rattle.std.proofs.lemmas.List.Sorted.{answers_always}
use Rattle.ev_incidence.proofs.Ascending.{ascends_is}
use Rattle.dx_lawful.proofs.Trying.{is_before_suspect, suspects_named}
use Rattle.dx_lawful.proofs.words.suspects_ascend.Goals as goal

pub returns : goal.returns
returns c =
    ascends_is is_before_suspect c.args.suspects.now c.is_sorted_by.result
    (c.is_sorted_by.ensures.cases is_before_suspect
    (answers_always _ _ _ (λ f a r q k. search rules)))
    ∙ suspects_named c.args.suspects.now
