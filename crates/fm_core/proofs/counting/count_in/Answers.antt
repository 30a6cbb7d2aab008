use Rattle.std.proofs.Common.{◌+◌, ◌<◌, ◌≤◌, ◌^◌, rules, length, refl, true, false, ◌∙◌, sym, ap}
use Rattle.std.proofs.Common.{subst}
use Rattle.std.specs.Prelude.{insert}
use Rattle.fm_core.proofs.Tallies.{place_le, one_more_fits, counted_there, counted_new}
use Rattle.fm_core.proofs.Tallies.{standing_within, there_from, none_from}
use Rattle.fm_core.proofs.counting.count_in.Goals as goal

pub overflow_add-own : goal.overflow_add-own
overflow_add-own c =
    let tested = there_from c.args.class.now c.args.counts.now.items c.in-Ok.at
    (sym c.in-Ok.is ∙ c.requires.place) in
    let fits : c.index_mut-own.result.now.count + 1 < 2 ^ 64 =
    one_more_fits c.args.counts.now.items c.in-Ok.at c.index_mut-own.result.now
    (standing_within c.args.class.now c.args.counts.now.items c.in-Ok.at true tested.1 refl)
    c.index_mut-own.ensures.value c.requires.fits in
    search rules

pub insert-requires : goal.insert-requires
insert-requires c =
    let tested = none_from c.args.class.now c.args.counts.now.items c.in-Err.at
    (sym c.in-Err.is ∙ c.requires.place) in
    subst (λ n. c.in-Err.at ≤ n) (sym c.args.counts.now.ok.0)
    (subst (λ p. p ≤ length c.args.counts.now.items) (sym tested.0)
    (place_le c.args.class.now c.args.counts.now.items))

pub returns-in-Ok-clause-ok : goal.returns-in-Ok-clause-ok
returns-in-Ok-clause-ok c =
    let tested = there_from c.args.class.now c.args.counts.now.items c.in-Ok.at
    (sym c.in-Ok.is ∙ c.requires.place) in
    counted_there c.args.class.now c.args.counts.now.items c.in-Ok.at c.index_mut-own.result.now
    true tested.0
    (standing_within c.args.class.now c.args.counts.now.items c.in-Ok.at true tested.1 refl)
    c.index_mut-own.ensures.value tested.1 refl

pub returns-in_ok-insert-in-Err-clause-ok : goal.returns-in_ok-insert-in-Err-clause-ok
returns-in_ok-insert-in-Err-clause-ok c =
    let tested = none_from c.args.class.now c.args.counts.now.items c.in-Err.at
    (sym c.in-Err.is ∙ c.requires.place) in
    c.in_ok-insert-in-Err.ensures.items
    ∙ ap (λ class. insert c.args.counts.now.items c.in-Err.at (record { class = class; count = 1 }))
    c.in_ok-class-in-Err.ensures
    ∙ counted_new c.args.class.now c.args.counts.now.items c.in-Err.at false tested.0 tested.1 refl
