use Rattle.std.proofs.Common.{◌∙◌, ap, refl, sym, inl}
use denote.Param.Object.{read_made}
use Rattle.fm_core.specs.Meaning.{Meaning, State, Counting}
use Rattle.fm_core.specs.Counter.{CounterOf, counter_meaning}
use Rattle.test_core.proofs.trials.works_a_boxed_object.OwnLists.{own-1}
use Rattle.test_core.proofs.trials.works_a_boxed_object.Goals as goal

pub core_of_one-requires-clause-own : goal.core_of_one-requires-clause-own
core_of_one-requires-clause-own g c =
    ap (λ (m : Meaning). m.own)
    (c.new-5.ensures.meaning
    ∙ read_made own-1 (own-1.entry (inl tt)) (inl tt) refl Meaning (λ j y. j.1.meaning y)
    c.into_dyn_box.result.vtable c.into_dyn_box.result.value c.in_ok-new.field-0.value
    c.into_dyn_box.ensures.1)
    ∙ ap (λ (x : CounterOf). (counter_meaning x.number).own)
    (c.in_ok-new.ensures.ok ∙ c.new.ensures)

pub core_of_one-requires-clause-meanings : goal.core_of_one-requires-clause-meanings
core_of_one-requires-clause-meanings g c =
    c.new-5.ensures.meaning
    ∙ read_made own-1 (own-1.entry (inl tt)) (inl tt) refl Meaning (λ j y. j.1.meaning y)
    c.into_dyn_box.result.vtable c.into_dyn_box.result.value c.in_ok-new.field-0.value
    c.into_dyn_box.ensures.1
    ∙ ap (λ (x : CounterOf). counter_meaning x.number) (c.in_ok-new.ensures.ok ∙ c.new.ensures
    ∙ sym c.new-3.ensures ∙ sym c.in_ok-new-2.ensures.ok)
    ∙ sym (read_made own-1 (own-1.entry (inl tt)) (inl tt) refl Meaning (λ j y. j.1.meaning y)
    c.into_dyn_box-in_ok-new-2.result.vtable c.into_dyn_box-in_ok-new-2.result.value
    c.in_ok-new-2.field-0.value c.into_dyn_box-in_ok-new-2.ensures.1)
    ∙ sym c.new-6.ensures.meaning

pub core_of_one-requires-clause-states : goal.core_of_one-requires-clause-states
core_of_one-requires-clause-states g c =
    c.new-5.ensures.state
    ∙ read_made own-1 (own-1.entry (inl tt)) (inl tt) refl State (λ j y. j.1.state y)
    c.into_dyn_box.result.vtable c.into_dyn_box.result.value c.in_ok-new.field-0.value
    c.into_dyn_box.ensures.1
    ∙ ap (λ (x : CounterOf). Counting x.counts) (c.in_ok-new.ensures.ok ∙ c.new.ensures
    ∙ sym c.new-3.ensures ∙ sym c.in_ok-new-2.ensures.ok)
    ∙ sym (read_made own-1 (own-1.entry (inl tt)) (inl tt) refl State (λ j y. j.1.state y)
    c.into_dyn_box-in_ok-new-2.result.vtable c.into_dyn_box-in_ok-new-2.result.value
    c.in_ok-new-2.field-0.value c.into_dyn_box-in_ok-new-2.ensures.1)
    ∙ sym c.new-6.ensures.state
