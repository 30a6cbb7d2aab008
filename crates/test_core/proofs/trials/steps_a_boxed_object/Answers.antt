use Rattle.std.proofs.Common.{◌∙◌, ap, refl, inl}
use denote.Param.Object.{read_made}
use Rattle.fm_core.specs.Meaning.{Meaning}
use Rattle.fm_core.specs.Counter.{CounterOf, counter_meaning}
use Rattle.test_core.proofs.trials.steps_a_boxed_object.OwnLists.{own-1}
use Rattle.test_core.proofs.trials.steps_a_boxed_object.Goals as goal

pub new-hand-requires-after_bounds : goal.new-hand-requires-after_bounds
new-hand-requires-after_bounds g c = λ alive.
    ap (λ (m : Meaning). m.own)
    (c.new-3.ensures.meaning
    ∙ read_made own-1 (own-1.entry (inl tt)) (inl tt) refl Meaning (λ j y. j.1.meaning y)
    c.into_dyn_box.result.vtable c.into_dyn_box.result.value c.in_ok-new.field-0.value
    c.into_dyn_box.ensures.1)
    ∙ ap (λ (x : CounterOf). (counter_meaning x.number).own)
    (c.in_ok-new.ensures.ok ∙ c.new.ensures)
