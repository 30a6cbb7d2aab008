use Rattle.std.proofs.Common.{sym, ◌∙◌, ap, ◌++◌, option_to_list, slice_get, slice_index}
use Rattle.std.proofs.lemmas.List.{get_or_default}
use Rattle.ev_check.proofs.Drawings.{given_more}
use Rattle.ev_check.proofs.cycles.named.Goals as goal

pub loop-number-preserved : goal.loop-number-preserved
loop-number-preserved c =
    let h = slice_get c.args.events.now in
    let numbers = c.args.numbers.now in
    let n = c.loop-number.number-index in
    c.in_ok-add_named.ensures
    ∙ ap (λ y. y ++ option_to_list (h (slice_index numbers n))) c.loop-number.invariant
    ∙ sym (given_more h numbers n (slice_index numbers n) c.loop-number-test.true
    (get_or_default numbers n 0 (slice_index numbers n) c.loop-number-test.true))
