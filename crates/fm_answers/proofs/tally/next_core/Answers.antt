use Rattle.std.proofs.Common.{map, ap, sym, ◌∙◌}
use Rattle.fm_answers.specs.Draining.{moved_to}
use Rattle.fm_answers.proofs.Tallies.{moved_fresh, next_of, shown_same}
use Rattle.fm_answers.proofs.tally.next_core.Goals as goal

pub new-requires-clause-fresh : goal.new-requires-clause-fresh
new-requires-clause-fresh c k =
    moved_fresh c.args.core.now c.len.result c.in_ok-hands.hands.items c.requires.ready
    (c.in_ok-hands.ensures.ok
    ∙ ap (λ n. map (moved_to n) c.args.core.now.hands) (sym c.len.ensures))

pub new-requires-clause-equal : goal.new-requires-clause-equal
new-requires-clause-equal c k = shown_same (c.in_ok-hands.ensures.ok ∙ sym c.in_ok-kept.ensures.ok)

pub returns-clause-next : goal.returns-clause-next
returns-clause-next c =
    next_of c.args.core.now c.in_ok-new.field-0 c.len.result c.in_ok-kept.kept.items
    c.in_ok-hands.hands.items
    c.len.ensures c.in_ok-kept.ensures.ok c.in_ok-hands.ensures.ok c.in_ok-new.ensures.made
