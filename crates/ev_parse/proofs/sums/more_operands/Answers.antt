use Rattle.std.proofs.Common.{codes}
use Rattle.std.proofs.lemmas.Result.{err_from_is_err_and}
use Rattle.ev_parse.proofs.GrammarLaws.{operand_law}
use Rattle.ev_parse.proofs.Loops.{loop_fails, loop_shorter, loop_grows, loop_ends}
use Rattle.ev_parse.proofs.sums.more_operands.Goals as goal

pub returns-in_err-next : goal.returns-in_err-next
returns-in_err-next c =
    let p = err_from_is_err_and c.from_residual-in_err-next.result
    c.from_residual-in_err-next.ensures.1 in
    rw (p.1, p.2)
    (loop_fails (codes "+") operand_law c.args.text.now c.more.items.items c.more.rest.now _ _
    c.next_is.ensures c.more.invariant c.more-test.true
    c.in_err-next.field-0.0 c.in_err-next.ensures)

pub more-smaller : goal.more-smaller
more-smaller c =
    loop_shorter (codes "+") operand_law c.args.text.now c.more.rest.now c.in_ok-next.after.now
    c.in_ok-next.next c.in_ok-next.ensures

pub more-preserved : goal.more-preserved
more-preserved c =
    rw c.in_ok-push.ensures.items
    (loop_grows (codes "+") operand_law c.args.text.now c.more.items.items c.more.rest.now _ _
    c.next_is.ensures c.more.invariant c.more-test.true
    c.in_ok-next.next c.in_ok-next.after.now c.in_ok-next.ensures)

pub returns : goal.returns
returns c =
    rw c.new.ensures (loop_ends (codes "+") operand_law c.args.text.now c.more.items.items
    c.more.rest.now _ _ c.next_is.ensures c.more.invariant c.more-test.false)
