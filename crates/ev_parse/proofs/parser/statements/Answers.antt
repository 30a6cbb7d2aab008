use Rattle.std.proofs.Common.{◌≡◌, ◌<◌, ◌+◌, ◌-◌, length, ◌∙◌, ap, arith}
use Rattle.std.proofs.lemmas.Bool.Decides.{nat_tests}
use Rattle.std.proofs.lemmas.Result.{err_from_is_err_and}
use Rattle.ev_parse.specs.Fault.{place_from}
use Rattle.ev_parse.specs.Reading.{statement_at}
use Rattle.ev_parse.specs.Toks.{toks}
use Rattle.ev_parse.proofs.Loops.{fails_through}
use Rattle.ev_parse.proofs.Walked.{walked_start, walked_more, walked_fails, walked_over}
use Rattle.ev_parse.proofs.Walked.{walked_less, some_left, take_rest}
use Rattle.ev_parse.proofs.parser.statements.Goals as goal

pub more-init : goal.more-init
more-init c = rw c.new-items.ensures.items (walked_start c.args.text.now c.args.tokens.now)

pub returns-in_err-next-clause-gives : goal.returns-in_err-next-clause-gives
returns-in_err-next-clause-gives c =
    let some : 0 < length c.more.rest.now = grind (arith, nat_tests) in
    let opened = some_left c.args.text.now c.more.rest.now some in
    let p = err_from_is_err_and c.from_residual.result c.from_residual.ensures.1 in
    rw (p.1, p.2)
    (fails_through c.args.text.now c.in_err-next.field-0.0
    (statement_at (toks c.args.text.now c.more.rest.now)) _ c.in_err-next.ensures.gives
    (λ rest f. walked_fails c.args.text.now c.args.tokens.now c.more.items.items c.more.rest.now
    rest c.more.invariant opened f))

pub more-smaller : goal.more-smaller
more-smaller c = walked_less c.args.text.now c.more.rest.now c.in_ok-next.next
    c.in_ok-next.after.now c.in_ok-next.ensures.gives

pub more-preserved : goal.more-preserved
more-preserved c =
    let some : 0 < length c.more.rest.now = grind (arith, nat_tests) in
    let opened = some_left c.args.text.now c.more.rest.now some in
    let number = length c.args.tokens.now - length c.more.rest.now in
    let count : number + length c.more.rest.now ≡ length c.args.tokens.now =
    omega (arith, c.more.invariant.count) in
    rw c.in_ok-push.ensures.items
    (walked_more c.args.text.now c.args.tokens.now c.more.items.items c.more.rest.now
    c.in_ok-next.next c.in_ok-next.after.now number
    c.more.invariant opened c.in_ok-next.ensures.gives count (c.in_ok-next.ensures.placed
    ∙ c.place_of-place.ensures
    ∙ ap (place_from (length c.args.text.now)) (take_rest number c.args.tokens.now)))

pub returns-clause-gives : goal.returns-clause-gives
returns-clause-gives c =
    let none : length c.more.rest.now ≡ 0 = grind (arith, nat_tests) in
    rw c.new.ensures (walked_over c.args.text.now c.args.tokens.now c.more.items.items
    c.more.rest.now c.more.invariant none)
