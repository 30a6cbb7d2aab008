use Rattle.std.proofs.Common.{codes, ◌∷◌, [], map}
use Rattle.std.proofs.lemmas.Result.{err_from_is_err_and}
use Rattle.std.proofs.lemmas.List.{map-append}
use Rattle.ev_tree.specs.Condition.{view_cond}
use Rattle.ev_parse.proofs.GrammarLaws.{unary_law, both_law}
use Rattle.ev_parse.proofs.Loops.{loop_fails, loop_shorter, loop_grows, loop_ends}
use Rattle.ev_parse.proofs.conditions.+condition.Goals as goal

pub more_all-returns-in_err-next : goal.more_all-returns-in_err-next
more_all-returns-in_err-next t c =
    let p = err_from_is_err_and c.from_residual-in_err-next.result
    c.from_residual-in_err-next.ensures.1 in
    rw (p.1, p.2)
    (loop_fails (codes "&&") (unary_law c.args.depth) c.args.text.now
    (map view_cond c.more.items.items) c.more.rest.now _ _ c.next_is.ensures c.more.invariant
    c.more-test.true
    c.in_err-next.field-0.0 c.in_err-next.ensures)

pub more_all-more-smaller : goal.more_all-more-smaller
more_all-more-smaller t c =
    loop_shorter (codes "&&") (unary_law c.args.depth) c.args.text.now c.more.rest.now
    c.in_ok-next.after.now
    (view_cond c.in_ok-next.next) c.in_ok-next.ensures

pub more_all-more-preserved : goal.more_all-more-preserved
more_all-more-preserved t c =
    rw (
      c.in_ok-push.ensures.items,
      map-append view_cond c.more.items.items (c.in_ok-next.next ∷ []),
    )
    (loop_grows (codes "&&") (unary_law c.args.depth) c.args.text.now
    (map view_cond c.more.items.items) c.more.rest.now _ _ c.next_is.ensures c.more.invariant
    c.more-test.true
    (view_cond c.in_ok-next.next) c.in_ok-next.after.now c.in_ok-next.ensures)

pub more_all-returns : goal.more_all-returns
more_all-returns t c =
    (loop_ends (codes "&&") (unary_law c.args.depth) c.args.text.now
    (map view_cond c.more.items.items) c.more.rest.now _ _ c.next_is.ensures c.more.invariant
    c.more-test.false)

pub more_any-returns-in_err-next : goal.more_any-returns-in_err-next
more_any-returns-in_err-next t c =
    let p = err_from_is_err_and c.from_residual-in_err-next.result
    c.from_residual-in_err-next.ensures.1 in
    rw (p.1, p.2)
    (loop_fails (codes "||") (both_law (unary_law c.args.depth)) c.args.text.now
    (map view_cond c.more.items.items) c.more.rest.now _ _ c.next_is.ensures c.more.invariant
    c.more-test.true
    c.in_err-next.field-0.0 c.in_err-next.ensures)

pub more_any-more-smaller : goal.more_any-more-smaller
more_any-more-smaller t c =
    loop_shorter (codes "||") (both_law (unary_law c.args.depth)) c.args.text.now c.more.rest.now
    c.in_ok-next.after.now
    (view_cond c.in_ok-next.next) c.in_ok-next.ensures

pub more_any-more-preserved : goal.more_any-more-preserved
more_any-more-preserved t c =
    rw (
      c.in_ok-push.ensures.items,
      map-append view_cond c.more.items.items (c.in_ok-next.next ∷ []),
    )
    (loop_grows (codes "||") (both_law (unary_law c.args.depth)) c.args.text.now
    (map view_cond c.more.items.items) c.more.rest.now _ _ c.next_is.ensures c.more.invariant
    c.more-test.true
    (view_cond c.in_ok-next.next) c.in_ok-next.after.now c.in_ok-next.ensures)

pub more_any-returns : goal.more_any-returns
more_any-returns t c =
    (loop_ends (codes "||") (both_law (unary_law c.args.depth)) c.args.text.now
    (map view_cond c.more.items.items) c.more.rest.now _ _ c.next_is.ensures c.more.invariant
    c.more-test.false)
