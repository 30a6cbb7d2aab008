use Rattle.std.proofs.Common.{◌≡◌, ◌+◌, ◌∷◌, ◌∙◌, sym, codes, take, map, length, arith}
use Rattle.std.proofs.lemmas.Result.{on_ok_weaker}
use Rattle.ev_tree.specs.Condition.{conditions, view_cond}
use Rattle.ev_tree.specs.Printing.{others, row, show, wraps_any, wraps_all}
use Rattle.ev_tree.specs.declared.print_conditions.Level.TheVariants.{InAny, InAll}
use Rattle.ev_tree.proofs.Texts.{text_turn, text_wrapped, others_more, row_done}
use Rattle.ev_tree.proofs.print_conditions.+print.Goals as goal

pub print_row-loop-other-preserved : goal.print_row-loop-other-preserved
print_row-loop-other-preserved t c =
    text_turn c.print_cond.new.out.items c.loop-other.out.items c.put.new.out.items
    c.print_cond-in-loop-other.new.out.items c.args.sign.now
    (others c.args.sign.now c.args.level
    (conditions (map view_cond (take c.loop-other.other-index c.in-Some.others.now))))
    (others c.args.sign.now c.args.level
    (conditions (map view_cond (take (c.loop-other.other-index + 1) c.in-Some.others.now))))
    (show c.args.level (view_cond c.other-item.result)) c.requires
    (others_more c.args.sign.now c.args.level view_cond c.in-Some.others.now
    c.loop-other.other-index c.other-item.result c.loop-other-test.true c.other-item.is)
    c.loop-other.invariant c.in_ok-put.ensures c.in_ok-print_cond-2.ensures

pub print_row-returns : goal.print_row-returns
print_row-returns t c =
    let whole : c.loop-other.other-index ≡ length c.in-Some.others.now = omega arith in
    let parts : c.args.conds.now ≡ c.in-Some.first.now ∷ c.in-Some.others.now =
    c.in-Some.ensures.cases.0 in
    row_done c.args.sign.now c.args.level view_cond c.args.out.now.items c.print_cond.new.out.items
    c.loop-other.out.items c.in-Some.first.now c.in-Some.others.now c.args.conds.now
    c.loop-other.other-index parts whole c.in_ok-print_cond.ensures c.loop-other.invariant

pub print_any-returns-in_ok-print_row : goal.print_any-returns-in_ok-print_row
print_any-returns-in_ok-print_row t c =
    on_ok_weaker c.put-then-wraps_any.result
    (λ e. text_wrapped c.args.out.now.items c.put.new.out.items c.print_row.new.out.items
    c.put-then-wraps_any.new.out.items
    (row (codes "||") InAny (conditions (map view_cond c.args.members.now)))
    (wraps_any c.args.level)
    (sym c.wraps_any.ensures ∙ c.if-wraps_any.true) c.in_ok-put.ensures c.in_ok-print_row.ensures e)
    c.put-then-wraps_any.ensures

pub print_all-returns-in_ok-print_row : goal.print_all-returns-in_ok-print_row
print_all-returns-in_ok-print_row t c =
    on_ok_weaker c.put-then-wraps_all.result
    (λ e. text_wrapped c.args.out.now.items c.put.new.out.items c.print_row.new.out.items
    c.put-then-wraps_all.new.out.items
    (row (codes "&&") InAll (conditions (map view_cond c.args.members.now)))
    (wraps_all c.args.level)
    (sym c.wraps_all.ensures ∙ c.if-wraps_all.true) c.in_ok-put.ensures c.in_ok-print_row.ensures e)
    c.put-then-wraps_all.ensures
