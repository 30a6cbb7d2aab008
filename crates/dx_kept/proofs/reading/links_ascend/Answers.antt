-- One pair more is in order, or the first one is out of order.
use Rattle.std.proofs.Common.{sym, ◌∙◌}
use Rattle.fm_entry.proofs.LinkOrder.{ascend_more, ascend_fails, ascend_ends}
use Rattle.dx_kept.proofs.reading.links_ascend.Goals as goal

pub returns-then-not-is_link_before : goal.returns-then-not-is_link_before
returns-then-not-is_link_before c =
    sym (c.loop-at.invariant
    ∙ ascend_fails c.args.links.now c.loop-at.at _ c.loop-at.auto.at c.loop-at-test.true
    (sym c.is_link_before.ensures ∙ c.if-not-is_link_before.true))

pub loop-at-preserved : goal.loop-at-preserved
loop-at-preserved c =
    c.loop-at.invariant
    ∙ ascend_more c.args.links.now c.loop-at.at _ c.loop-at.auto.at c.loop-at-test.true
    (sym c.is_link_before.ensures ∙ c.if-not-is_link_before.false)

pub returns : goal.returns
returns c = sym (c.loop-at.invariant
    ∙ ascend_ends c.args.links.now c.loop-at.at c.loop-at-test.false)
