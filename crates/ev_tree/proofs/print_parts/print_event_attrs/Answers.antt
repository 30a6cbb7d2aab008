use Rattle.std.proofs.Common.{◌+◌, codes, take}
use Rattle.ev_tree.specs.Printing.{behind, event_attr_tokens}
use Rattle.ev_tree.proofs.Texts.{text_step, behind_more}
use Rattle.ev_tree.proofs.print_parts.print_event_attrs.Goals as goal

pub loop-other-preserved : goal.loop-other-preserved
loop-other-preserved c =
    text_step c.args.out.now.items c.loop-other.out.items c.put.new.out.items
    c.print_event_attr.new.out.items (codes ",")
    (behind (codes ",") event_attr_tokens (take c.loop-other.other-index c.args.attrs.now))
    (behind (codes ",") event_attr_tokens (take (c.loop-other.other-index + 1) c.args.attrs.now))
    (event_attr_tokens c.other-item.result)
    (behind_more (codes ",") event_attr_tokens c.args.attrs.now c.loop-other.other-index
    c.other-item.result c.loop-other-test.true c.other-item.is)
    c.loop-other.invariant c.in_ok-put.ensures c.in_ok-print_event_attr.ensures
