use Rattle.std.proofs.Common.{◌+◌, codes, take}
use Rattle.ev_tree.specs.Printing.{behind, name_tokens}
use Rattle.ev_tree.proofs.Texts.{text_step, behind_more}
use Rattle.ev_tree.proofs.print_parts.print_names.Goals as goal

pub loop-other-preserved : goal.loop-other-preserved
loop-other-preserved c =
    text_step c.put_name.new.out.items c.loop-other.out.items c.put.new.out.items
    c.put_name-in-loop-other.new.out.items (codes "/")
    (behind (codes "/") name_tokens (take c.loop-other.other-index c.in-Some.others.now))
    (behind (codes "/") name_tokens (take (c.loop-other.other-index + 1) c.in-Some.others.now))
    (name_tokens c.other-item.result)
    (behind_more (codes "/") name_tokens c.in-Some.others.now c.loop-other.other-index
    c.other-item.result c.loop-other-test.true c.other-item.is)
    c.loop-other.invariant c.in_ok-put.ensures c.in_ok-put_name-2.ensures
