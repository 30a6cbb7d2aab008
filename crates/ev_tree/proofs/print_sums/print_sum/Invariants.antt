use Rattle.std.proofs.Common.{◌≡◌, ◌++◌, take, map, codes}
use Rattle.ev_tree.specs.Printing.{behind, operand_tokens}
use Rattle.ev_tree.specs.Text.{text_of}
use Rattle.ev_tree.proofs.print_sums.print_sum.Given as goal

-- the text of what the loop has passed stands behind what stood there
abbrev pub invariant-loop-other : goal.invariant-loop-other
invariant-loop-other l =
    l.out.items ≡ l.initial.out.items
    ++ text_of (behind (codes "+") operand_tokens (take l.other-index l.others))
