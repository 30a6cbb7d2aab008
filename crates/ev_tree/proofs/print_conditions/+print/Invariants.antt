use Rattle.std.proofs.Common.{◌≡◌, ◌++◌, take, map}
use Rattle.ev_tree.specs.Condition.{conditions, view_cond}
use Rattle.ev_tree.specs.Printing.{others}
use Rattle.ev_tree.specs.Text.{text_of}
use Rattle.ev_tree.proofs.print_conditions.+print.Given as goal

-- the text of what the loop has passed stands behind what stood there
abbrev pub invariant-print_row-loop-other : goal.invariant-print_row-loop-other
invariant-print_row-loop-other l =
    l.out.items ≡ l.initial.out.items
    ++ text_of (others l.sign l.level
    (conditions (map view_cond (take l.other-index l.others))))
