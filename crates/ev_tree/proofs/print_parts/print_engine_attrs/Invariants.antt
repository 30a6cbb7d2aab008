use Rattle.std.proofs.Common.{◌≡◌, ◌++◌, take, map, codes}
use Rattle.ev_tree.specs.Printing.{behind, engine_attr_tokens}
use Rattle.ev_tree.specs.Text.{text_of}
use Rattle.ev_tree.proofs.print_parts.print_engine_attrs.Given as goal

-- the text of what the loop has passed stands behind what stood there
abbrev pub invariant-loop-other : goal.invariant-loop-other
invariant-loop-other l =
    l.out.items ≡ l.initial.out.items
    ++ text_of (behind (codes ",") engine_attr_tokens (take l.other-index l.attrs))
