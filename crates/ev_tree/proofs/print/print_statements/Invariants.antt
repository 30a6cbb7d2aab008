use Rattle.std.proofs.Common.{◌≡◌, ◌++◌, take, map, codes}
use Rattle.ev_tree.specs.Printing.{file_tokens}
use Rattle.ev_tree.specs.Rule.{view_statement}
use Rattle.ev_tree.specs.Text.{text_of}
use Rattle.ev_tree.proofs.print.print_statements.Given as goal

-- the text of what the loop has passed stands behind what stood there
abbrev pub invariant-loop-statement : goal.invariant-loop-statement
invariant-loop-statement l =
    l.out.items ≡ l.initial.out.items
    ++ text_of (file_tokens (map view_statement (take l.statement-index l.statements)))
