use Rattle.std.proofs.Common.{◌+◌, take, map}
use Rattle.ev_tree.specs.Printing.{file_tokens, rule_tokens}
use Rattle.ev_tree.specs.Rule.{view_statement}
use Rattle.ev_tree.proofs.Texts.{text_two, file_more}
use Rattle.ev_tree.proofs.print.print_statements.Goals as goal

pub loop-statement-preserved : goal.loop-statement-preserved
loop-statement-preserved c =
    text_two c.args.out.now.items c.loop-statement.out.items c.print_statement.new.out.items
    (file_tokens (map view_statement (take c.loop-statement.statement-index c.args.statements.now)))
    (rule_tokens (view_statement c.statement-item.result))
    (file_tokens (map view_statement
    (take (c.loop-statement.statement-index + 1) c.args.statements.now)))
    (file_more view_statement c.args.statements.now c.loop-statement.statement-index
    c.statement-item.result c.loop-statement-test.true c.statement-item.is)
    c.loop-statement.invariant c.in_ok-print_statement.ensures
