use Rattle.std.proofs.Common.{sym, ◌∙◌}
use Rattle.dx_rules.proofs.Indexing.{report_put}
use Rattle.dx_rules.proofs.report_index.put_report.Goals as goal

pub returns : goal.returns
returns c =
    report_put c.args.numbers.now c.insert.new.self c.args.node.now c.args.number
    c.in_ok-copy.field-0 c.in_ok-copy-2.field-0 c.in_ok-copy.ensures c.in_ok-copy-2.ensures
    (sym c.is_report.ensures ∙ c.if-not-is_report.false) c.in_ok-insert.ensures.updates
