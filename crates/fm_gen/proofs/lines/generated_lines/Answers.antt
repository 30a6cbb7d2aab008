use Rattle.std.proofs.Common.{rules}
use Rattle.fm_gen.proofs.Printed.{printed_all, printed_next}
use Rattle.fm_gen.proofs.lines.generated_lines.Goals as goal

pub entries-preserved : goal.entries-preserved
entries-preserved c =
    printed_next c.in_ok-entry.field-0 c.in-Some.entry c.entries.entries c.next.new.self
    c.args.entries c.entries.text.items c.put_line.new.out.items (search rules)
    c.in_ok-entry.ensures.ok c.in_ok-put_line-in-Some.ensures c.entries.invariant

pub returns-in-None : goal.returns-in-None
returns-in-None c =
    printed_all c.in_ok-entry.field-0 c.entries.entries c.args.entries c.entries.text.items
    (search rules) c.in_ok-entry.ensures.end c.entries.invariant
