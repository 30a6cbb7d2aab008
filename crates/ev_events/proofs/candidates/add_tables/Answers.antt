-- One table more is that of one pattern more.
use Rattle.std.proofs.Common.{List, sym, subst}
use Rattle.ev_tree.specs.Pattern.{view_pattern}
use Rattle.ev_tree.specs.declared.tree.Part.{Part}
use Rattle.ev_events.specs.Names.{Knows}
use Rattle.ev_events.specs.Sheets.{IsTableOf}
use Rattle.ev_events.proofs.Joining.{pattern_there, tables_step}
use Rattle.ev_events.proofs.candidates.add_tables.Goals as goal

pub table_of-requires-clause-names : goal.table_of-requires-clause-names
table_of-requires-clause-names c =
    subst (Knows c.args.names.now) (sym c.as_slice.ensures)
    (c.requires.names c.loop-pattern.pattern-index (view_pattern c.pattern-item.result)
    (pattern_there c.args.patterns.now c.loop-pattern.pattern-index c.pattern-item.result
    c.pattern-item.result c.loop-pattern-test.true c.pattern-item.is))

pub loop-pattern-preserved : goal.loop-pattern-preserved
loop-pattern-preserved c =
    λ qs h.
    tables_step c.args.topo.now c.args.names.now qs c.args.patterns.now
    c.loop-pattern.pattern-index c.pattern-item.result c.pattern-item.result
    c.loop-pattern.tables.items c.push.new.self.items c.in_ok-table.table
    c.loop-pattern-test.true c.pattern-item.is (c.loop-pattern.invariant qs h)
    (subst (λ (ps : List Part). IsTableOf c.args.topo.now c.args.names.now ps c.in_ok-table.table)
    c.as_slice.ensures c.in_ok-table.ensures)
    c.in_ok-push.ensures.items
