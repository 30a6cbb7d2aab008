-- The table of the rows of the paths that have the names.
use Rattle.std.proofs.Common.{sym, ap, ◌∙◌, map, subst, filter_map}
use Rattle.ev_join.specs.Tables.{RisesFrom}
use Rattle.ev_events.specs.Sheets.{path_row}
use Rattle.ev_events.proofs.Columns.{number_in, columns_rise}
use Rattle.ev_events.proofs.Grouped.{table_is}
use Rattle.ev_events.proofs.sheets.table_of.Goals as goal

pub new-requires : goal.new-requires
new-requires c =
    subst (RisesFrom 0)
    (sym (c.in_ok-numbers.ensures
    ∙ ap (map number_in) (c.deref.ensures.value ∙ c.in_ok-columns.ensures)))
    (columns_rise c.args.names.now c.args.parts.now)

pub returns : goal.returns
returns c =
    table_is c.args.topo.now c.args.names.now c.args.parts.now c.in_ok-text.text
    c.in_ok-table.table c.in_ok-rows.rows.items c.requires.names c.in_ok-text.ensures
    (c.in_ok-table.ensures.columns ∙ c.in_ok-numbers.ensures
    ∙ ap (map number_in) (c.deref.ensures.value ∙ c.in_ok-columns.ensures))
    (c.in_ok-rows.ensures
    ∙ (λ i. filter_map (path_row c.args.topo.now (c.in_ok-slots.ensures i)
    (c.in_ok-columns.ensures i) c.args.parts.now)
    ((c.numbers.ensures ∙ c.requires.groups c.in_ok-text.text) i)))
    c.in_ok-table.ensures.rows
