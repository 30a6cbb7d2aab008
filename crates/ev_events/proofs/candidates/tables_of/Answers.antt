-- The tables of both sides.
use Rattle.std.proofs.Common.{◌≡◌, ◌++◌, List, [], sym, ap, ◌∙◌, map, subst, slice_get}
use Rattle.ev_tree.specs.Pattern.{Pattern, view_pattern}
use Rattle.ev_tree.specs.declared.tree.SidePattern.{SidePattern}
use Rattle.ev_events.specs.Sheets.{AreTablesOf}
use Rattle.ev_events.proofs.candidates.tables_of.Goals as goal

pub add_tables-requires-clause-names : goal.add_tables-requires-clause-names
add_tables-requires-clause-names c =
    λ j q at.
    c.requires.names.left j q
    (ap (λ (ps : List SidePattern). slice_get (map view_pattern ps) j) (sym c.as_slice.ensures)
    ∙ at)

pub add_tables-requires-2-clause-names : goal.add_tables-requires-2-clause-names
add_tables-requires-2-clause-names c =
    λ j q at.
    c.requires.names.right j q
    (ap (λ (ps : List SidePattern). slice_get (map view_pattern ps) j) (sym c.as_slice-2.ensures)
    ∙ at)

pub returns : goal.returns
returns c =
    let none = subst (AreTablesOf c.args.topo.now c.args.names.now [])
    (sym c.new-tables.ensures.items) tt in
    let left = c.in_ok-add_tables.ensures [] none in
    let both = c.in_ok-add_tables-2.ensures (map view_pattern c.as_slice.result.now) left in
    let sides : map view_pattern c.as_slice.result.now ++ map view_pattern c.as_slice-2.result.now
    ≡ map view_pattern c.args.prop.now.left ++ map view_pattern c.args.prop.now.right =
    λ i. map view_pattern (c.as_slice.ensures i) ++ map view_pattern (c.as_slice-2.ensures i) in
    subst (λ (qs : List Pattern). AreTablesOf c.args.topo.now c.args.names.now qs
    c.add_tables-2.new.tables.items) sides both
