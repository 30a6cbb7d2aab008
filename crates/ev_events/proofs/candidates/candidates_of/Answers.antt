-- The candidates of the tables are those of the propagation.
use Rattle.std.proofs.Common.{◌≡◌, ℕ, List, length, sym, ap, ◌∙◌, subst}
use Rattle.ev_check.specs.CheckedFile.{view_prop}
use Rattle.ev_join.specs.declared.join_fault.JoinFault.TheVariants.{Links}
use Rattle.ev_events.specs.Names.{KnowSides}
use Rattle.ev_events.specs.Bindings.{patterns_of}
use Rattle.ev_events.specs.Sheets.{AreTablesOf}
use Rattle.ev_events.proofs.Joining.{answer_all, answer_left, answer_many}
use Rattle.ev_events.proofs.Known.{know_sides}
use Rattle.ev_events.proofs.candidates.candidates_of.Goals as goal

pub tables_of-requires-clause-names : goal.tables_of-requires-clause-names
tables_of-requires-clause-names c =
    subst (λ (vs : List (List ℕ)). KnowSides vs (view_prop c.args.prop.now))
    (sym c.in_ok-names.ensures) (know_sides (view_prop c.args.prop.now))

pub returns-in-Ok-clause-all : goal.returns-in-Ok-clause-all
returns-in-Ok-clause-all c =
    let l = view_prop c.args.prop.now in
    let tables = subst (AreTablesOf c.args.topo.now _ (patterns_of l)) (sym c.deref-2.ensures.value)
    (subst (λ (vs : List (List ℕ)). AreTablesOf c.args.topo.now vs (patterns_of l)
    c.in_ok-tables.tables.items) c.in_ok-names.ensures c.in_ok-tables.ensures) in
    answer_all c.args.topo.now l c.deref-2.result.now c.len-2.result c.args.limit tables
    (c.len-2.ensures ∙ ap length c.in_ok-names.ensures) c.in-Ok.field-0.bindings
    (λ none. (c.in-Ok.ensures.none none).0) c.in-Ok.ensures.all

pub returns-in-Ok-clause-left : goal.returns-in-Ok-clause-left
returns-in-Ok-clause-left c =
    let l = view_prop c.args.prop.now in
    let tables = subst (AreTablesOf c.args.topo.now _ (patterns_of l)) (sym c.deref-2.ensures.value)
    (subst (λ (vs : List (List ℕ)). AreTablesOf c.args.topo.now vs (patterns_of l)
    c.in_ok-tables.tables.items) c.in_ok-names.ensures c.in_ok-tables.ensures) in
    answer_left c.args.topo.now l c.deref-2.result.now c.len-2.result c.args.limit tables
    (c.len-2.ensures ∙ ap length c.in_ok-names.ensures) c.in-Ok.field-0.bindings
    c.in-Ok.field-0.left c.in-Ok.ensures.none c.in-Ok.ensures.all c.in-Ok.ensures.left

pub returns-in-Err-clause-many : goal.returns-in-Err-clause-many
returns-in-Err-clause-many c =
    let l = view_prop c.args.prop.now in
    let tables = subst (AreTablesOf c.args.topo.now _ (patterns_of l)) (sym c.deref-2.ensures.value)
    (subst (λ (vs : List (List ℕ)). AreTablesOf c.args.topo.now vs (patterns_of l)
    c.in_ok-tables.tables.items) c.in_ok-names.ensures c.in_ok-tables.ensures) in
    answer_many c.args.topo.now l c.deref-2.result.now c.len-2.result c.args.limit tables
    (c.len-2.ensures ∙ ap length c.in_ok-names.ensures) (c.in-Err.fault ≡ Links)
    c.in-Err.ensures.one c.in-Err.ensures.many
