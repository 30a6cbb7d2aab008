-- The candidates of the turned tables, turned back, are those of the propagation.
use Rattle.std.proofs.Common.{◌<◌, ℕ, List, map, length, sym, ap, ◌∙◌, subst}
use Rattle.ev_check.specs.CheckedFile.{view_prop}
use Rattle.ev_events.specs.Bindings.{patterns_of}
use Rattle.ev_events.specs.Names.{iterators}
use Rattle.ev_events.specs.Sheets.{AreTablesOf}
use Rattle.ev_events.specs.Turned.{instances_at, places_among, turned_names}
use Rattle.ev_events.proofs.Known.{know_alike, know_sides}
use Rattle.ev_events.proofs.Joining.{tables_many}
use Rattle.ev_events.proofs.Turning.{answer_all, answer_left, answer_many, names_alike}
use Rattle.ev_events.proofs.candidates.turned_join.Goals as goal

pub tables_of-requires-clause-names : goal.tables_of-requires-clause-names
tables_of-requires-clause-names c =
    let l = view_prop c.args.prop.now in
    let turned = c.in_ok-turned.ensures
    ∙ ap (λ (vs : List (List ℕ)). turned_names vs c.args.numbers.now) c.in_ok-names.ensures in
    know_alike l (iterators l) c.in_ok-turned.turned
    (names_alike c.args.topo.now l c.in_ok-turned.turned c.args.numbers.now turned) (know_sides l)

pub join-requires : goal.join-requires
join-requires c =
    let l = view_prop c.args.prop.now in
    let as_many = tables_many c.args.topo.now c.in_ok-turned.turned (patterns_of l)
    c.in_ok-tables.tables.items c.in_ok-tables.ensures in
    subst (λ (n : ℕ). 0 < n) (sym (ap length c.deref.ensures.value ∙ as_many)) c.requires.some

pub returns-in-Ok-clause-all : goal.returns-in-Ok-clause-all
returns-in-Ok-clause-all c =
    let l = view_prop c.args.prop.now in
    let ws = c.in_ok-turned.turned in
    let turned = c.in_ok-turned.ensures
    ∙ ap (λ (vs : List (List ℕ)). turned_names vs c.args.numbers.now) c.in_ok-names.ensures in
    let tables = subst (AreTablesOf c.args.topo.now ws (patterns_of l))
    (sym c.deref.ensures.value) c.in_ok-tables.ensures in
    let places = c.deref-in-Ok.ensures.value ∙ c.in_ok-places.ensures
    ∙ ap (places_among ws) c.in_ok-names.ensures in
    let turns = c.in_ok-found-in-Ok.ensures
    ∙ (λ i. map (instances_at (places i)) (c.as_slice.ensures i)) in
    answer_all c.args.topo.now l ws c.args.numbers.now turned c.deref.result.now tables
    c.len.result c.len.ensures c.in-Ok.field-0.bindings c.in_ok-found-in-Ok.found
    c.in_ok-bindings-in-Ok.bindings c.in-Ok.ensures.all turns c.in_ok-bindings-in-Ok.ensures

pub returns-in-Ok-clause-left : goal.returns-in-Ok-clause-left
returns-in-Ok-clause-left c =
    let l = view_prop c.args.prop.now in
    let ws = c.in_ok-turned.turned in
    let turned = c.in_ok-turned.ensures
    ∙ ap (λ (vs : List (List ℕ)). turned_names vs c.args.numbers.now) c.in_ok-names.ensures in
    let tables = subst (AreTablesOf c.args.topo.now ws (patterns_of l))
    (sym c.deref.ensures.value) c.in_ok-tables.ensures in
    let places = c.deref-in-Ok.ensures.value ∙ c.in_ok-places.ensures
    ∙ ap (places_among ws) c.in_ok-names.ensures in
    let turns = c.in_ok-found-in-Ok.ensures
    ∙ (λ i. map (instances_at (places i)) (c.as_slice.ensures i)) in
    answer_left c.args.topo.now l ws c.args.numbers.now turned c.deref.result.now tables
    c.len.result c.len.ensures c.in-Ok.field-0.bindings c.in_ok-found-in-Ok.found
    c.in_ok-bindings-in-Ok.bindings c.in-Ok.ensures.all turns c.in_ok-bindings-in-Ok.ensures
    c.in-Ok.field-0.left c.args.limit c.in-Ok.ensures.left

pub returns-clause-many : goal.returns-clause-many
returns-clause-many c =
    let l = view_prop c.args.prop.now in
    let ws = c.in_ok-turned.turned in
    let turned = c.in_ok-turned.ensures
    ∙ ap (λ (vs : List (List ℕ)). turned_names vs c.args.numbers.now) c.in_ok-names.ensures in
    let tables = subst (AreTablesOf c.args.topo.now ws (patterns_of l))
    (sym c.deref.ensures.value) c.in_ok-tables.ensures in
    λ is_links. answer_many c.args.topo.now l ws c.args.numbers.now turned c.deref.result.now
    tables c.len.result c.len.ensures c.args.limit (c.in-Err.ensures.many is_links)
