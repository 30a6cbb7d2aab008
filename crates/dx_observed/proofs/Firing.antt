-- What is reported by engines that fire is the reports of engines of the graph.
use Rattle.std.proofs.Common.{◌≡◌, ℕ, zero, suc, ◌==◌, Bool, true, false, IsTrue, List, [], ◌∷◌}
use Rattle.std.proofs.Common.{◌++◌, refl, sym, ap, Option, Some, None, slice_get, slice_set}
use Rattle.std.proofs.Common.{if◌then◌else◌, subst}
use Rattle.std.specs.Prelude.{remove}
use Rattle.std.specs.List.{All, list_all, list_any}
use Rattle.std.proofs.lemmas.Bool.{eq-eqb, or_left, or_right}
use Rattle.std.proofs.lemmas.List.Elements.{All-from_recursion}
use Rattle.fm_nv.specs.Data.{Pairs}
use Rattle.fm_name.specs.declared.events.EventName.{EventName}
use Rattle.fm_entry.specs.Entries.{moment_of}
use Rattle.fm_entry.specs.declared.entry.Entry.{Entry}
use Rattle.fm_entry.specs.declared.entry.Entry.TheVariants.{Report as ReportEntry, Tick, Repaired}
use Rattle.fm_entry.specs.declared.entry.Entry.TheVariants.{Replaced, Acquit, Reload}
use Rattle.fm_entry.specs.declared.suspect.Mark.{Mark}
use Rattle.fm_entry.specs.declared.list_event.ListKind.TheVariants.{Upset as UpsetWord}
use Rattle.fm_core.specs.Meaning.{OpenCase, Diagnosis}
use Rattle.ev_graph.specs.Lawful.{GraphValue}
use Rattle.ev_graph.specs.declared.nodes.Node.{Node}
use Rattle.ev_graph.specs.declared.nodes.EngineSpec.{EngineSpec}
use Rattle.ev_graph.specs.declared.nodes.NodeKind.{NodeKind}
use Rattle.ev_graph.specs.declared.nodes.NodeKind.TheVariants.{Fault, Defect, Upset, Inner, Report}
use Rattle.ev_graph.specs.declared.instances.Link.{Link}
use Rattle.dx_serd.specs.Rates.{fires}
use Rattle.dx_explain.specs.Cases.{Verdict, Solving, Upsetting, Unexplained, verdict_of, waits}
use Rattle.dx_explain.specs.Cases.{case_opened, case_joined}
use Rattle.dx_state.specs.Configured.{Rules, configuration_at}
use Rattle.dx_step.specs.Said.{nodes_of, upsets_named, word_on}
use Rattle.dx_step.specs.Turns.{Turn, configuration_of, graph_of, turn_cases, with_cases, keep, say}
use Rattle.dx_step.specs.Turns.{noted_at, note_upset, note_all, decide_by, decide, settle, begin_at}
use Rattle.dx_step.specs.Turns.{settle_each, settle_all}
use Rattle.dx_step.specs.Reports.{declares, links_broken, may_open, with_next, opens_case}
use Rattle.dx_step.specs.Reports.{settle_at}
use Rattle.dx_step.specs.Reports.{join_case, join_or_open, place_of_report, join, join_if_known}
use Rattle.dx_step.specs.Reports.{report_named, report, unknown_word}
use Rattle.dx_step.specs.Repairs.{Chosen, mark}
use Rattle.dx_step.specs.Step.{act}
use Rattle.dx_step.proofs.Confs.{settle_conf, settle_all_conf}
use Rattle.dx_step.proofs.Parts.{all_joined, all_one}
use Rattle.dx_observed.specs.Reported.{fired_at, is_trip}
use Rattle.dx_observed.proofs.Each.{each_test}

-- each node that engines reported in the turn is the trip of one of the graph
abbrev AreTrips : GraphValue → Turn → Type 0
AreTrips g t = IsTrue (list_all (is_trip g) t.fired)

trip_at : (es : List EngineSpec) (at : ℕ) (e : EngineSpec) → slice_get es at ≡ Some e
    → IsTrue (list_any (λ x. x.trip == e.trip) es)
trip_at [] at e h = absurd (let never : ⊥ = cc in never)
trip_at (d ∷ es) zero e h =
    let same : d ≡ e = cc in
    or_left (d.trip == e.trip) (list_any (λ x. x.trip == e.trip) es)
    (eq-eqb d.trip e.trip (ap (λ (x : EngineSpec). x.trip) same))
trip_at (d ∷ es) (suc at) e h =
    or_right (d.trip == e.trip) (list_any (λ x. x.trip == e.trip) es) (trip_at es at e h)

noted_trips : (g : GraphValue) (at : ℕ) (o : Option EngineSpec) (k : Option (List ℕ)) (t : Turn)
    → slice_get g.engines at ≡ o → AreTrips g t → AreTrips g (noted_at at o k t)
noted_trips g at (Some e) (Some kept) t is h =
    elim (fires e.n e.t kept t.state.time) as (λ (b : Bool).
    IsTrue (list_all (is_trip g) (if b then t.fired ++ e.trip ∷ [] else t.fired))) [
      | true ↦
          all_joined (is_trip g) t.fired (e.trip ∷ []) h
          (all_one (is_trip g) e.trip (trip_at g.engines at e is))
      | false ↦ h
    ]
noted_trips g at (Some e) None t is h = h
noted_trips g at None k t is h = h

upset_trips : (g : GraphValue) (kind : NodeKind) (t : Turn) → AreTrips g t
    → AreTrips g (note_upset g kind t)
upset_trips g (Upset (Some at)) t h =
    noted_trips g at (slice_get g.engines at) (slice_get t.state.engines at) t refl h
upset_trips g (Upset None) t h = h
upset_trips g (Fault fit retire) t h = h
upset_trips g (Defect fit retire) t h = h
upset_trips g Inner t h = h
upset_trips g (Report within) t h = h

all_trips : (g : GraphValue) (nodes : List Node) (t : Turn) → AreTrips g t
    → AreTrips g (note_all g nodes t)
all_trips g [] t h = h
all_trips g (node ∷ nodes) t h =
    all_trips g nodes (note_upset g node.kind t) (upset_trips g node.kind t h)

by_trips : (r : Rules) (notes : Bool) (c : OpenCase) (v : Verdict) (t : Turn)
    → AreTrips (graph_of r t.state) t → AreTrips (graph_of r t.state) (decide_by r notes c v t)
by_trips r notes c (Solving fs) t h = h
by_trips r true c (Upsetting us) t h =
    let g = graph_of r t.state in
    let nodes = nodes_of g us in
    all_trips g nodes (say (word_on r.own g t.state UpsetWord c (upsets_named nodes)) t) h
by_trips r false c (Upsetting us) t h = h
by_trips r notes c Unexplained t h = h

decide_trips : (r : Rules) (notes : Bool) (c : OpenCase) (t : Turn)
    → AreTrips (graph_of r t.state) t → AreTrips (graph_of r t.state) (decide r notes c t)
unfolding decide
decide_trips r notes c t h = by_trips r notes c (verdict_of (graph_of r t.state) c) t h

settle_trips : (r : Rules) (notes : Bool) (c : OpenCase) (t : Turn)
    → AreTrips (graph_of r t.state) t → AreTrips (graph_of r t.state) (settle r notes c t)
unfolding settle
settle_trips r notes c t h =
    elim (waits (graph_of r t.state) t.state.time c) as (λ (b : Bool).
    AreTrips (graph_of r t.state) (if b then keep c t else decide r notes c t)) [
      | true ↦ h
      | false ↦ decide_trips r notes c t h
    ]

each_trips : (r : Rules) (notes : Bool) (cs : List OpenCase) (t : Turn)
    → AreTrips (graph_of r t.state) t → AreTrips (graph_of r t.state) (settle_each r notes cs t)
each_trips r notes [] t h = h
each_trips r notes (c ∷ cs) t h =
    let u = settle r notes c t in
    let same : graph_of r u.state ≡ graph_of r t.state =
    ap (λ (k : ℕ). (configuration_at r k).graph) (settle_conf r notes c t) in
    subst (λ (g : GraphValue). AreTrips g (settle_each r notes cs u)) same
    (each_trips r notes cs u (subst (λ (g : GraphValue). AreTrips g u) (sym same)
    (settle_trips r notes c t h)))

open_trips : (r : Rules) (notes : Bool) (entry node : ℕ) (links : List Link) (t : Turn)
    → AreTrips (graph_of r t.state) t
    → AreTrips (graph_of r t.state) (opens_case r notes entry node links t)
open_trips r notes entry node links t h =
    elim (may_open t.state) as (λ (b : Bool). AreTrips (graph_of r t.state) (if b
    then settle r notes (case_opened t.state.next node t.state.time entry links) (with_next t)
    else t)) [
      | true ↦
          settle_trips r notes (case_opened t.state.next node t.state.time entry links)
          (with_next t) h
      | false ↦ h
    ]

settled_trips : (r : Rules) (notes : Bool) (at : ℕ) (c : OpenCase) (t : Turn)
    → AreTrips (graph_of r t.state) t → AreTrips (graph_of r t.state) (settle_at r notes at c t)
settled_trips r notes at c t h =
    elim (waits (graph_of r t.state) t.state.time c) as (λ (b : Bool).
    AreTrips (graph_of r t.state) (if b then with_cases (slice_set (turn_cases t) at c) t
    else decide r notes c (with_cases (remove (turn_cases t) at) t))) [
      | true ↦ h
      | false ↦ decide_trips r notes c (with_cases (remove (turn_cases t) at) t) h
    ]

case_trips : (r : Rules) (notes : Bool) (entry node : ℕ) (links : List Link) (at : ℕ)
    (o : Option OpenCase) (t : Turn) → AreTrips (graph_of r t.state) t
    → AreTrips (graph_of r t.state) (join_case r notes entry node links at o t)
case_trips r notes entry node links at (Some c) t h =
    settled_trips r notes at (case_joined node entry links c) t h
case_trips r notes entry node links at None t h = h

place_trips : (r : Rules) (notes : Bool) (entry node : ℕ) (links : List Link) (o : Option ℕ)
    (t : Turn) → AreTrips (graph_of r t.state) t
    → AreTrips (graph_of r t.state) (join_or_open r notes entry node links o t)
place_trips r notes entry node links (Some at) t h =
    case_trips r notes entry node links at (slice_get (turn_cases t) at) t h
place_trips r notes entry node links None t h = open_trips r notes entry node links t h

join_trips : (r : Rules) (notes : Bool) (entry node : ℕ) (payload : Pairs) (t : Turn)
    → AreTrips (graph_of r t.state) t
    → AreTrips (graph_of r t.state) (join r notes entry node payload t)
unfolding join
join_trips r notes entry node payload t h =
    place_trips r notes entry node (links_broken (configuration_of r t.state) node payload)
    (place_of_report r node t) t h

known_trips : (r : Rules) (entry : ℕ) (name : EventName) (payload : Pairs) (o : Option ℕ)
    (t : Turn) → AreTrips (graph_of r t.state) t
    → AreTrips (graph_of r t.state) (join_if_known r entry name payload o t)
known_trips r entry name payload (Some node) t h = join_trips r true entry node payload t h
known_trips r entry name payload None t h =
    elim (may_open t.state) as (λ (b : Bool). AreTrips (graph_of r t.state) (if b
    then with_next (say (unknown_word r.own t.state name) t) else t)) [
      | true ↦ h
      | false ↦ h
    ]

report_trips : (r : Rules) (entry : ℕ) (name : EventName) (payload : Pairs) (t : Turn)
    → AreTrips (graph_of r t.state) t
    → AreTrips (graph_of r t.state) (report r entry name payload t)
unfolding report
report_trips r entry name payload t h =
    known_trips r entry name payload (report_named (graph_of r t.state) name) t h

mark_trips : (g : GraphValue) (chosen : Chosen) (m : Mark) (t : Turn) → AreTrips g t
    → AreTrips g (mark chosen m t)
unfolding mark
mark_trips g chosen m t h = h

act_trips : (r : Rules) (n : ℕ) (e : Entry) (t : Turn) → AreTrips (graph_of r t.state) t
    → AreTrips (graph_of r t.state) (act r n e t)
act_trips r n (ReportEntry class path moment payload) t h =
    elim (declares (graph_of r t.state) class) as (λ (b : Bool). AreTrips (graph_of r t.state) (if b
    then report r n (record { class = class; path = path }) payload t else t)) [
      | true ↦ report_trips r n (record { class = class; path = path }) payload t h
      | false ↦ h
    ]
act_trips r n (Tick moment) t h = h
act_trips r n (Repaired path moment) t h = mark_trips (graph_of r t.state) _ _ t h
act_trips r n (Replaced path moment) t h = mark_trips (graph_of r t.state) _ _ t h
act_trips r n (Acquit case moment) t h = mark_trips (graph_of r t.state) _ _ t h
act_trips r n (Reload conf moment) t h = h

pub trips_fired : (r : Rules) (s : Diagnosis) (n : ℕ) (e : Entry)
    → All (λ node. IsTrue (is_trip (graph_of r s) node)) (fired_at r s n e)
trips_fired r s n e =
    let t = begin_at (moment_of e) s in
    let u = settle_all r t in
    let same : graph_of r u.state ≡ graph_of r s =
    ap (λ (k : ℕ). (configuration_at r k).graph) (settle_all_conf r t) in
    let trips = subst (λ (g : GraphValue). AreTrips g (act r n e u)) same
    (act_trips r n e u (subst (λ (g : GraphValue). AreTrips g u) (sym same)
    (each_trips r true (turn_cases t) (with_cases [] t) refl))) in
    All-from_recursion (λ node. IsTrue (is_trip (graph_of r s) node)) (fired_at r s n e)
    (each_test (is_trip (graph_of r s)) (fired_at r s n e) trips)
