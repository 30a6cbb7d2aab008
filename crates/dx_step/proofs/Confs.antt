-- No part of a step but the last changes the number of the configuration.
use Rattle.std.proofs.Common.{◌≡◌, ℕ, Bool, true, false, List, [], ◌∷◌, refl, ◌∙◌}
use Rattle.std.proofs.Common.{Option, Some, None, slice_get, slice_set, if◌then◌else◌}
use Rattle.std.specs.Prelude.{remove}
use Rattle.fm_nv.specs.Data.{Pairs, no_pairs}
use Rattle.fm_name.specs.declared.events.EventName.{EventName}
use Rattle.fm_entry.specs.declared.entry.Entry.{Entry}
use Rattle.fm_entry.specs.declared.entry.Entry.TheVariants.{Report as ReportEntry, Tick, Repaired}
use Rattle.fm_entry.specs.declared.entry.Entry.TheVariants.{Replaced, Acquit, Reload}
use Rattle.fm_entry.specs.declared.suspect.Mark.{Mark}
use Rattle.fm_core.specs.Meaning.{OpenCase}
use Rattle.ev_graph.specs.Lawful.{GraphValue}
use Rattle.ev_graph.specs.declared.nodes.Node.{Node}
use Rattle.ev_graph.specs.declared.nodes.EngineSpec.{EngineSpec}
use Rattle.ev_graph.specs.declared.nodes.NodeKind.{NodeKind}
use Rattle.ev_graph.specs.declared.nodes.NodeKind.TheVariants.{Fault, Defect, Upset, Inner, Report}
use Rattle.ev_graph.specs.declared.instances.Link.{Link}
use Rattle.dx_explain.specs.Cases.{Verdict, Solving, Upsetting, Unexplained, verdict_of, waits}
use Rattle.dx_explain.specs.Cases.{case_opened, case_joined}
use Rattle.dx_state.specs.Configured.{Rules}
use Rattle.dx_step.specs.Said.{nodes_of}
use Rattle.dx_step.specs.Turns.{Turn, configuration_of, graph_of, turn_cases, with_cases, keep, say}
use Rattle.dx_step.specs.Turns.{noted_at, note_upset, note_all, upset, decide_by, decide, settle}
use Rattle.dx_step.specs.Turns.{settle_each, decide_each, settle_all, decide_all}
use Rattle.dx_step.specs.Reports.{declares, links_broken, may_open, with_next}
use Rattle.dx_step.specs.Reports.{opens_case, settle_at}
use Rattle.dx_step.specs.Reports.{join_case, join_or_open, place_of_report, join, open_unknown}
use Rattle.dx_step.specs.Reports.{unknown_word, join_if_known, report_named, report, join_each}
use Rattle.dx_step.specs.Repairs.{Chosen, mark}
use Rattle.dx_step.specs.Step.{act}

abbrev pub conf_in : Turn → ℕ
conf_in t = t.state.conf

at_conf : (at : ℕ) (o : Option EngineSpec) (k : Option (List ℕ)) (t : Turn)
    → conf_in (noted_at at o k t) ≡ conf_in t
at_conf at (Some e) (Some kept) t = refl
at_conf at (Some e) None t = refl
at_conf at None k t = refl

upset_conf : (g : GraphValue) (kind : NodeKind) (t : Turn)
    → conf_in (note_upset g kind t) ≡ conf_in t
upset_conf g (Upset (Some at)) t =
    at_conf at (slice_get g.engines at) (slice_get t.state.engines at) t
upset_conf g (Upset None) t = refl
upset_conf g (Fault fit retire) t = refl
upset_conf g (Defect fit retire) t = refl
upset_conf g Inner t = refl
upset_conf g (Report within) t = refl

all_conf : (g : GraphValue) (nodes : List Node) (t : Turn)
    → conf_in (note_all g nodes t) ≡ conf_in t
all_conf g [] t = refl
all_conf g (node ∷ nodes) t =
    all_conf g nodes (note_upset g node.kind t) ∙ upset_conf g node.kind t

notes_conf : (r : Rules) (notes : Bool) (c : OpenCase) (nodes : List Node) (t : Turn)
    → conf_in (upset r notes c nodes t) ≡ conf_in t
notes_conf r true c nodes t = all_conf (graph_of r t.state) nodes _
notes_conf r false c nodes t = refl

by_conf : (r : Rules) (notes : Bool) (c : OpenCase) (v : Verdict) (t : Turn)
    → conf_in (decide_by r notes c v t) ≡ conf_in t
by_conf r notes c (Solving fs) t = refl
by_conf r notes c (Upsetting us) t = notes_conf r notes c (nodes_of (graph_of r t.state) us) t
by_conf r notes c Unexplained t = refl

pub decide_conf : (r : Rules) (notes : Bool) (c : OpenCase) (t : Turn)
    → conf_in (decide r notes c t) ≡ conf_in t
unfolding decide
decide_conf r notes c t = by_conf r notes c (verdict_of (graph_of r t.state) c) t

pub settle_conf : (r : Rules) (notes : Bool) (c : OpenCase) (t : Turn)
    → conf_in (settle r notes c t) ≡ conf_in t
unfolding settle
settle_conf r notes c t =
    elim (waits (graph_of r t.state) t.state.time c) as (λ (b : Bool).
    conf_in (if b then keep c t else decide r notes c t) ≡ conf_in t) [
      | true ↦ refl
      | false ↦ decide_conf r notes c t
    ]

each_conf : (r : Rules) (notes : Bool) (cs : List OpenCase) (t : Turn)
    → conf_in (settle_each r notes cs t) ≡ conf_in t
each_conf r notes [] t = refl
each_conf r notes (c ∷ cs) t =
    each_conf r notes cs (settle r notes c t) ∙ settle_conf r notes c t

pub settle_all_conf : (r : Rules) (t : Turn) → conf_in (settle_all r t) ≡ conf_in t
settle_all_conf r t = each_conf r true (turn_cases t) (with_cases [] t)

decide_each_conf : (r : Rules) (cs : List OpenCase) (t : Turn)
    → conf_in (decide_each r cs t) ≡ conf_in t
decide_each_conf r [] t = refl
decide_each_conf r (c ∷ cs) t =
    decide_each_conf r cs (decide r false c t) ∙ decide_conf r false c t

pub decide_all_conf : (r : Rules) (t : Turn) → conf_in (decide_all r t) ≡ conf_in t
decide_all_conf r t = decide_each_conf r (turn_cases t) (with_cases [] t)

open_conf : (r : Rules) (notes : Bool) (entry node : ℕ) (links : List Link) (t : Turn)
    → conf_in (opens_case r notes entry node links t) ≡ conf_in t
open_conf r notes entry node links t =
    elim (may_open t.state) as (λ (b : Bool). conf_in (if b
    then settle r notes (case_opened t.state.next node t.state.time entry links) (with_next t)
    else t) ≡ conf_in t) [
      | true ↦
          settle_conf r notes (case_opened t.state.next node t.state.time entry links) (with_next t)
      | false ↦ refl
    ]

settle_at_conf : (r : Rules) (notes : Bool) (at : ℕ) (c : OpenCase) (t : Turn)
    → conf_in (settle_at r notes at c t) ≡ conf_in t
settle_at_conf r notes at c t =
    elim (waits (graph_of r t.state) t.state.time c) as (λ (b : Bool). conf_in (if b
    then with_cases (slice_set (turn_cases t) at c) t
    else decide r notes c (with_cases (remove (turn_cases t) at) t)) ≡ conf_in t) [
      | true ↦ refl
      | false ↦ decide_conf r notes c (with_cases (remove (turn_cases t) at) t)
    ]

join_case_conf : (r : Rules) (notes : Bool) (entry node : ℕ) (links : List Link) (at : ℕ)
    (o : Option OpenCase) (t : Turn)
    → conf_in (join_case r notes entry node links at o t) ≡ conf_in t
join_case_conf r notes entry node links at (Some c) t =
    settle_at_conf r notes at (case_joined node entry links c) t
join_case_conf r notes entry node links at None t = refl

or_conf : (r : Rules) (notes : Bool) (entry node : ℕ) (links : List Link) (o : Option ℕ) (t : Turn)
    → conf_in (join_or_open r notes entry node links o t) ≡ conf_in t
or_conf r notes entry node links (Some at) t =
    join_case_conf r notes entry node links at (slice_get (turn_cases t) at) t
or_conf r notes entry node links None t = open_conf r notes entry node links t

pub join_conf : (r : Rules) (notes : Bool) (entry node : ℕ) (payload : Pairs) (t : Turn)
    → conf_in (join r notes entry node payload t) ≡ conf_in t
unfolding join
join_conf r notes entry node payload t =
    or_conf r notes entry node (links_broken (configuration_of r t.state) node payload)
    (place_of_report r node t) t

pub join_each_conf : (r : Rules) (entry : ℕ) (nodes : List ℕ) (t : Turn)
    → conf_in (join_each r entry nodes t) ≡ conf_in t
join_each_conf r entry [] t = refl
join_each_conf r entry (node ∷ nodes) t =
    join_each_conf r entry nodes (join r false entry node no_pairs t)
    ∙ join_conf r false entry node no_pairs t

unknown_conf : (own : ℕ) (name : EventName) (t : Turn)
    → conf_in (open_unknown own name t) ≡ conf_in t
unknown_conf own name t =
    elim (may_open t.state) as (λ (b : Bool). conf_in (if b
    then with_next (say (unknown_word own t.state name) t) else t) ≡ conf_in t) [
      | true ↦ refl
      | false ↦ refl
    ]

known_conf : (r : Rules) (entry : ℕ) (name : EventName) (payload : Pairs) (o : Option ℕ) (t : Turn)
    → conf_in (join_if_known r entry name payload o t) ≡ conf_in t
known_conf r entry name payload (Some node) t = join_conf r true entry node payload t
known_conf r entry name payload None t = unknown_conf r.own name t

report_conf : (r : Rules) (entry : ℕ) (name : EventName) (payload : Pairs) (t : Turn)
    → conf_in (report r entry name payload t) ≡ conf_in t
unfolding report
report_conf r entry name payload t =
    known_conf r entry name payload (report_named (graph_of r t.state) name) t

mark_conf : (chosen : Chosen) (m : Mark) (t : Turn) → conf_in (mark chosen m t) ≡ conf_in t
unfolding mark
mark_conf chosen m t = refl

pub act_conf : (r : Rules) (n : ℕ) (e : Entry) (t : Turn) → conf_in (act r n e t) ≡ conf_in t
act_conf r n (ReportEntry class path moment payload) t =
    elim (declares (graph_of r t.state) class) as (λ (b : Bool). conf_in (if b
    then report r n (record { class = class; path = path }) payload t else t) ≡ conf_in t) [
      | true ↦ report_conf r n (record { class = class; path = path }) payload t
      | false ↦ refl
    ]
act_conf r n (Tick moment) t = refl
act_conf r n (Repaired path moment) t = mark_conf _ _ t
act_conf r n (Replaced path moment) t = mark_conf _ _ t
act_conf r n (Acquit case moment) t = mark_conf _ _ t
act_conf r n (Reload conf moment) t = refl
