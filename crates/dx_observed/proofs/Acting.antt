-- A turn: each report at an entry joins a case, and what each case observes is just its reports.
use Rattle.std.proofs.Common.{◌≡◌, ℕ, Bool, true, false, ◌&&◌}
use Rattle.std.proofs.Common.{List, [], ◌∷◌, ◌++◌, map, refl, sym, ap, ◌∙◌}
use Rattle.std.proofs.Common.{if◌then◌else◌, subst, Option, Some, None}
use Rattle.std.proofs.Common.{append_assoc, append-nil}
use Rattle.std.specs.List.{AllByRecursion, cons_option}
use Rattle.std.specs.Ordering.{is_eq}
use Rattle.std.specs.declared.cmp.Ordering.{Ordering}
use Rattle.std.specs.declared.cmp.Ordering.TheVariants.{Less, Equal, Greater}
use Rattle.std.proofs.lemmas.Bool.{false≢true, and_parts}
use Rattle.fm_nv.specs.Data.{Pairs}
use Rattle.fm_name.specs.Events.{event_cmp, event_eq, event_cmp_ties, event_tie}
use Rattle.fm_name.specs.declared.events.EventName.{EventName}
use Rattle.fm_entry.specs.Entries.{moment_of}
use Rattle.fm_entry.specs.declared.entry.Entry.{Entry}
use Rattle.fm_entry.specs.declared.entry.Entry.TheVariants.{Report, Tick, Repaired, Replaced}
use Rattle.fm_entry.specs.declared.entry.Entry.TheVariants.{Acquit, Reload}
use Rattle.fm_entry.specs.declared.suspect.Mark.{Mark}
use Rattle.fm_entry.specs.declared.suspect.Mark.TheVariants.{Repaired as RepairedMark, Acquitted}
use Rattle.fm_entry.specs.declared.suspect.Mark.TheVariants.{Replaced as ReplacedMark}
use Rattle.fm_entry.specs.declared.list_event.ListEvent.{ListEvent}
use Rattle.fm_core.specs.Meaning.{OpenCase, Diagnosis}
use Rattle.ev_graph.specs.Kinds.{is_report_kind}
use Rattle.ev_graph.specs.Lawful.{GraphValue}
use Rattle.ev_graph.specs.declared.nodes.Node.{Node}
use Rattle.dx_state.specs.Configured.{Rules, configuration_at}
use Rattle.dx_step.specs.Said.{event_names}
use Rattle.dx_step.specs.Turns.{Turn, graph_of, turn_cases, with_cases, begin_at}
use Rattle.dx_step.specs.Turns.{settle_all, decide_all}
use Rattle.dx_step.specs.Reports.{declares, join, join_if_known, report_named, report, trips}
use Rattle.dx_step.specs.Repairs.{Chosen, is_at, is_at_or_under, is_of_case, mark, marked_word}
use Rattle.dx_step.specs.Repairs.{is_marked_by, has_present, kept_if, last_words, mark_words}
use Rattle.dx_step.specs.Step.{act, configure, is_above, reload, turn}
use Rattle.dx_step.proofs.Confs.{conf_in, settle_all_conf, act_conf}
use Rattle.dx_step.proofs.Parts.{by_joined}
use Rattle.dx_observed.specs.Reported.{Reported, JoinedReport, at_number, own_reports, reported_at}
use Rattle.dx_observed.proofs.Sharing.{Before, IsPast, ArePast, IsKept, Shares, Shared}
use Rattle.dx_observed.proofs.Opening.{kept_said, unknown_shared}
use Rattle.dx_observed.proofs.Turning.{settled_all, decided_each, each_stay, shares_with, passes_at}
use Rattle.dx_observed.proofs.Turning.{joined, joined_each, at_split}
use Rattle.fm_core.proofs.Lists.{all_map}

-- ---- a report by its name

eq_is : (o : Ordering) → is_eq o ≡ true → o ≡ Equal
eq_is Less h = absurd (false≢true h)
eq_is Equal h = refl
eq_is Greater h = absurd (false≢true h)

pub is_one : (x y : EventName) → event_eq x y ≡ true → x ≡ y
is_one x y h = event_tie x y (eq_is (event_cmp x y) (sym (event_cmp_ties x y) ∙ h))

-- the node of a name has it
named : (g : GraphValue) (name : EventName) (at : ℕ) → report_named g name ≡ Some at
    → event_names g (at ∷ []) ≡ name ∷ []
named g name at h =
    let one = passes_at (λ node. is_report_kind node.kind && event_eq node.name name) g.nodes at h
    in
    ap (λ (o : Option Node). map (λ node. node.name) (cons_option o [])) one.1
    ∙ ap (λ (x : EventName). x ∷ []) (is_one one.0.name name
    (and_parts (is_report_kind one.0.kind) (event_eq one.0.name name) one.2).1)

reported_by : (r : Rules) (b : Before) (made : List Reported) (name : EventName) (payload : Pairs)
    (o : Option ℕ) (t : Turn) (js : List JoinedReport)
    → report_named (graph_of r t.state) name ≡ o → Shares r b made (turn_cases t) t js
    → Shared r b (made ++ at_number b.number (name ∷ []))
    (join_if_known r b.number name payload o t)
reported_by r b made name payload None t js is h = unknown_shared r b made name t js h
reported_by r b made name payload (Some node) t js is h =
    subst (λ (l : List EventName). Shared r b (made ++ at_number b.number l)
    (join r true b.number node payload t)) (named (graph_of r t.state) name node is)
    (joined r b made true node payload t js h)

reported : (r : Rules) (b : Before) (made : List Reported) (name : EventName)
    (payload : Pairs) (t : Turn) (js : List JoinedReport) → Shares r b made (turn_cases t) t js
    → Shared r b (made ++ at_number b.number (name ∷ [])) (report r b.number name payload t)
unfolding report
reported r b made name payload t js h =
    reported_by r b made name payload (report_named (graph_of r t.state) name) t js refl h

-- ---- marks

kept_fact : (P : ListEvent → Type 0) (k : Bool) (w : ListEvent) → P w
    → AllByRecursion P (kept_if k w)
kept_fact P true w h = (h, tt)
kept_fact P false w h = tt

-- a word with marks is on the same case, and says that the same was observed
marked_past : (b : Before) (cs : List OpenCase) (next : ℕ) (js : List JoinedReport) (n time : ℕ)
    (chosen : Chosen) (m : Mark) (w : ListEvent) → IsPast b cs next js n w
    → IsPast b cs next js n (marked_word time chosen m w)
marked_past b cs next js n time chosen m w h =
    record { just = h.just; below = h.below; apart = h.apart }

last_past : (b : Before) (cs : List OpenCase) (next : ℕ) (js : List JoinedReport) (n time : ℕ)
    (chosen : Chosen) (m : Mark) (ws : List ListEvent) → ArePast b cs next js n ws
    → ArePast b cs next js n (last_words time chosen m ws)
last_past b cs next js n time chosen m [] h = tt
last_past b cs next js n time chosen m (w ∷ ws) h =
    by_joined (IsPast b cs next js n) (if is_marked_by chosen w
    then kept_if (has_present (marked_word time chosen m w).suspects) (marked_word time chosen m w)
    else w ∷ []) (last_words time chosen m ws)
    (elim (is_marked_by chosen w) as (λ (k : Bool). ArePast b cs next js n (if k
    then kept_if (has_present (marked_word time chosen m w).suspects) (marked_word time chosen m w)
    else w ∷ [])) [
      | true ↦
          kept_fact (IsPast b cs next js n)
          (has_present (marked_word time chosen m w).suspects) (marked_word time chosen m w)
          (marked_past b cs next js n time chosen m w h.0)
      | false ↦ (h.0, tt)
    ]) (last_past b cs next js n time chosen m ws h.1)

mark_past : (b : Before) (cs : List OpenCase) (next : ℕ) (js : List JoinedReport) (n time : ℕ)
    (chosen : Chosen) (m : Mark) (ws : List ListEvent) → ArePast b cs next js n ws
    → ArePast b cs next js n (mark_words time chosen m ws)
mark_past b cs next js n time chosen m [] h = tt
mark_past b cs next js n time chosen m (w ∷ ws) h =
    by_joined (IsPast b cs next js n)
    (kept_if (is_marked_by chosen w) (marked_word time chosen m w)) (mark_words time chosen m ws)
    (kept_fact (IsPast b cs next js n) (is_marked_by chosen w) (marked_word time chosen m w)
    (marked_past b cs next js n time chosen m w h.0))
    (mark_past b cs next js n time chosen m ws h.1)

marked : (r : Rules) (b : Before) (made : List Reported) (chosen : Chosen) (m : Mark) (t : Turn)
    (js : List JoinedReport) → Shares r b made (turn_cases t) t js
    → Shares r b made (turn_cases (mark chosen m t)) (mark chosen m t) js
unfolding mark
marked r b made chosen m t js h =
    let cs = turn_cases t in
    let next = t.state.next in
    let more = mark_words t.state.time chosen m t.state.solved in
    record {
      now = h.now;
      strict = h.strict;
      solved = last_past b cs next js b.number t.state.time chosen m t.state.solved h.solved;
      said = by_joined (IsPast b cs next js b.number) t.words more h.said
          (mark_past b cs next js b.number t.state.time chosen m t.state.solved h.solved);
      earlier = h.earlier;
      new = h.new;
      below = h.below;
      kept = λ k is. kept_said b cs t.words more k (h.kept k is);
      arrived = all_map (λ j. IsKept b cs t.words j.case)
          (λ j. IsKept b cs (t.words ++ more) j.case) js
          (λ j k. kept_said b cs t.words more j.case k) h.arrived;
      each = h.each;
    }

-- ---- the entry acts

same_made : (r : Rules) (b : Before) (made : List Reported) (t : Turn) (js : List JoinedReport)
    → Shares r b made (turn_cases t) t js → Shared r b (made ++ []) t
same_made r b made t js h = record {
  joined = js;
  shares =
      subst (λ (l : List Reported). Shares r b l (turn_cases t) t js) (sym (append-nil made)) h;
}

acted : (r : Rules) (b : Before) (made : List Reported) (e : Entry) (t : Turn)
    (js : List JoinedReport) → Shares r b made (turn_cases t) t js
    → Shared r b (made ++ at_number b.number (own_reports (graph_of r t.state) e))
    (act r b.number e t)
acted r b made (Report class path moment payload) t js h =
    let name : EventName = record { class = class; path = path } in
    elim (declares (graph_of r t.state) class) as (λ (d : Bool).
    Shared r b (made ++ at_number b.number (if d then name ∷ [] else []))
    (if d then report r b.number name payload t else t)) [
      | true ↦ reported r b made name payload t js h
      | false ↦ same_made r b made t js h
    ]
acted r b made (Tick moment) t js h = same_made r b made t js h
acted r b made (Repaired path moment) t js h =
    same_made r b made (mark (is_at path) RepairedMark t) js
    (marked r b made (is_at path) RepairedMark t js h)
acted r b made (Replaced path moment) t js h =
    same_made r b made (mark (is_at_or_under path) ReplacedMark t) js
    (marked r b made (is_at_or_under path) ReplacedMark t js h)
acted r b made (Acquit case moment) t js h =
    same_made r b made (mark (is_of_case case) Acquitted t) js
    (marked r b made (is_of_case case) Acquitted t js h)
acted r b made (Reload conf moment) t js h = same_made r b made t js h

-- which engines fired doesn't matter
shares_fired : (r : Rules) (b : Before) (made : List Reported) (cs : List OpenCase)
    (fired : List ℕ) (t : Turn) (js : List JoinedReport) → Shares r b made cs t js
    → Shares r b made cs (record t { fired = fired }) js
shares_fired r b made cs fired t js h = record {
  now = h.now;
  strict = h.strict;
  solved = h.solved;
  said = h.said;
  earlier = h.earlier;
  new = h.new;
  below = h.below;
  kept = h.kept;
  arrived = h.arrived;
  each = h.each;
}

-- a new configuration comes into force, in which no case is open
configured : (r : Rules) (b : Before) (made : List Reported) (conf : ℕ) (t : Turn)
    (js : List JoinedReport) → turn_cases t ≡ [] → Shares r b made [] t js
    → Shares r b made (turn_cases (configure r conf t)) (configure r conf t) js
configured r b made conf t js none h =
    subst (λ (cs : List OpenCase). Shares r b made cs (configure r conf t) js) (sym none)
    (record {
      now = tt;
      strict = refl;
      solved = h.solved;
      said = h.said;
      earlier = h.earlier;
      new = h.new;
      below = h.below;
      kept = h.kept;
      arrived = h.arrived;
      each = h.each;
    })

reloaded : (r : Rules) (b : Before) (made : List Reported) (e : Entry) (t : Turn)
    (js : List JoinedReport) → Shares r b made (turn_cases t) t js
    → Shares r b made (turn_cases (reload r e t)) (reload r e t) js
reloaded r b made (Reload conf moment) t js h =
    elim (is_above r t.state conf) as (λ (k : Bool).
    Shares r b made (turn_cases (if k then configure r conf (decide_all r t) else t))
    (if k then configure r conf (decide_all r t) else t) js) [
      | true ↦
          configured r b made conf (decide_all r t) js
          (each_stay r (turn_cases t) (with_cases [] t))
          (decided_each r b made (turn_cases t) (with_cases [] t) js
          (shares_with r b made (turn_cases t) [] t js h))
      | false ↦ h
    ]
reloaded r b made (Report class path moment payload) t js h = h
reloaded r b made (Tick moment) t js h = h
reloaded r b made (Repaired path moment) t js h = h
reloaded r b made (Replaced path moment) t js h = h
reloaded r b made (Acquit case moment) t js h = h

-- the state alone, before an entry
abbrev pub still : Diagnosis → Turn
still s = record { state = s; fired = []; words = [] }

begun : (r : Rules) (b : Before) (made : List Reported) (moment : ℕ) (s : Diagnosis)
    (js : List JoinedReport) → Shares r b made s.open_cases (still s) js
    → Shares r b made (turn_cases (begin_at moment s)) (begin_at moment s) js
begun r b made moment s js h = record {
  now = h.now;
  strict = h.strict;
  solved = h.solved;
  said = h.said;
  earlier = h.earlier;
  new = h.new;
  below = h.below;
  kept = h.kept;
  arrived = h.arrived;
  each = h.each;
}

at_both : (n : ℕ) (made : List Reported) (xs ys : List EventName)
    → (made ++ at_number n xs) ++ at_number n ys ≡ made ++ at_number n (xs ++ ys)
at_both n made xs ys =
    append_assoc made (at_number n xs) (at_number n ys)
    ∙ ap (λ (l : List Reported). made ++ l) (sym (at_split n xs ys))

-- a turn
pub turned : (r : Rules) (b : Before) (made : List Reported) (s : Diagnosis) (e : Entry)
    (js : List JoinedReport) → Shares r b made s.open_cases (still s) js
    → Shared r b (made ++ reported_at r s b.number e) (turn r s b.number e)
unfolding turn
turned r b made s e js h =
    let t = begin_at (moment_of e) s in
    let one = settle_all r t in
    let two = act r b.number e one in
    let first = settled_all r b made t js (begun r b made (moment_of e) s js h) in
    let second = acted r b made e one js first in
    let out : Turn = record two { fired = [] } in
    let third = joined_each r b
    (made ++ at_number b.number (own_reports (graph_of r one.state) e)) two.fired out second.joined
    (shares_fired r b (made ++ at_number b.number (own_reports (graph_of r one.state) e))
    (turn_cases two) [] two second.joined second.shares) in
    let conf_one : conf_in one ≡ s.conf = settle_all_conf r t in
    let conf_two : conf_in two ≡ s.conf = act_conf r b.number e one ∙ conf_one in
    let all : (made ++ at_number b.number (own_reports (graph_of r one.state) e))
    ++ at_number b.number (event_names (graph_of r two.state) two.fired)
    ≡ made ++ reported_at r s b.number e =
    (λ i. (made ++ at_number b.number (own_reports (configuration_at r (conf_one i)).graph e))
    ++ at_number b.number (event_names (configuration_at r (conf_two i)).graph two.fired))
    ∙ at_both b.number made (own_reports (graph_of r s) e)
    (event_names (graph_of r s) two.fired) in
    let last = reloaded r b
    ((made ++ at_number b.number (own_reports (graph_of r one.state) e))
    ++ at_number b.number (event_names (graph_of r two.state) two.fired)) e
    (trips r b.number two) third.joined third.shares in
    record {
      joined = third.joined;
      shares =
          subst (λ (l : List Reported). Shares r b l
          (turn_cases (reload r e (trips r b.number two))) (reload r e (trips r b.number two))
          third.joined) all last;
    }
