-- The parts of a turn: decisions, reports, marks, and a new configuration.
use Rattle.std.proofs.Common.{◌≡◌, ℕ, suc, ◌+◌, ◌<◌, Bool, true, false, not, nat_lt}
use Rattle.std.proofs.Common.{IsTrue, List, [], ◌∷◌, ◌++◌, length, refl, sym, ap, ◌∙◌, arith}
use Rattle.std.proofs.Common.{if◌then◌else◌, subst, cond, Option, Some, None, slice_get, slice_set}
use Rattle.std.proofs.Common.{append_assoc, append-nil, zero}
use Rattle.std.specs.Prelude.{position, remove}
use Rattle.std.specs.List.{AllByRecursion, position_or_len}
use Rattle.std.proofs.lemmas.Bool.{ltb-true}
use Rattle.fm_nv.specs.Data.{Pairs, no_pairs}
use Rattle.fm_name.specs.declared.events.EventName.{EventName}
use Rattle.fm_entry.specs.declared.list_event.ListKind.TheVariants.{Suspect as SuspectKind}
use Rattle.fm_entry.specs.declared.list_event.ListKind.TheVariants.{Undiagnosable}
use Rattle.fm_entry.specs.declared.list_event.ListKind.TheVariants.{Upset as UpsetWord}
use Rattle.fm_core.specs.Meaning.{OpenCase}
use Rattle.ev_graph.specs.Lawful.{GraphValue}
use Rattle.ev_graph.specs.declared.nodes.Node.{Node}
use Rattle.ev_graph.specs.declared.nodes.EngineSpec.{EngineSpec}
use Rattle.ev_graph.specs.declared.nodes.NodeKind.{NodeKind}
use Rattle.ev_graph.specs.declared.nodes.NodeKind.TheVariants.{Fault, Defect, Upset, Inner, Report}
use Rattle.ev_graph.specs.declared.instances.Link.{Link}
use Rattle.dx_explain.specs.Cases.{Verdict, Solving, Upsetting, Unexplained, verdict_of, waits}
use Rattle.dx_explain.specs.Cases.{case_opened, case_joined, takes_report}
use Rattle.dx_state.specs.Configured.{Rules, configuration_at}
use Rattle.dx_step.specs.Said.{nodes_of, event_names, suspects_of, upsets_named, word_on}
use Rattle.dx_step.specs.Turns.{Turn, configuration_of, graph_of, turn_cases, with_cases, keep, say}
use Rattle.dx_step.specs.Turns.{noted_by, noted_at, note_upset, note_all, decide_by, decide}
use Rattle.dx_step.specs.Turns.{settle, settle_each, decide_each, settle_all}
use Rattle.dx_step.specs.Reports.{links_broken, may_open, with_next, opens_case, settle_at}
use Rattle.dx_step.specs.Reports.{join_case, join_or_open, place_of_report, join}
use Rattle.dx_step.specs.Reports.{join_each}
use Rattle.dx_step.proofs.Confs.{join_conf}
use Rattle.dx_step.proofs.Parts.{parted}
use Rattle.dx_observed.specs.Reported.{Reported, JoinedReport, at_number}
use Rattle.dx_observed.proofs.Events.{joins, just_joined, names_split}
use Rattle.dx_observed.proofs.Sharing.{Before, IsNow, Shares, Shared}
use Rattle.dx_observed.proofs.Sharing.{IsTold, told, joined_case}
use Rattle.dx_observed.proofs.Opening.{opened_case, dropped}

-- ---- a case is decided

-- engines note the time
abbrev with_noted : List (List ℕ) → List ℕ → Turn → Turn
with_noted engines fired t =
    record t { state = record t.state { engines = engines }; fired = fired }

record IsNoted (t u : Turn) : Type 0 where
  engines : List (List ℕ)
  fired : List ℕ
  is : u ≡ with_noted engines fired t

not_noted : (t : Turn) → IsNoted t t
not_noted t = record { engines = t.state.engines; fired = t.fired; is = refl }

at_noted : (at : ℕ) (o : Option EngineSpec) (k : Option (List ℕ)) (t : Turn)
    → IsNoted t (noted_at at o k t)
at_noted at (Some e) (Some kept) t = record {
  engines = (noted_by at e kept t).state.engines;
  fired = (noted_by at e kept t).fired;
  is = refl;
}
at_noted at (Some e) None t = not_noted t
at_noted at None k t = not_noted t

upset_noted : (g : GraphValue) (kind : NodeKind) (t : Turn) → IsNoted t (note_upset g kind t)
upset_noted g (Upset (Some at)) t =
    at_noted at (slice_get g.engines at) (slice_get t.state.engines at) t
upset_noted g (Upset None) t = not_noted t
upset_noted g (Fault fit retire) t = not_noted t
upset_noted g (Defect fit retire) t = not_noted t
upset_noted g Inner t = not_noted t
upset_noted g (Report within) t = not_noted t

all_noted : (g : GraphValue) (nodes : List Node) (t : Turn) → IsNoted t (note_all g nodes t)
all_noted g [] t = not_noted t
all_noted g (node ∷ nodes) t =
    let one = upset_noted g node.kind t in
    let rest = all_noted g nodes (note_upset g node.kind t) in
    record {
      engines = rest.engines;
      fired = rest.fired;
      is = rest.is ∙ ap (with_noted rest.engines rest.fired) one.is;
    }

decided_by : (r : Rules) (notes : Bool) (c : OpenCase) (v : Verdict) (t : Turn)
    → IsTold r c t (decide_by r notes c v t)
decided_by r notes c (Solving fs) t = record {
  word =
      word_on r.own (graph_of r t.state) t.state SuspectKind c
      (suspects_of (nodes_of (graph_of r t.state) fs));
  keeps = true;
  engines = t.state.engines;
  fired = t.fired;
  number = refl;
  observed = refl;
  is = refl;
}
decided_by r true c (Upsetting us) t =
    let g = graph_of r t.state in
    let w = word_on r.own g t.state UpsetWord c (upsets_named (nodes_of g us)) in
    let noted = all_noted g (nodes_of g us) (say w t) in
    record {
      word = w;
      keeps = false;
      engines = noted.engines;
      fired = noted.fired;
      number = refl;
      observed = refl;
      is = noted.is;
    }
decided_by r false c (Upsetting us) t = record {
  word =
      word_on r.own (graph_of r t.state) t.state UpsetWord c
      (upsets_named (nodes_of (graph_of r t.state) us));
  keeps = false;
  engines = t.state.engines;
  fired = t.fired;
  number = refl;
  observed = refl;
  is = refl;
}
decided_by r notes c Unexplained t = record {
  word = word_on r.own (graph_of r t.state) t.state Undiagnosable c [];
  keeps = false;
  engines = t.state.engines;
  fired = t.fired;
  number = refl;
  observed = refl;
  is = refl;
}

decided : (r : Rules) (notes : Bool) (c : OpenCase) (t : Turn) → IsTold r c t (decide r notes c t)
unfolding decide
decided r notes c t = decided_by r notes c (verdict_of (graph_of r t.state) c) t

cases_stay : (r : Rules) (c : OpenCase) (t u : Turn) → IsTold r c t u
    → turn_cases u ≡ turn_cases t
cases_stay r c t u d = ap turn_cases d.is

-- ---- cases are settled, or decided

-- which cases the state itself has doesn't matter
pub shares_with : (r : Rules) (b : Before) (made : List Reported) (cs ds : List OpenCase) (t : Turn)
    (js : List JoinedReport) → Shares r b made cs t js → Shares r b made cs (with_cases ds t) js
shares_with r b made cs ds t js h = record {
  now = h.now;
  strict = h.strict;
  solved = h.solved;
  said = h.said;
  earlier = h.earlier;
  new = h.new;
  below = h.below;
  kept = h.kept;
  arrived = h.arrived;
  each = h.each;
}

settled_case : (r : Rules) (b : Before) (made : List Reported) (notes : Bool) (c : OpenCase)
    (left : List OpenCase) (t : Turn) (js : List JoinedReport)
    → Shares r b made (turn_cases t ++ c ∷ left) t js
    → Shares r b made (turn_cases (settle r notes c t) ++ left) (settle r notes c t) js
unfolding settle
settled_case r b made notes c left t js h =
    elim (waits (graph_of r t.state) t.state.time c) as (λ (w : Bool). Shares r b made
    (turn_cases (if w then keep c t else decide r notes c t) ++ left)
    (if w then keep c t else decide r notes c t) js) [
      | true ↦
          shares_with r b made ((turn_cases t ++ c ∷ []) ++ left) (turn_cases t ++ c ∷ []) t js
          (subst (λ (cs : List OpenCase). Shares r b made cs t js)
          (sym (append_assoc (turn_cases t) (c ∷ []) left)) h)
      | false ↦
          let done = decided r notes c t in
          subst (λ (cs : List OpenCase). Shares r b made (cs ++ left) (decide r notes c t) js)
          (sym (cases_stay r c t (decide r notes c t) done))
          (told r b made (turn_cases t) left c t (decide r notes c t) js done h)
    ]

settled_each : (r : Rules) (b : Before) (made : List Reported) (notes : Bool)
    (cs : List OpenCase) (t : Turn) (js : List JoinedReport)
    → Shares r b made (turn_cases t ++ cs) t js
    → Shares r b made (turn_cases (settle_each r notes cs t)) (settle_each r notes cs t) js
settled_each r b made notes [] t js h =
    subst (λ (cs : List OpenCase). Shares r b made cs t js) (append-nil (turn_cases t)) h
settled_each r b made notes (c ∷ cs) t js h =
    settled_each r b made notes cs (settle r notes c t) js
    (settled_case r b made notes c cs t js h)

pub settled_all : (r : Rules) (b : Before) (made : List Reported) (t : Turn)
    (js : List JoinedReport) → Shares r b made (turn_cases t) t js
    → Shares r b made (turn_cases (settle_all r t)) (settle_all r t) js
settled_all r b made t js h =
    settled_each r b made true (turn_cases t) (with_cases [] t) js
    (shares_with r b made (turn_cases t) [] t js h)

pub decided_each : (r : Rules) (b : Before) (made : List Reported) (cs : List OpenCase) (t : Turn)
    (js : List JoinedReport) → Shares r b made cs t js
    → Shares r b made [] (decide_each r cs t) js
decided_each r b made [] t js h = h
decided_each r b made (c ∷ cs) t js h =
    decided_each r b made cs (decide r false c t) js
    (told r b made [] cs c t (decide r false c t) js (decided r false c t) h)

pub each_stay : (r : Rules) (cs : List OpenCase) (t : Turn)
    → turn_cases (decide_each r cs t) ≡ turn_cases t
each_stay r [] t = refl
each_stay r (c ∷ cs) t =
    each_stay r cs (decide r false c t)
    ∙ cases_stay r c t (decide r false c t) (decided r false c t)

-- ---- a report joins a case, or opens one

first_passes : {X : Type 0} (p : X → Bool) (xs : List X) → position_or_len p xs < length xs
    → (x : X) × (slice_get xs (position_or_len p xs) ≡ Some x) × IsTrue (p x)
first_passes p [] h = absurd (omega arith)
first_passes {X} p (y ∷ xs) h =
    elim (p y) as (λ (b : Bool). p y ≡ b
    → cond (not b) (1 + position_or_len p xs) 0 < length (y ∷ xs)
    → (x : X) × (slice_get (y ∷ xs) (cond (not b) (1 + position_or_len p xs) 0) ≡ Some x)
    × IsTrue (p x)) [
      | true ↦ λ is low. (y, refl, is)
      | false ↦ λ is low.
          let one = first_passes p xs (omega arith) in
          let next : 1 + position_or_len p xs ≡ suc (position_or_len p xs) = omega arith in
          (one.0, ap (slice_get (y ∷ xs)) next ∙ one.1, one.2)
    ] refl h

-- at the place of an item that passes a test there is one that does
pub passes_at : {X : Type 0} (p : X → Bool) (xs : List X) (at : ℕ) → position p xs ≡ Some at
    → (x : X) × (slice_get xs at ≡ Some x) × IsTrue (p x)
passes_at p xs at h =
    let place = placed (nat_lt (position_or_len p xs) (length xs)) (position_or_len p xs) at h in
    let one = first_passes p xs (ltb-true (position_or_len p xs) (length xs) place.0) in
    (one.0, ap (slice_get xs) (sym place.1) ∙ one.1, one.2) where
      placed : (b : Bool) (i at : ℕ) → cond b (Some i) None ≡ Some at → IsTrue b × (i ≡ at)
      placed true i at h = (refl, cc)
      placed false i at h = absurd (let never : ⊥ = cc in never)

-- the events of a report of a node, as they are counted
abbrev pub with_node : Before → List Reported → GraphValue → ℕ → List Reported
with_node b made g node = made ++ at_number b.number (event_names g (node ∷ []))

joined_at : (r : Rules) (b : Before) (made : List Reported) (notes : Bool) (node : ℕ)
    (links : List Link) (at : ℕ) (c : OpenCase) (t : Turn) (js : List JoinedReport)
    → slice_get (turn_cases t) at ≡ Some c → Shares r b made (turn_cases t) t js
    → Shared r b (with_node b made (graph_of r t.state) node)
    (settle_at r notes at (case_joined node b.number links c) t)
joined_at r b made notes node links at c t js stands h =
    let g = graph_of r t.state in
    let more = with_node b made g node in
    let d = case_joined node b.number links c in
    let ls = js ++ joins c.number b.number (event_names g (node ∷ [])) in
    let p = parted (turn_cases t) at c stands in
    let whole = subst (λ (cs : List OpenCase). Shares r b made cs t js) p.whole h in
    let was : IsNow g b t.state.next js c = now_in (turn_cases t) at c stands h.now in
    let now = joined_case r b made p.before p.after c d t js (event_names g (node ∷ [])) refl
    (just_joined b.had js b.number c.number g node c.observed was.just) whole in
    elim (waits g t.state.time d) as (λ (w : Bool). Shared r b more (if w
    then with_cases (slice_set (turn_cases t) at d) t
    else decide r notes d (with_cases (remove (turn_cases t) at) t))) [
      | true ↦ record {
        joined = ls;
        shares =
            subst (λ (cs : List OpenCase).
            Shares r b more cs (with_cases (slice_set (turn_cases t) at d) t) ls)
            (sym (p.replaced d))
            (shares_with r b more (p.before ++ d ∷ p.after) (slice_set (turn_cases t) at d) t ls
            now);
      }
      | false ↦
          let out = with_cases (remove (turn_cases t) at) t in
          let done = decided r notes d out in
          record {
            joined = ls;
            shares =
                subst (λ (cs : List OpenCase). Shares r b more cs (decide r notes d out) ls)
                (sym p.removed ∙ sym (cases_stay r d out (decide r notes d out) done))
                (told r b more p.before p.after d out (decide r notes d out) ls done
                (shares_with r b more (p.before ++ d ∷ p.after) (remove (turn_cases t) at) t ls
                now));
          }
    ] where
      now_in : (cs : List OpenCase) (at : ℕ) (c : OpenCase) → slice_get cs at ≡ Some c
          → AllByRecursion (IsNow (graph_of r t.state) b t.state.next js) cs
          → IsNow (graph_of r t.state) b t.state.next js c
      now_in [] at c e a = absurd (let never : ⊥ = cc in never)
      now_in (d ∷ cs) zero c e a =
          let same : d ≡ c = cc in
          subst (λ (x : OpenCase). IsNow (graph_of r t.state) b t.state.next js x) same a.0
      now_in (d ∷ cs) (suc at) c e a = now_in cs at c e a.1

opened : (r : Rules) (b : Before) (made : List Reported) (notes : Bool) (node : ℕ)
    (links : List Link) (t : Turn) (js : List JoinedReport) → Shares r b made (turn_cases t) t js
    → Shared r b (with_node b made (graph_of r t.state) node)
    (opens_case r notes b.number node links t)
opened r b made notes node links t js h =
    let g = graph_of r t.state in
    let more = with_node b made g node in
    let c = case_opened t.state.next node t.state.time b.number links in
    let ls = js ++ joins t.state.next b.number (event_names g (node ∷ [])) in
    elim (may_open t.state) as (λ (o : Bool). may_open t.state ≡ o
    → Shared r b more (if o then settle r notes c (with_next t) else t)) [
      | true ↦ λ is. record {
        joined = ls;
        shares =
            settled_each r b more notes (c ∷ []) (with_next t) ls
            (opened_case r b made (turn_cases t) c t js refl h);
      }
      | false ↦ λ is. record {
        joined = js;
        shares = dropped r b made more (turn_cases t) t js is h;
      }
    ] refl

joined_or_opened : (r : Rules) (b : Before) (made : List Reported) (notes : Bool) (node : ℕ)
    (links : List Link) (o : Option ℕ) (t : Turn) (js : List JoinedReport)
    → place_of_report r node t ≡ o → Shares r b made (turn_cases t) t js
    → Shared r b (with_node b made (graph_of r t.state) node)
    (join_or_open r notes b.number node links o t)
joined_or_opened r b made notes node links None t js place h =
    opened r b made notes node links t js h
joined_or_opened r b made notes node links (Some at) t js place h =
    let takes : OpenCase → Bool = takes_report (graph_of r t.state) t.state.time node in
    let one = passes_at takes (turn_cases t) at place in
    subst (λ (o : Option OpenCase). Shared r b (with_node b made (graph_of r t.state) node)
    (join_case r notes b.number node links at o t)) (sym one.1)
    (joined_at r b made notes node links at one.0 t js one.1 h)

pub joined : (r : Rules) (b : Before) (made : List Reported) (notes : Bool) (node : ℕ)
    (payload : Pairs) (t : Turn) (js : List JoinedReport) → Shares r b made (turn_cases t) t js
    → Shared r b (with_node b made (graph_of r t.state) node)
    (join r notes b.number node payload t)
unfolding join
joined r b made notes node payload t js h =
    joined_or_opened r b made notes node (links_broken (configuration_of r t.state) node payload)
    (place_of_report r node t) t js refl h

-- the events of nodes, node by node
pub at_split : (n : ℕ) (xs ys : List EventName)
    → at_number n (xs ++ ys) ≡ at_number n xs ++ at_number n ys
at_split n [] ys = refl
at_split n (x ∷ xs) ys =
    ap (λ (l : List Reported). record { number = n; name = x } ∷ l) (at_split n xs ys)

pub joined_each : (r : Rules) (b : Before) (made : List Reported) (nodes : List ℕ) (t : Turn)
    (js : List JoinedReport) → Shares r b made (turn_cases t) t js
    → Shared r b (made ++ at_number b.number (event_names (graph_of r t.state) nodes))
    (join_each r b.number nodes t)
joined_each r b made [] t js h = record {
  joined = js;
  shares =
      subst (λ (l : List Reported). Shares r b l (turn_cases t) t js) (sym (append-nil made)) h;
}
joined_each r b made (node ∷ nodes) t js h =
    let g = graph_of r t.state in
    let u = join r false b.number node no_pairs t in
    let one = joined r b made false node no_pairs t js h in
    let rest = joined_each r b (with_node b made g node) nodes u one.joined one.shares in
    let same : graph_of r u.state ≡ g =
    ap (λ (k : ℕ). (configuration_at r k).graph) (join_conf r false b.number node no_pairs t) in
    let first = at_number b.number (event_names g (node ∷ [])) in
    let all : with_node b made g node
    ++ at_number b.number (event_names (graph_of r u.state) nodes)
    ≡ made ++ at_number b.number (event_names g (node ∷ nodes)) =
    ap (λ (x : GraphValue).
    with_node b made g node ++ at_number b.number (event_names x nodes)) same
    ∙ append_assoc made first (at_number b.number (event_names g nodes))
    ∙ ap (λ (l : List Reported). made ++ l)
    (sym (at_split b.number (event_names g (node ∷ [])) (event_names g nodes))
    ∙ ap (at_number b.number) (sym (names_split g node nodes))) in
    subst (λ (l : List Reported). Shared r b l (join_each r b.number nodes u)) all rest
