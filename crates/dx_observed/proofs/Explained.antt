-- What explains the nodes that a case observed explains its reports.
use Rattle.std.proofs.Common.{◌≡◌, ℕ, ◌==◌, Bool, true, false, ◌&&◌, ◌||◌, IsTrue, List, []}
use Rattle.std.proofs.Common.{◌∷◌, map, refl, sym, ap, ◌∙◌, arith, Option, Some, None, slice_get}
use Rattle.std.proofs.Common.{subst, inl, inr}
use Rattle.std.specs.List.{list_all, cons_option}
use Rattle.std.specs.Cmp.{tied_itself}
use Rattle.std.specs.Ordering.{is_eq, is_lt}
use Rattle.std.proofs.lemmas.Bool.{false≢true, and_parts, cases_lt, eq-eqb, eqb-true}
use Rattle.std.proofs.lemmas.Bool.{false_from_ne_true}
use Rattle.std.proofs.lemmas.Option.{same_Some}
use Rattle.fm_name.specs.Events.{event_cmp, event_cmp_ties, event_cmp_total, event_eq}
use Rattle.fm_name.specs.declared.events.EventName.{EventName}
use Rattle.fm_entry.specs.declared.list_event.ListEvent.{ListEvent}
use Rattle.fm_entry.specs.declared.list_event.ListKind.{ListKind}
use Rattle.fm_entry.specs.declared.list_event.ListKind.TheVariants.{Suspect as SuspectKind, Updated}
use Rattle.fm_entry.specs.declared.list_event.ListKind.TheVariants.{Undiagnosable}
use Rattle.fm_entry.specs.declared.list_event.ListKind.TheVariants.{Upset as UpsetWord}
use Rattle.fm_entry.specs.declared.list_event.ListKind.TheVariants.{Repaired as RepairedWord}
use Rattle.fm_core.specs.Meaning.{OpenCase}
use Rattle.ev_incidence.specs.Sets.{NodeSet, ascends_by, is_member}
use Rattle.ev_graph.specs.Kinds.{has_kind, is_report_kind, is_report_node}
use Rattle.ev_graph.specs.Lawful.{GraphValue, is_before_node}
use Rattle.ev_graph.specs.declared.nodes.Node.{Node}
use Rattle.ev_graph.specs.declared.nodes.NodeKind.{NodeKind}
use Rattle.dx_explain.specs.Cases.{cuts_of}
use Rattle.dx_explain.specs.Laws.{Explains}
use Rattle.dx_step.specs.Exact.{ByStories, AreAll, HasNone, IsExactFor, IsOn}
use Rattle.dx_step.specs.Said.{event_names}
use Rattle.dx_step.proofs.Names.{in_order}
use Rattle.dx_observed.specs.Reported.{JoinedReport, has_event, has_joined}
use Rattle.dx_observed.specs.ByReports.{ByReports, is_known, known_nodes}
use Rattle.dx_observed.proofs.Acting.{is_one}
use Rattle.dx_observed.proofs.Events.{has_split, or_nil}

event_same : (x : EventName) → event_eq x x ≡ true
event_same x = event_cmp_ties x x ∙ ap is_eq (tied_itself event_cmp_total x)

not_before : (x y : EventName) → x ≡ y → is_lt (event_cmp x y) ≡ true → ⊥
not_before x y e h =
    false≢true (sym (ap is_lt (ap (λ (z : EventName). event_cmp z y) e
    ∙ tied_itself event_cmp_total y)) ∙ h)

-- nodes of other numbers have other names
apart_names : (nodes : List Node) (d e : ℕ) (a b : Node)
    → IsTrue (ascends_by is_before_node nodes) → slice_get nodes d ≡ Some a
    → slice_get nodes e ≡ Some b → (d == e) ≡ false → event_eq a.name b.name ≡ false
apart_names nodes d e a b up i j apart =
    false_from_ne_true (event_eq a.name b.name) (λ h. never (is_one a.name b.name h)) where
      never : a.name ≡ b.name → ⊥
      never same =
          elim (cases_lt d e) [
            | inl low ↦ not_before a.name b.name same (in_order nodes d e a b up low i j)
            | inr high ↦ elim (cases_lt e d) [
              | inl low ↦
                  not_before b.name a.name (sym same) (in_order nodes e d b a up low j i)
              | inr other ↦
                  let tied : d ≡ e = omega (arith, high, other) in
                  false≢true (sym apart ∙ eq-eqb d e tied)
            ]
          ]

none_some : (node : Node) → None ≡ Some node → ⊥
none_some node h = cc

-- the name of a node stands for its number
name_here : (g : GraphValue) (d e : ℕ) (node : Node) → IsTrue (ascends_by is_before_node g.nodes)
    → slice_get g.nodes e ≡ Some node
    → has_event (event_names g (d ∷ [])) node.name ≡ (d == e)
name_here g d e node up stands =
    elim (slice_get g.nodes d) as (λ (o : Option Node). slice_get g.nodes d ≡ o
    → has_event (map (λ n. n.name) (cons_option o [])) node.name ≡ (d == e)) [
      | None ↦ λ is.
          sym (false_from_ne_true (d == e) (λ h. none_some node
          (sym is ∙ ap (slice_get g.nodes) (eqb-true d e h) ∙ stands)))
      | Some a ↦ λ is.
          sym (or_nil (event_eq a.name node.name))
          ∙ elim (d == e) as (λ (b : Bool). (d == e) ≡ b → event_eq a.name node.name ≡ b) [
            | true ↦ λ same.
                let one : a ≡ node =
                same_Some a node (sym is ∙ ap (slice_get g.nodes) (eqb-true d e same) ∙ stands) in
                ap (λ (z : Node). event_eq z.name node.name) one ∙ event_same node.name
            | false ↦ λ apart. apart_names g.nodes d e a node up is stands apart
          ] refl
    ] refl

names_have : (g : GraphValue) (es : List ℕ) (e : ℕ) (node : Node)
    → IsTrue (ascends_by is_before_node g.nodes) → slice_get g.nodes e ≡ Some node
    → has_event (event_names g es) node.name ≡ is_member es e
names_have g [] e node up stands = refl
names_have g (d ∷ es) e node up stands =
    has_split g d es node.name
    ∙ (λ i. name_here g d e node up stands i || names_have g es e node up stands i)

member_passes : (p : ℕ → Bool) (es : List ℕ) (e : ℕ) → IsTrue (list_all p es)
    → is_member es e ≡ true → p e ≡ true
member_passes p [] e h is = absurd (false≢true is)
member_passes p (d ∷ es) e h is =
    let parts = and_parts (p d) (list_all p es) h in
    elim (d == e) as (λ (b : Bool). (d == e) ≡ b → (b || is_member es e) ≡ true → p e ≡ true) [
      | true ↦ λ same k. ap p (sym (eqb-true d e same)) ∙ parts.0
      | false ↦ λ apart k. member_passes p es e parts.1 k
    ] refl is

-- what a case observed is the nodes of all its reports
pub known_are : (had : ℕ → EventName → Bool) (js : List JoinedReport) (m k : ℕ) (g : GraphValue)
    (es : List ℕ) → IsTrue (ascends_by is_before_node g.nodes)
    → IsTrue (list_all (is_report_node g.nodes) es)
    → ((x : EventName) → has_event (event_names g es) x ≡ (had k x || has_joined js m k x))
    → is_member es ≡ known_nodes had js m k g
known_are had js m k g es up reports just = λ i. λ e. at e i where
  at : (e : ℕ) → is_member es e ≡ is_known had js m k (slice_get g.nodes e)
  at e =
      elim (slice_get g.nodes e) as (λ (o : Option Node). slice_get g.nodes e ≡ o
      → is_member es e ≡ is_known had js m k o) [
        | None ↦ λ is.
            false_from_ne_true (is_member es e) (λ h. false≢true
            (sym (ap (has_kind is_report_kind) is)
            ∙ member_passes (is_report_node g.nodes) es e reports h))
        | Some node ↦ λ is.
            elim (is_report_kind node.kind) as (λ (b : Bool). is_report_kind node.kind ≡ b
            → is_member es e ≡ (b && (had k node.name || has_joined js m k node.name))) [
              | true ↦ λ kind. sym (names_have g es e node up is) ∙ just node.name
              | false ↦ λ kind.
                  false_from_ne_true (is_member es e) (λ h. false≢true
                  (sym (ap (has_kind is_report_kind) is ∙ kind)
                  ∙ member_passes (is_report_node g.nodes) es e reports h))
            ] refl
      ] refl

all_by : (had : ℕ → EventName → Bool) (js : List JoinedReport) (m : ℕ) (kind : NodeKind → Bool)
    (g : GraphValue) (c : OpenCase) (es : List ℕ)
    → is_member c.observed ≡ known_nodes had js m c.number g → AreAll ByStories kind g c es
    → AreAll (ByReports had js m) kind g c es
all_by had js m kind g c es same h = record {
  ascend = h.ascend;
  each = λ e. (
    λ is. let both = (h.each e).0 is in
        (both.0, subst (λ (X : NodeSet). Explains g (cuts_of c) e X) same both.1),
    λ both. (h.each e).1
        (both.0, subst (λ (X : NodeSet). Explains g (cuts_of c) e X) (sym same) both.1),
  );
}

none_by : (had : ℕ → EventName → Bool) (js : List JoinedReport) (m : ℕ) (kind : NodeKind → Bool)
    (g : GraphValue) (c : OpenCase) → is_member c.observed ≡ known_nodes had js m c.number g
    → HasNone ByStories kind g c → HasNone (ByReports had js m) kind g c
none_by had js m kind g c same h e is explains =
    h e is (subst (λ (X : NodeSet). Explains g (cuts_of c) e X) (sym same) explains)

-- what a word says of the events that it observed
abbrev pub IsJustly : (ℕ → EventName → Bool) → List JoinedReport → ℕ → ListEvent → Type 0
IsJustly had js m w =
    (x : EventName) → has_event w.observed x ≡ (had w.case.case x || has_joined js m w.case.case x)

on_known : (had : ℕ → EventName → Bool) (js : List JoinedReport) (m : ℕ) (g : GraphValue)
    (c : OpenCase) (w : ListEvent) → IsTrue (ascends_by is_before_node g.nodes) → IsOn g c w
    → IsJustly had js m w → is_member c.observed ≡ known_nodes had js m c.number g
on_known had js m g c w up on just =
    known_are had js m c.number g c.observed up on.reports (λ x.
    ap (λ (ys : List EventName). has_event ys x) (sym on.observed) ∙ just x
    ∙ ap (λ (k : ℕ). had k x || has_joined js m k x) on.number)

pub exact_by : (had : ℕ → EventName → Bool) (js : List JoinedReport) (m : ℕ) (g : GraphValue)
    (kind : ListKind) (w : ListEvent) → IsTrue (ascends_by is_before_node g.nodes)
    → IsJustly had js m w → IsExactFor ByStories g kind w
    → IsExactFor (ByReports had js m) g kind w
exact_by had js m g SuspectKind w up just h =
    let same = on_known had js m g h.of w up h.on just in
    record {
      of = h.of;
      on = h.on;
      faults = h.faults;
      some = h.some;
      all = all_by had js m _ g h.of h.faults same h.all;
      suspects = h.suspects;
    }
exact_by had js m g UpsetWord w up just h =
    let same = on_known had js m g h.of w up h.on just in
    record {
      of = h.of;
      on = h.on;
      none = none_by had js m _ g h.of same h.none;
      upsets = h.upsets;
      some = h.some;
      all = all_by had js m _ g h.of h.upsets same h.all;
      suspects = h.suspects;
    }
exact_by had js m g Undiagnosable w up just h =
    elim h [
      | inl k ↦
          let same = on_known had js m g k.of w up k.on just in
          inl (record {
            of = k.of;
            on = k.on;
            none = none_by had js m _ g k.of same k.none;
            suspects = k.suspects;
          })
      | inr k ↦ inr k
    ]
exact_by had js m g Updated w up just h = tt
exact_by had js m g RepairedWord w up just h = tt
