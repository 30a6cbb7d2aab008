-- Numbers of reports are put at their names one after another.
use Rattle.std.proofs.Common.{◌≡◌, ◌+◌, ◌<◌, ◌&&◌, ℕ, Bool, true, false, List, Option, Some, None}
use Rattle.std.proofs.Common.{slice_get, length, refl, sym, ap, ◌∙◌, if◌then◌else◌, nat_eq}
use Rattle.std.proofs.Common.{◌≤◌, inl, inr, arith}
use Rattle.std.proofs.lemmas.Option.{slice_get_past}
use Rattle.std.proofs.lemmas.Bool.{false≢true, cases_lt}
use Rattle.std.specs.Cmp.Lexicographic.{pointwise}
use Rattle.std.specs.HashMap.{HashMap, Updates}
use Rattle.fm_name.specs.declared.events.EventName.{EventName}
use Rattle.ev_graph.specs.Kinds.{is_report_kind}
use Rattle.ev_graph.specs.Lawful.{GraphValue, IsGraph}
use Rattle.ev_graph.specs.declared.nodes.Node.{Node}
use Rattle.dx_rules.proofs.Naming.{IsReportNamed, report_found}
use Rattle.dx_rules.specs.ReportIndex.{ReportKey, IndexValue, indexed_number}
use Rattle.dx_rules.specs.ReportIndex.{is_report_of, IndexesReports, PutsReport}
use Rattle.dx_rules.specs.ReportIndex.{IndexesFirst}

abbrev equal_keys : ReportKey → ReportKey → Bool
equal_keys x y = pointwise nat_eq x.0 y.0 && pointwise nat_eq x.1 y.1

-- a node that is a report
pub report_put : {S : Type 0} (old new : HashMap ReportKey ℕ S) (node : Node) (number : ℕ)
    (path class : List ℕ) → path ≡ node.name.path → class ≡ node.name.class
    → is_report_kind node.kind ≡ true → Updates equal_keys old new (path, class) (Some number)
    → PutsReport node number old.entries new.entries
report_put old new node number path class same_path same_class kind h name =
    h.0 (name.path, name.class)
    ∙ (λ i. if equal_keys (same_path i, same_class i) (name.path, name.class) then Some number
    else indexed_number old.entries name)
    ∙ sym (ap (λ (b : Bool). if b && equal_keys (node.name.path, node.name.class)
    (name.path, name.class) then Some number else indexed_number old.entries name) kind)

at_put : (nodes : List Node) (at : ℕ) (node : Node) (old new : IndexValue)
    → slice_get nodes at ≡ Some node → PutsReport node at old new → IndexesFirst nodes at old
    → (name : EventName) (found : ℕ) (b : Bool) → is_report_of name (Some node) ≡ b
    → indexed_number new name ≡ Some found → is_report_of name (slice_get nodes found) ≡ true
at_put nodes at node old new there put h name found true is f =
    let e : Some at ≡ Some found =
    sym (put name ∙ ap (λ (b : Bool). if b then Some at else indexed_number old name) is) ∙ f in
    let same : at ≡ found = cc in
    ap (λ i. is_report_of name (slice_get nodes i)) (sym same) ∙ ap (is_report_of name) there ∙ is
at_put nodes at node old new there put h name found false is f =
    h.found name found
    (sym (put name ∙ ap (λ (b : Bool). if b then Some at else indexed_number old name) is) ∙ f)

none_left : (nodes : List Node) (at : ℕ) (node : Node) (old new : IndexValue)
    → slice_get nodes at ≡ Some node → PutsReport node at old new → IndexesFirst nodes at old
    → (name : EventName) (i : ℕ) (b : Bool) → is_report_of name (Some node) ≡ b → i < at + 1
    → is_report_of name (slice_get nodes i) ≡ true → indexed_number new name ≡ None → ⊥
none_left nodes at node old new there put h name i true is low f none =
    let e : Some at ≡ None =
    sym (put name ∙ ap (λ (b : Bool). if b then Some at else indexed_number old name) is)
    ∙ none in
    let never : ⊥ = cc in never
none_left nodes at node old new there put h name i false is low f none =
    elim (cases_lt i at) [
      | inl below ↦ h.all name i below f
          (sym (put name ∙ ap (λ (b : Bool). if b then Some at else indexed_number old name) is)
          ∙ none)
      | inr above ↦
          let same : i ≡ at = omega (arith, low, above) in
          absurd (false≢true (sym (ap (λ j. is_report_of name (slice_get nodes j)) same
          ∙ ap (is_report_of name) there ∙ is) ∙ f))
    ]

-- one node more
pub node_put : (nodes : List Node) (at : ℕ) (node : Node) (old new : IndexValue)
    → slice_get nodes at ≡ Some node → PutsReport node at old new → IndexesFirst nodes at old
    → IndexesFirst nodes (at + 1) new
node_put nodes at node old new there put h = record {
  found = λ name found f.
      at_put nodes at node old new there put h name found (is_report_of name (Some node)) refl f;
  all = λ name i low f none.
      none_left nodes at node old new there put h name i (is_report_of name (Some node)) refl low f
      none;
}

-- all nodes
pub all_put : (g : GraphValue) (n : ℕ) (index : IndexValue) → IsGraph g → length g.nodes ≤ n
    → IndexesFirst g.nodes n index → IndexesReports g index
all_put g n index graph most h name =
    report_found g name (indexed_number index name) graph
    (elim (indexed_number index name) as (λ (o : Option ℕ). indexed_number index name ≡ o
    → IsReportNamed g.nodes name o) [
      | None ↦ λ is at f. elim (cases_lt at (length g.nodes)) [
        | inl below ↦ h.all name at (omega (arith, below, most)) f is
        | inr past ↦ absurd (false≢true
            (sym (ap (is_report_of name) (slice_get_past g.nodes at past)) ∙ f))
      ]
      | Some at ↦ λ is. h.found name at is
    ] refl)
