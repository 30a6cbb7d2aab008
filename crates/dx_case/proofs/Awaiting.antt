-- How long reports are awaited.
use Rattle.std.proofs.Common.{◌≡◌, ◌+◌, ◌<◌, ◌≤◌, ◌++◌, ℕ, true, List, [], ◌∷◌}
use Rattle.std.proofs.Common.{length, get_or, take, leb, sym, ap, subst, ◌∙◌, inl, inr, arith}
use Rattle.std.proofs.Common.{slice_get, Option, Some, None, refl}
use Rattle.std.proofs.lemmas.Bool.{false≢true}
use Rattle.std.proofs.lemmas.List.{take_more}
use Rattle.ev_incidence.specs.Sets.{is_member}
use Rattle.ev_graph.specs.Kinds.{has_kind, is_report_node, is_report_kind}
use Rattle.ev_graph.specs.declared.nodes.Node.{Node}
use Rattle.ev_graph.specs.declared.nodes.NodeKind.{NodeKind}
use Rattle.ev_graph.specs.declared.nodes.NodeKind.TheVariants.{Fault, Defect, Upset, Inner, Report}
use Rattle.ev_incidence.proofs.Occurrences.{in_push}
use Rattle.dx_explain.specs.Cases.{is_awaited}
use Rattle.dx_case.specs.Changes.{node_within, within_kind, within_if_any}
use Rattle.dx_case.specs.Cases.{AreAwaited}

pub awaited_none : (nodes : List Node) (age until : ℕ) → AreAwaited nodes [] age until
awaited_none nodes age until = record { each = λ e i. absurd (false≢true i) }

pub awaited_more : (nodes : List Node) (reports : List ℕ) (i x age until next : ℕ)
    → i < length reports → get_or reports i x ≡ x → next ≤ until
    → (age ≤ node_within nodes x → next ≤ node_within nodes x)
    → AreAwaited nodes (take i reports) age until
    → AreAwaited nodes (take (i + 1) reports) age next
awaited_more nodes reports i x age until next l is kept within h = record {
  each = λ e e_in stays.
      let last : take (i + 1) reports ≡ take i reports ++ x ∷ [] =
      take_more reports i x l ∙ ap (λ (y : ℕ). take i reports ++ y ∷ []) is in
      elim (in_push (take i reports) x e (ap (λ (xs : List ℕ). is_member xs e) (sym last) ∙ e_in)) [
        | inl old ↦ omega (arith, kept, h.each e old stays)
        | inr same ↦
            let P : ℕ → Type 0 = λ y. next ≤ node_within nodes y in
            let Q : ℕ → Type 0 = λ y. age ≤ node_within nodes y in
            subst P same (within (subst Q (sym same) stays))
      ];
}

-- a report is awaited at a time exactly where its window reaches it
kind_awaited : (opened time : ℕ) (kind : NodeKind) → is_report_kind kind ≡ true
    → is_awaited opened time kind ≡ leb time (opened + within_kind kind)
kind_awaited opened time (Report within) h = refl
kind_awaited opened time (Fault fit retire) h = absurd (false≢true h)
kind_awaited opened time (Defect fit retire) h = absurd (false≢true h)
kind_awaited opened time (Upset engine) h = absurd (false≢true h)
kind_awaited opened time Inner h = absurd (false≢true h)

node_awaited : (opened time : ℕ) (node : Option Node) → has_kind is_report_kind node ≡ true
    → has_kind (is_awaited opened time) node ≡ leb time (opened + within_if_any node)
node_awaited opened time None h = absurd (false≢true h)
node_awaited opened time (Some node) h = kind_awaited opened time node.kind h

pub awaited_is : (opened time : ℕ) (nodes : List Node) (e : ℕ) → is_report_node nodes e ≡ true
    → has_kind (is_awaited opened time) (slice_get nodes e)
    ≡ leb time (opened + node_within nodes e)
awaited_is opened time nodes e h = node_awaited opened time (slice_get nodes e) h
