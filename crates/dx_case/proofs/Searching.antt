-- What searches from a report and from roots meet.
use Rattle.std.proofs.Common.{◌≡◌, ◌<◌, not, ℕ, zero, suc, true}
use Rattle.std.proofs.Common.{List, [], ◌∷◌, eqb, leb, length, get_or, refl, sym, ap, subst}
use Rattle.std.proofs.Common.{◌∙◌, inl, inr, arith, nat_cmp}
use Rattle.std.specs.List.{filter, list_all, count_by}
use Rattle.std.specs.List.Retain.{IsFiltered, DiffersFromLast}
use Rattle.std.specs.List.Sorted.{IsPermutation, IsSorted}
use Rattle.std.proofs.lemmas.Bool.{cases_eq, and_parts, or_left}
use Rattle.std.proofs.lemmas.Bool.{eq-eqb, leb-true}
use Rattle.ev_incidence.specs.Sets.{NodeSet, is_member}
use Rattle.ev_graph.specs.Kinds.{is_root_node, is_report_node}
use Rattle.ev_incidence.specs.Wiring.{Wiring}
use Rattle.ev_graph.specs.Wired.{wiring}
use Rattle.ev_graph.specs.Cutting.{without}
use Rattle.ev_graph.specs.Rules.{IsProduced}
use Rattle.ev_incidence.specs.Table.{row_at, IncidenceValue, IsIncidence, wiring_of}
use Rattle.ev_incidence.specs.Reached.{IsReach, CanSearch, MarkedValue}
use Rattle.ev_graph.specs.Lawful.{GraphValue, IsGraph, IsIncidenceOf}
use Rattle.ev_incidence.proofs.Occurrences.{in_filter, filter_in, all_from, in_transposed}
use Rattle.ev_incidence.proofs.Occurrences.{transposed_in}
use Rattle.ev_incidence.proofs.Occurrences.{row_in_range, in_at}
use Rattle.ev_graph.proofs.Building.{wiring_same}
use Rattle.dx_sets.specs.Engine.{CutsOf}
use Rattle.dx_story.specs.Story.{IsStory}
use Rattle.dx_live.specs.Region.{AreCounted, AreRising}
use Rattle.dx_live.proofs.Graphs.{graph_counted, graph_rising}
use Rattle.dx_live.proofs.Ordered.{once_ascends, once_members}
use Rattle.dx_live.proofs.Regions.{some_counted}
use Rattle.dx_case.specs.Candidates.{AreCovered}
use Rattle.dx_case.specs.Finding.{AreSorted, AreRootsOf}

-- what passes a test, sorted
pub sorted_is : (test : NodeSet) (numbers old sorted new : List ℕ) → old ≡ filter test numbers
    → IsPermutation old sorted → IsSorted nat_cmp sorted
    → IsFiltered (DiffersFromLast eqb) [] sorted new → AreSorted test numbers new
sorted_is test numbers old sorted new is perm up kept =
    let members : (e : ℕ) → is_member new e ≡ is_member (filter test numbers) e =
    λ e. once_members old sorted new perm up kept e ∙ ap (λ (xs : List ℕ). is_member xs e) is in
    record {
      ascend = once_ascends old sorted new perm up kept;
      from = λ e i. (filter_in test e numbers (sym (members e) ∙ i)).0;
      all = λ e i t. members e ∙ in_filter test e numbers t i;
    }

pub can_search_backwards : (v : IncidenceValue) (starts : List ℕ) (nodes places : MarkedValue)
    → IsIncidence v
    → nodes ≡ record { size = length v.uses; items = [] }
    → places ≡ record { size = length v.causes; items = [] }
    → ((i : ℕ) → i < length starts → get_or starts i 0 < length v.uses)
    → CanSearch v.gets v.causes starts nodes places
can_search_backwards v starts nodes places inc n p below = record {
  no_node = ap (λ (m : MarkedValue). m.items) n;
  no_place = ap (λ (m : MarkedValue). m.items) p;
  starts_below = λ i l. omega (arith, below i l, ap (λ (m : MarkedValue). m.size) n);
  index_below = λ e i l.
      let j = get_or (row_at v.gets e) i 0 in
      omega (
        arith,
        row_in_range v.effects j e
            (transposed_in v.effects v.gets e j inc.gets_is (in_at (row_at v.gets e) i l)),
        inc.effects_count,
        ap (λ (m : MarkedValue). m.size) p,
      );
  rows_below = λ j i l.
      let e = get_or (row_at v.causes j) i 0 in
      omega (
        arith,
        row_in_range v.uses e j
            (in_transposed v.causes v.uses e j inc.uses_is (in_at (row_at v.causes j) i l)),
        ap (λ (m : MarkedValue). m.size) n,
      );
}

-- a member of a story other than the root has a cause of lower rank in it
pub record HasCauseIn (w : Wiring) (rank : ℕ → ℕ) (X : NodeSet) (e : ℕ) : Type 0 where
  pub place : ℕ
  pub cause : ℕ
  pub is_cause : is_member (w.causes place) cause ≡ true
  pub is_effect : is_member (w.effects place) e ≡ true
  pub there : X cause ≡ true
  pub lower : rank cause < rank e

cause_in : (w : Wiring) (cut : CutsOf) (rank : ℕ → ℕ) (X : NodeSet) (e : ℕ) → AreCounted w
    → AreRising w rank → IsProduced (without w cut) X e → HasCauseIn w rank X e
cause_in w cut rank X e counted up c =
    let j = c.place in
    let b = and_parts (is_member (filter (λ y. not (cut j y)) (w.effects j)) e)
    (leb (w.k j) (count_by X (w.causes j))) c.enough in
    let effect = (filter_in (λ y. not (cut j y)) e (w.effects j) b.0).1 in
    let x = some_counted X (w.causes j) (omega (
      arith,
      counted.each j e effect,
      leb-true (w.k j) (count_by X (w.causes j)) b.1,
    )) in
    record {
      place = j;
      cause = x.0;
      is_cause = x.1;
      is_effect = effect;
      there = x.2;
      lower = up.each x.0 e (record { place = j; cause = x.1; effect = effect });
    }

module _ (g : GraphValue) (v : IncidenceValue) (graph : IsGraph g)
    (h : IsIncidenceOf (length g.nodes) g.instances v) where
  abbrev w : Wiring
  w = wiring_of v

  counted : AreCounted w
  counted =
      let P : Wiring → Type 0 = λ u. AreCounted u in
      subst P (sym (wiring_same (length g.nodes) g.instances v h)) (graph_counted g graph)

  up : AreRising w graph.rank
  up =
      let P : Wiring → Type 0 = λ u. AreRising u graph.rank in
      subst P (sym (wiring_same (length g.nodes) g.instances v h)) (graph_rising g graph)

  story_of : (root : ℕ) (cut : CutsOf) (X : NodeSet)
      → IsStory g.nodes (without (wiring g.instances) cut) root X
      → IsStory g.nodes (without w cut) root X
  story_of root cut X s =
      let P : Wiring → Type 0 = λ u. IsStory g.nodes (without u cut) root X in
      subst P (sym (wiring_same (length g.nodes) g.instances v h)) s

  -- backwards from a member of a story the root is met
  back : (root : ℕ) (cut : CutsOf) (X : NodeSet) (starts nodes places : List ℕ)
      → IsStory g.nodes (without w cut) root X → IsReach v.gets v.causes starts nodes places
      → (fuel e : ℕ) → graph.rank e < fuel → X e ≡ true → is_member nodes e ≡ true
      → is_member nodes root ≡ true
  back root cut X starts nodes places s r zero e low here e_in = absurd (omega (arith, low))
  back root cut X starts nodes places s r (suc fuel) e low here e_in = elim (cases_eq e root) [
    | inl same ↦ let P : ℕ → Type 0 = λ x. is_member nodes x ≡ true in subst P same e_in
    | inr ne ↦
        let c = cause_in w cut graph.rank X e counted up (s.caused e here ne) in
        let j_in = r.out e c.place e_in
        (in_transposed v.effects v.gets e c.place h.incidence.gets_is c.is_effect) in
        back root cut X starts nodes places s r fuel c.cause (omega (arith, low, c.lower)) c.there
        (r.into c.place c.cause j_in c.is_cause)
  ]

  -- forwards from the root each member is met
  forth : (root : ℕ) (cut : CutsOf) (X : NodeSet) (starts nodes places : List ℕ)
      → IsStory g.nodes (without w cut) root X → IsReach v.uses v.effects starts nodes places
      → is_member starts root ≡ true → (fuel e : ℕ) → graph.rank e < fuel → X e ≡ true
      → is_member nodes e ≡ true
  forth root cut X starts nodes places s r start zero e low here = absurd (omega (arith, low))
  forth root cut X starts nodes places s r start (suc fuel) e low here = elim (cases_eq e root) [
    | inl same ↦ let P : ℕ → Type 0 = λ x. is_member nodes x ≡ true in
        subst P (sym same) (r.starts_in root start)
    | inr ne ↦
        let c = cause_in w cut graph.rank X e counted up (s.caused e here ne) in
        let c_in = forth root cut X starts nodes places s r start fuel c.cause
        (omega (arith, low, c.lower)) c.there in
        r.into c.place e (r.out c.cause c.place c_in
        (in_transposed v.causes v.uses c.cause c.place h.incidence.uses_is c.is_cause)) c.is_effect
  ]

  pub roots_are : (node : ℕ) (nodes places roots : List ℕ)
      → IsReach v.gets v.causes (node ∷ []) nodes places
      → AreSorted (is_root_node g.nodes) nodes roots → AreRootsOf g node roots
  roots_are node nodes places roots r s = record {
    ascend = s.ascend;
    each = s.from;
    all = λ root cut allowed X story here.
        s.all root (back root cut X (node ∷ []) nodes places (story_of root cut X story.story) r
        (suc (graph.rank node)) node (omega arith) here (r.starts_in node
        (or_left (eqb node node) (is_member [] node) (eq-eqb node node refl))))
        story.story.root_kind;
  }

  pub reports_cover : (starts nodes places reports : List ℕ)
      → IsReach v.uses v.effects starts nodes places
      → AreSorted (is_report_node g.nodes) nodes reports → AreCovered g starts reports
  reports_cover starts nodes places reports r s = record {
    each = λ root cut allowed X start story e here report.
        s.all e (forth root cut X starts nodes places (story_of root cut X story.story) r start
        (suc (graph.rank e)) e (omega arith) here) report;
  }

pub sorted_all : (test : NodeSet) (numbers list : List ℕ) → AreSorted test numbers list
    → list_all test list ≡ true
sorted_all test numbers list s = all_from test list s.from
