-- What the checker's tests mean.
use Rattle.std.proofs.Common.{◌≡◌, ◌≢◌, ◌<◌, ◌&&◌, ◌||◌, not, ℕ, Bool, true, false}
use Rattle.std.proofs.Common.{eqb, ltb, leb, List, length, get_or, sym, ap, subst, ◌∙◌, arith}
use Rattle.std.proofs.Common.{inl, inr}
use Rattle.std.specs.List.{count_by, filter, list_all, list_any}
use Rattle.std.proofs.lemmas.Bool.{cases_eq, cases_Bool, and_parts, and_from}
use Rattle.std.proofs.lemmas.Bool.{or_cases, or_left, or_right, eqb-true, eq-eqb, lt-ltb}
use Rattle.std.proofs.lemmas.Bool.{false≢true, both_ways, not-true, not_from_false}
use Rattle.std.proofs.lemmas.Bool.{false_from_ne_true}
use Rattle.ev_incidence.specs.Sets.{NodeSet, is_member, ascends}
use Rattle.ev_graph.specs.Kinds.{is_root_node, is_report_node}
use Rattle.ev_incidence.specs.Wiring.{Wiring}
use Rattle.ev_incidence.specs.Table.{row_at, IncidenceValue, IsIncidence, wiring_of}
use Rattle.ev_graph.specs.Cutting.{is_cut, without}
use Rattle.ev_graph.specs.Lawful.{GraphValue, are_below, IsIncidenceOf}
use Rattle.ev_graph.specs.declared.nodes.Node.{Node}
use Rattle.ev_graph.specs.declared.instances.Link.{Link}
use Rattle.ev_incidence.proofs.Occurrences.{in_filter, filter_in, all_in, all_from, any_in}
use Rattle.ev_incidence.proofs.Occurrences.{any_from}
use Rattle.ev_incidence.proofs.Occurrences.{in_transposed, transposed_in, place_in}
use Rattle.ev_graph.proofs.Building.{wiring_same, below_at}
use Rattle.ev_graph.specs.Rules.{IsProduced, IsShown}
use Rattle.dx_story.specs.Story.{wiring_less, IsExactStory}
use Rattle.dx_story.specs.Tests.{gives_at, shows_at, is_fit_at, are_nodes}
use Rattle.dx_story.specs.Tests.{are_reports, has_one_root}

-- one member
module _ (v : IncidenceValue) (cut : ℕ → ℕ → Bool) (root : ℕ) (X : NodeSet) (inc : IsIncidence v)
  where
    abbrev w : Wiring
    w = without (wiring_of v) cut

    fit_caused : (e : ℕ) → is_fit_at v cut root X e ≡ true → e ≢ root → IsProduced w X e
    fit_caused e h ne =
        let p = and_parts (eqb e root || list_any (gives_at v cut X e) (row_at v.gets e))
        (list_all (shows_at v cut X) (row_at v.uses e)) h in
        elim (or_cases (eqb e root) (list_any (gives_at v cut X e) (row_at v.gets e)) p.0) [
          | inl same ↦ absurd (ne (eqb-true e root same))
          | inr some ↦
              let j = any_in (gives_at v cut X e) (row_at v.gets e) some in
              let q = and_parts (not (cut j.0 e))
              (leb (get_or v.k j.0 0) (count_by X (row_at v.causes j.0))) j.2 in
              record {
                place = j.0;
                enough = and_from (is_member (filter (λ x. not (cut j.0 x)) (row_at v.effects j.0))
                    e)
                    (leb (get_or v.k j.0 0) (count_by X (row_at v.causes j.0)))
                    (in_filter (λ x. not (cut j.0 x)) e (row_at v.effects j.0) q.0
                    (transposed_in v.effects v.gets e j.0 inc.gets_is j.1)) q.1;
              }
        ]

    fit_shown : (e : ℕ) → is_fit_at v cut root X e ≡ true → IsShown w X e
    fit_shown e h =
        let p = and_parts (eqb e root || list_any (gives_at v cut X e) (row_at v.gets e))
        (list_all (shows_at v cut X) (row_at v.uses e)) h in
        record {
          each = λ j. elim (cases_Bool (is_member (row_at v.causes j) e)) [
            | inl cause ↦ or_right (not (is_member (row_at v.causes j) e)) (shows_at v cut X j)
                (all_in (shows_at v cut X) (row_at v.uses e) j p.1
                (in_transposed v.causes v.uses e j inc.uses_is cause))
            | inr none ↦ or_left (not (is_member (row_at v.causes j) e)) (shows_at v cut X j)
                (not_from_false (is_member (row_at v.causes j) e) none)
          ];
        }

    fit_from : (e : ℕ) → (e ≢ root → IsProduced w X e) → IsShown w X e
        → is_fit_at v cut root X e ≡ true
    fit_from e caused shown =
        and_from (eqb e root || list_any (gives_at v cut X e) (row_at v.gets e))
        (list_all (shows_at v cut X) (row_at v.uses e))
        (elim (cases_eq e root) [
          | inl same ↦ or_left (eqb e root) (list_any (gives_at v cut X e) (row_at v.gets e))
              (eq-eqb e root same)
          | inr ne ↦
              let c = caused ne in
              let p = and_parts (is_member
              (filter (λ x. not (cut c.place x)) (row_at v.effects c.place))
              e) (leb (get_or v.k c.place 0) (count_by X (row_at v.causes c.place))) c.enough in
              let q = filter_in (λ x. not (cut c.place x)) e (row_at v.effects c.place) p.0 in
              or_right (eqb e root) (list_any (gives_at v cut X e) (row_at v.gets e))
              (any_from (gives_at v cut X e) (row_at v.gets e) c.place
              (in_transposed v.effects v.gets e c.place inc.gets_is q.1)
              (and_from (not (cut c.place e))
              (leb (get_or v.k c.place 0) (count_by X (row_at v.causes c.place))) q.0 p.1))
        ])
        (all_from (shows_at v cut X) (row_at v.uses e) (λ j i.
        let met = shown.each j in
        elim (or_cases (not (is_member (row_at v.causes j) e)) (shows_at v cut X j) met) [
          | inl none ↦ absurd (both_ways (is_member (row_at v.causes j) e)
              (not-true (is_member (row_at v.causes j) e) none)
              (transposed_in v.causes v.uses e j inc.uses_is i))
          | inr enough ↦ enough
        ]))

-- reports
reports_are : (nodes : List Node) (seen story : List ℕ) → are_reports nodes seen story ≡ true
    → (e : ℕ) → is_member seen e ≡ (is_report_node nodes e && is_member story e)
reports_are nodes seen story h e =
    let p = and_parts (list_all (λ x. is_report_node nodes x && is_member story x) seen)
    (list_all (λ x. not (is_report_node nodes x) || is_member seen x) story) h in
    elim (cases_Bool (is_member seen e)) [
      | inl there ↦ there ∙ sym
          (all_in (λ x. is_report_node nodes x && is_member story x) seen e p.0 there)
      | inr away ↦ away ∙ sym
          (false_from_ne_true (is_report_node nodes e && is_member story e) (λ both.
          let q = and_parts (is_report_node nodes e) (is_member story e) both in
          elim (or_cases (not (is_report_node nodes e)) (is_member seen e)
          (all_in (λ x. not (is_report_node nodes x) || is_member seen x) story e p.1 q.1)) [
            | inl none ↦ both_ways (is_report_node nodes e) (not-true (is_report_node nodes e) none)
                q.0
            | inr there ↦ both_ways (is_member seen e) away there
          ]))
    ]

pub reports_from : (nodes : List Node) (seen story : List ℕ)
    → ((e : ℕ) → is_member seen e ≡ (is_report_node nodes e && is_member story e))
    → are_reports nodes seen story ≡ true
reports_from nodes seen story h =
    and_from (list_all (λ x. is_report_node nodes x && is_member story x) seen)
    (list_all (λ x. not (is_report_node nodes x) || is_member seen x) story)
    (all_from (λ x. is_report_node nodes x && is_member story x) seen (λ x i. sym (h x) ∙ i))
    (all_from (λ x. not (is_report_node nodes x) || is_member seen x) story
    (λ x i. elim (cases_Bool (is_report_node nodes x)) [
      | inl report ↦ or_right (not (is_report_node nodes x)) (is_member seen x)
          (h x ∙ and_from (is_report_node nodes x) (is_member story x) report i)
      | inr other ↦ or_left (not (is_report_node nodes x)) (is_member seen x)
          (not_from_false (is_report_node nodes x) other)
    ]))

-- the root
only_root : (nodes : List Node) (root : ℕ) (story : List ℕ) → has_one_root nodes root story ≡ true
    → (e : ℕ) → is_member story e ≡ true → is_root_node nodes e ≡ true → e ≡ root
only_root nodes root story h e i r =
    let p = and_parts (is_root_node nodes root)
    (is_member story root && list_all (λ x. not (is_root_node nodes x) || eqb x root) story) h
    in
    let q = and_parts (is_member story root)
    (list_all (λ x. not (is_root_node nodes x) || eqb x root) story) p.1 in
    elim (or_cases (not (is_root_node nodes e)) (eqb e root)
    (all_in (λ x. not (is_root_node nodes x) || eqb x root) story e q.1 i)) [
      | inl none ↦ absurd (both_ways (is_root_node nodes e) (not-true (is_root_node nodes e) none)
          r)
      | inr same ↦ eqb-true e root same
    ]

pub root_from : (nodes : List Node) (root : ℕ) (story : List ℕ) → is_root_node nodes root ≡ true
    → is_member story root ≡ true
    → ((e : ℕ) → is_member story e ≡ true → is_root_node nodes e ≡ true → e ≡ root)
    → has_one_root nodes root story ≡ true
root_from nodes root story kind there only =
    and_from (is_root_node nodes root)
    (is_member story root && list_all (λ x. not (is_root_node nodes x) || eqb x root) story)
    kind
    (and_from (is_member story root)
    (list_all (λ x. not (is_root_node nodes x) || eqb x root) story)
    there
    (all_from (λ x. not (is_root_node nodes x) || eqb x root) story
    (λ x i. elim (cases_Bool (is_root_node nodes x)) [
      | inl root_kind ↦ or_right (not (is_root_node nodes x)) (eqb x root)
          (eq-eqb x root (only x i root_kind))
      | inr other ↦ or_left (not (is_root_node nodes x)) (eqb x root)
          (not_from_false (is_root_node nodes x) other)
    ])))

below_from : (n : ℕ) (xs : List ℕ) → ((i : ℕ) → i < length xs → get_or xs i 0 < n)
    → are_below n xs ≡ true
below_from n xs h = all_from (λ e. ltb e n) xs
    (λ x i. let p = place_in x xs i in lt-ltb x n (omega (arith, h p.0 p.1, p.2)))

pub nodes_from : (n : ℕ) (xs : List ℕ) → ascends xs ≡ true
    → ((i : ℕ) → i < length xs → get_or xs i 0 < n) → are_nodes n xs ≡ true
nodes_from n xs up below = and_from (ascends xs) (are_below n xs) up (below_from n xs below)

-- all of it
module _ (g : GraphValue) (v : IncidenceValue) (less : List Link) (root : ℕ) (seen story : List ℕ)
    (h : IsIncidenceOf (length g.nodes) g.instances v) where
  same : without (wiring_of v) (is_cut less) ≡ wiring_less g less
  same = ap (λ (w : Wiring). without w (is_cut less)) (wiring_same (length g.nodes) g.instances v h)

  pub exact_from : are_nodes (length g.nodes) seen ≡ true → are_nodes (length g.nodes) story ≡ true
      → 0 < length seen → are_reports g.nodes seen story ≡ true
      → has_one_root g.nodes root story ≡ true
      → list_all (is_fit_at v (is_cut less) root (is_member story)) story ≡ true
      → IsExactStory g less root seen story
  exact_from a b some reports one fit =
      let p = and_parts (ascends seen) (are_below (length g.nodes) seen) a in
      let q = and_parts (ascends story) (are_below (length g.nodes) story) b in
      let r = and_parts (is_root_node g.nodes root)
      (is_member story root && list_all (λ x. not (is_root_node g.nodes x) || eqb x root) story)
      one
      in
      record {
        seen_ascends = p.0;
        seen_below = λ i l. below_at (length g.nodes) seen i p.1 l;
        seen_some = some;
        story_ascends = q.0;
        story_below = λ i l. below_at (length g.nodes) story i q.1 l;
        is_story = record {
          root_kind = r.0;
          has_root = (and_parts (is_member story root)
              (list_all (λ x. not (is_root_node g.nodes x) || eqb x root) story) r.1).0;
          only_root = only_root g.nodes root story one;
          caused = λ e i ne. (let P : Wiring → Type 0 = λ w. IsProduced w (is_member story) e in
              subst P same (fit_caused v (is_cut less) root (is_member story) h.incidence e
              (all_in (is_fit_at v (is_cut less) root (is_member story)) story e fit i) ne));
          shown = λ e i. (let P : Wiring → Type 0 = λ w. IsShown w (is_member story) e in
              subst P same (fit_shown v (is_cut less) root (is_member story) h.incidence e
              (all_in (is_fit_at v (is_cut less) root (is_member story)) story e fit i)));
        };
        reports = reports_are g.nodes seen story reports;
      }

  pub fits_from : IsExactStory g less root seen story
      → list_all (is_fit_at v (is_cut less) root (is_member story)) story ≡ true
  fits_from t = all_from (is_fit_at v (is_cut less) root (is_member story)) story (λ e i.
      fit_from v (is_cut less) root (is_member story) h.incidence e
      (λ ne. let P : Wiring → Type 0 = λ w. IsProduced w (is_member story) e in
      subst P (sym same) (t.is_story.caused e i ne))
      (let P : Wiring → Type 0 = λ w. IsShown w (is_member story) e in
      subst P (sym same) (t.is_story.shown e i)))

-- what the checker answers
pub refused : {P : Type 0} → (P → ⊥) → (false ≡ true → P) × (P → false ≡ true)
refused no_story = (λ h. absurd (false≢true h), λ p. absurd (no_story p))
