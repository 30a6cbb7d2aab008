-- The tests of stories are the relations.
use Rattle.std.proofs.Common.{◌≡◌, ◌≢◌, ◌<◌, ◌≤◌, ◌&&◌, ◌||◌, not, ℕ, zero, suc, Bool, true}
use Rattle.std.proofs.Common.{List, [], ◌∷◌, eqb, ltb, length, slice_get, refl, sym, ap, ◌∙◌}
use Rattle.std.proofs.Common.{inl, inr, arith}
use Rattle.std.specs.List.{list_all, count_by}
use Rattle.std.specs.Prelude.{nat_le}
use Rattle.std.proofs.lemmas.Bool.{cases_Bool, cases_eq, cases_lt, and_parts, and_from, or_cases}
use Rattle.std.proofs.lemmas.Bool.{or_left, or_right, eq-eqb, eqb-true, ltb-true, false≢true}
use Rattle.std.proofs.lemmas.Bool.{both_ways, not-true, not_from_false, false_from_ne_true}
use Rattle.ev_incidence.specs.Sets.{NodeSet, is_member, IsSubset}
use Rattle.ev_graph.specs.Kinds.{is_root_kind, is_root_node, is_report_node}
use Rattle.ev_incidence.specs.Wiring.{Wiring}
use Rattle.ev_graph.specs.Wired.{causes_if_any, effects_if_any}
use Rattle.ev_graph.specs.Rules.{is_enough, is_met, IsProduced, IsShown}
use Rattle.ev_graph.specs.Kinds.{has_engine_below}
use Rattle.ev_graph.specs.Lawful.{GraphValue, IsGraph, is_in_range, are_below}
use Rattle.ev_graph.specs.declared.instances.Instance.{Instance}
use Rattle.ev_incidence.proofs.Occurrences.{filter_in, all_in, all_from}
use Rattle.dx_story.specs.Story.{IsStory}
use Rattle.dx_sets.specs.Engine.{CutsOf}
use Rattle.dx_story.specs.Greatest.{no_other_report}
use Rattle.ev_graph.proofs.KindBelow.{kind_below}
use Rattle.dx_explain.specs.Search.{every_below, some_below, IsSetBelow}
use Rattle.dx_explain.specs.Stories.{wiring_with, is_no_other_root, is_given, shows_all, is_fit}
use Rattle.dx_explain.specs.Stories.{is_story, reports_within, has_just}
use Rattle.dx_explain.proofs.Searches.{some_found, some_from, every_at, every_from}

effects_past : (is : List Instance) (j : ℕ) → length is ≤ j
    → effects_if_any (slice_get is j) ≡ []
effects_past [] j l = refl
effects_past (i ∷ is) zero l = absurd (omega (arith, l))
effects_past (i ∷ is) (suc j) l = effects_past is j (omega (arith, l))

causes_past : (is : List Instance) (j : ℕ) → length is ≤ j → causes_if_any (slice_get is j) ≡ []
causes_past [] j l = refl
causes_past (i ∷ is) zero l = absurd (omega (arith, l))
causes_past (i ∷ is) (suc j) l = causes_past is j (omega (arith, l))

effect_below : (n : ℕ) (is : List Instance) (j e : ℕ) → list_all (is_in_range n) is ≡ true
    → is_member (effects_if_any (slice_get is j)) e ≡ true → e < n
effect_below n [] j e h i = absurd (false≢true i)
effect_below n (x ∷ is) zero e h i =
    let p = and_parts (is_in_range n x) (list_all (is_in_range n) is) h in
    let q = and_parts (are_below n x.causes) (are_below n x.effects) p.0 in
    ltb-true e n (all_in (λ e. ltb e n) x.effects e q.1 i)
effect_below n (x ∷ is) (suc j) e h i =
    effect_below n is j e (and_parts (is_in_range n x) (list_all (is_in_range n) is) h).1 i

-- where it is so of members, and X has e, it is so of e
pub implied : (a b : Bool) → (not a || b) ≡ true → a ≡ true → b ≡ true
implied a b h here = elim (or_cases (not a) b h) [
  | inl none ↦ absurd (both_ways a (not-true a none) here)
  | inr there ↦ there
]

pub implies : (a b : Bool) → (a ≡ true → b ≡ true) → (not a || b) ≡ true
implies a b h = elim (cases_Bool a) [
  | inl here ↦ or_right (not a) b (h here)
  | inr away ↦ or_left (not a) b (not_from_false a away)
]

module _ (g : GraphValue) (cut : CutsOf) (root : ℕ) (X : NodeSet) where
  abbrev w : Wiring
  w = wiring_with g cut

  abbrev n : ℕ
  n = length g.nodes

  abbrev m : ℕ
  m = length g.instances

  abbrev effects : ℕ → List ℕ
  effects j = effects_if_any (slice_get g.instances j)

  effect_of : (e j : ℕ) → is_enough w X e j ≡ true → is_member (effects j) e ≡ true
  effect_of e j h =
      let p = and_parts (is_member (w.effects j) e) (nat_le (w.k j) (count_by X (w.causes j))) h
      in
      (filter_in (λ x. not (cut j x)) e (effects j) p.0).1

  place_below : (e j : ℕ) → is_enough w X e j ≡ true → j < m
  place_below e j h = elim (cases_lt j m) [
    | inl l ↦ l
    | inr past ↦ absurd (false≢true
        (ap (λ xs. is_member xs e) (sym (effects_past g.instances j past)) ∙ effect_of e j h))
  ]

  met_past : (e j : ℕ) → m ≤ j → is_met w X e j ≡ true
  met_past e j past =
      let c = is_member (causes_if_any (slice_get g.instances j)) e in
      or_left (not c) (nat_le (w.n j) (count_by X (w.effects j)))
      (not_from_false c (ap (λ xs. is_member xs e) (causes_past g.instances j past)))

  fit_at : (e : ℕ) → is_story g cut root X ≡ true → e < n → X e ≡ true
      → is_fit g cut root X e ≡ true
  unfolding is_story
  fit_at e h l here =
      let p = and_parts (is_root_node g.nodes root)
      (X root && every_below n (λ e. not (X e) || is_fit g cut root X e)) h in
      let q = and_parts (X root) (every_below n (λ e. not (X e) || is_fit g cut root X e)) p.1 in
      implied (X e) (is_fit g cut root X e)
      (every_at n (λ e. not (X e) || is_fit g cut root X e) e q.1 l) here

  head : is_story g cut root X ≡ true → (is_root_node g.nodes root ≡ true) × (X root ≡ true)
  unfolding is_story
  head h =
      let p = and_parts (is_root_node g.nodes root)
      (X root && every_below n (λ e. not (X e) || is_fit g cut root X e)) h in
      let q = and_parts (X root) (every_below n (λ e. not (X e) || is_fit g cut root X e)) p.1 in
      (p.0, q.0)

  fit_only : (e : ℕ) → is_fit g cut root X e ≡ true → is_root_node g.nodes e ≡ true → e ≡ root
  fit_only e f kind =
      let p = and_parts (is_no_other_root g root e)
      (is_given g cut root X e && shows_all g cut X e) f in
      eqb-true e root (implied (is_root_node g.nodes e) (eqb e root) p.0 kind)

  fit_caused : (e : ℕ) → is_fit g cut root X e ≡ true → e ≢ root → IsProduced w X e
  fit_caused e f ne =
      let p = and_parts (is_no_other_root g root e)
      (is_given g cut root X e && shows_all g cut X e) f in
      let q = and_parts (is_given g cut root X e) (shows_all g cut X e) p.1 in
      elim (or_cases (eqb e root) (some_below m (is_enough w X e)) q.0) [
        | inl same ↦ absurd (ne (eqb-true e root same))
        | inr some ↦
            let r = some_found m (is_enough w X e) some in
            record { place = r.0; enough = r.2 }
      ]

  fit_shown : (e : ℕ) → is_fit g cut root X e ≡ true → IsShown w X e
  fit_shown e f =
      let p = and_parts (is_no_other_root g root e)
      (is_given g cut root X e && shows_all g cut X e) f in
      let q = and_parts (is_given g cut root X e) (shows_all g cut X e) p.1 in
      record {
        each = λ j. elim (cases_lt j m) [
          | inl l ↦ every_at m (is_met w X e) j q.1 l
          | inr past ↦ met_past e j past
        ];
      }

  pub story_is : IsSetBelow n X → is_story g cut root X ≡ true → IsStory g.nodes w root X
  story_is below h = record {
    root_kind = (head h).0;
    has_root = (head h).1;
    only_root = λ e here kind. fit_only e (fit_at e h (below e here) here) kind;
    caused = λ e here ne. fit_caused e (fit_at e h (below e here) here) ne;
    shown = λ e here. fit_shown e (fit_at e h (below e here) here);
  }

  fit_from : IsStory g.nodes w root X → (e : ℕ) → X e ≡ true → is_fit g cut root X e ≡ true
  fit_from s e here =
      and_from (is_no_other_root g root e) (is_given g cut root X e && shows_all g cut X e)
      (implies (is_root_node g.nodes e) (eqb e root)
      (λ kind. eq-eqb e root (s.only_root e here kind)))
      (and_from (is_given g cut root X e) (shows_all g cut X e)
      (elim (cases_eq e root) [
        | inl same ↦ or_left (eqb e root) (some_below m (is_enough w X e)) (eq-eqb e root same)
        | inr ne ↦
            let c = s.caused e here ne in
            or_right (eqb e root) (some_below m (is_enough w X e))
            (some_from m (is_enough w X e) c.place (place_below e c.place c.enough) c.enough)
      ])
      (every_from m (is_met w X e) (λ j l. (s.shown e here).each j)))

  pub story_back : IsStory g.nodes w root X → is_story g cut root X ≡ true
  unfolding is_story
  story_back s =
      and_from (is_root_node g.nodes root)
      (X root && every_below n (λ e. not (X e) || is_fit g cut root X e)) s.root_kind
      (and_from (X root) (every_below n (λ e. not (X e) || is_fit g cut root X e)) s.has_root
      (every_from n (λ e. not (X e) || is_fit g cut root X e)
      (λ e l. implies (X e) (is_fit g cut root X e) (fit_from s e))))

  -- each member of a story is a node
  pub story_below : IsGraph g → IsStory g.nodes w root X → IsSetBelow n X
  story_below graph s e here = elim (cases_eq e root) [
    | inl same ↦ omega (arith, kind_below is_root_kind g.nodes root s.root_kind, same)
    | inr ne ↦
        let c = s.caused e here ne in
        let r = graph.counted.kindred.numbered.in_range in
        let p = and_parts (list_all (λ node. has_engine_below (length g.engines) node.kind) g.nodes)
        (list_all (λ engine. ltb engine.trip n) g.engines
        && list_all (is_in_range n) g.instances) r in
        let q = and_parts (list_all (λ engine. ltb engine.trip n) g.engines)
        (list_all (is_in_range n) g.instances) p.1 in
        effect_below n g.instances c.place e q.1 (effect_of e c.place c.enough)
  ]

module _ (g : GraphValue) (X : NodeSet) where
  pub within_is : (allowed : NodeSet) → IsSetBelow (length g.nodes) X
      → reports_within g allowed X ≡ true → IsSubset X (no_other_report g.nodes allowed)
  within_is allowed below h e here =
      implied (X e) (no_other_report g.nodes allowed e)
      (every_at (length g.nodes) (λ e. not (X e) || no_other_report g.nodes allowed e) e h
      (below e here)) here

  pub within_back : (allowed : NodeSet) → IsSubset X (no_other_report g.nodes allowed)
      → reports_within g allowed X ≡ true
  within_back allowed h =
      every_from (length g.nodes) (λ e. not (X e) || no_other_report g.nodes allowed e)
      (λ e l. implies (X e) (no_other_report g.nodes allowed e) (h e))

  pub just_is : (seen : List ℕ) → IsSetBelow (length g.nodes) X → has_just g seen X ≡ true
      → (e : ℕ) → is_member seen e ≡ (is_report_node g.nodes e && X e)
  just_is seen below h e =
      let p = and_parts (list_all (λ e. is_report_node g.nodes e && X e) seen)
      (reports_within g (is_member seen) X) h in
      elim (cases_Bool (is_member seen e)) [
        | inl there ↦ there ∙ sym (all_in (λ e. is_report_node g.nodes e && X e) seen e p.0 there)
        | inr away ↦ away ∙ sym (false_from_ne_true (is_report_node g.nodes e && X e) (λ both.
            let q = and_parts (is_report_node g.nodes e) (X e) both in
            both_ways (is_member seen e) away
            (implied (is_report_node g.nodes e) (is_member seen e)
            (within_is (is_member seen) below p.1 e q.1) q.0)))
      ]

  pub just_back : (seen : List ℕ)
      → ((e : ℕ) → is_member seen e ≡ (is_report_node g.nodes e && X e))
      → has_just g seen X ≡ true
  just_back seen h =
      and_from (list_all (λ e. is_report_node g.nodes e && X e) seen)
      (reports_within g (is_member seen) X)
      (all_from (λ e. is_report_node g.nodes e && X e) seen (λ e i. sym (h e) ∙ i))
      (within_back (is_member seen) (λ e here. implies (is_report_node g.nodes e)
      (is_member seen e)
      (λ report. h e ∙ and_from (is_report_node g.nodes e) (X e) report here)))
