-- The greatest set within what may stay is the greatest story.
use Rattle.std.proofs.Common.{◌≡◌, ◌<◌, ◌≤◌, ◌&&◌, ◌||◌, not, ℕ, true, false}
use Rattle.std.proofs.Common.{eqb, ltb, List, [], length, sym, ap, subst, ◌∙◌}
use Rattle.std.proofs.Common.{arith, inl, inr}
use Rattle.std.specs.List.{list_all}
use Rattle.std.proofs.lemmas.List.{length-map}
use Rattle.std.proofs.lemmas.Bool.{cases_Bool, and_parts, and_from, or_cases, or_left}
use Rattle.std.proofs.lemmas.Bool.{or_right, eqb-true, eq-eqb, lt-ltb, both_ways, not-true}
use Rattle.std.proofs.lemmas.Bool.{not_from_false, not_from_true, and_right}
use Rattle.ev_incidence.specs.Sets.{NodeSet, is_member, has_mark, IsSubset}
use Rattle.ev_graph.specs.Kinds.{is_root_kind, is_root_node}
use Rattle.ev_incidence.specs.Wiring.{Wiring}
use Rattle.ev_graph.specs.Wired.{wiring}
use Rattle.ev_incidence.specs.Table.{IncidenceValue}
use Rattle.ev_graph.specs.Cutting.{without}
use Rattle.ev_graph.specs.Lawful.{GraphValue, IsIncidenceOf}
use Rattle.ev_incidence.proofs.Occurrences.{all_in, all_from}
use Rattle.ev_graph.proofs.Building.{wiring_same}
use Rattle.dx_sets.specs.Fit.{IsFit, IsGreatestFit}
use Rattle.dx_sets.specs.Sets.{SetsValue}
use Rattle.dx_sets.specs.Engine.{AreSized, AreExact, AreFilled, IsSteady, SettlesTo, HaveLeftBelow}
use Rattle.dx_sets.specs.Engine.{CutsOf, wiring_cut}
use Rattle.dx_sets.proofs.Leaving.{marked_below}
use Rattle.dx_sets.proofs.Filling.{greatest_at_end}
use Rattle.dx_story.specs.Greatest.{no_other_report}
use Rattle.dx_explain.specs.Explaining.{may_stay, set_of, FitsGraph, IsPossible}
use Rattle.dx_story.specs.Greatest.{IsAllowedStory, IsGreatestStory}
use Rattle.dx_explain.specs.Explaining.{IsExplanation}
use Rattle.ev_graph.proofs.KindBelow.{kind_below}

-- a story with allowed reports is fit, and within what may stay
module _ (g : GraphValue) (cut : CutsOf) (root : ℕ) (allowed Y : NodeSet)
    (h : IsAllowedStory g cut root allowed Y) where
  story_fit : IsFit (without (wiring g.instances) cut) root Y
  story_fit = record { caused = h.story.caused; shown = h.story.shown }

  story_stays : IsSubset Y (may_stay g.nodes root allowed)
  story_stays e here =
      and_from (not (is_root_node g.nodes e) || eqb e root) (no_other_report g.nodes allowed e)
      (elim (cases_Bool (is_root_node g.nodes e)) [
        | inl root_kind ↦ or_right (not (is_root_node g.nodes e)) (eqb e root)
            (eq-eqb e root (h.story.only_root e here root_kind))
        | inr other ↦ or_left (not (is_root_node g.nodes e)) (eqb e root)
            (not_from_false (is_root_node g.nodes e) other)
      ]) (h.within e here)

module _ (g : GraphValue) (cut : CutsOf) (root : ℕ) (allowed X : NodeSet)
    (kind : is_root_node g.nodes root ≡ true)
    (h : IsGreatestFit (without (wiring g.instances) cut) root (may_stay g.nodes root allowed) X)
  where
    pub greatest_story : X root ≡ true → IsGreatestStory g cut root allowed X
    greatest_story there = record {
      story = record {
        story = record {
          root_kind = kind;
          has_root = there;
          only_root = λ e here root_kind.
              let p = and_parts (not (is_root_node g.nodes e) || eqb e root)
              (no_other_report g.nodes allowed e) (h.within e here) in
              elim (or_cases (not (is_root_node g.nodes e)) (eqb e root) p.0) [
                | inl none ↦ absurd (both_ways (is_root_node g.nodes e)
                    (not-true (is_root_node g.nodes e) none) root_kind)
                | inr same ↦ eqb-true e root same
              ];
          caused = h.fit.caused;
          shown = h.fit.shown;
        };
        within = λ e here. (and_parts (not (is_root_node g.nodes e) || eqb e root)
            (no_other_report g.nodes allowed e) (h.within e here)).1;
      };
      greatest = λ Y y. h.every Y (story_fit g cut root allowed Y y)
          (story_stays g cut root allowed Y y);
    }

    pub possible_inside : (seen : NodeSet) (p : IsPossible g cut root seen allowed)
        → (X root ≡ true) × IsSubset seen X
    possible_inside seen p =
        let inside = h.every p.set (story_fit g cut root allowed p.set p.story)
        (story_stays g cut root allowed p.set p.story) in
        (inside root p.story.story.has_root, λ e i. inside e (p.all e i))

    -- what the answer of the search is
    pub answers_yes : (seen : List ℕ) → (X root && list_all X seen) ≡ true
        → IsExplanation g cut root (is_member seen) allowed X
    answers_yes seen t =
        let p = and_parts (X root) (list_all X seen) t in
        record { is = greatest_story p.0; all = λ e i. all_in X seen e p.1 i }

    pub answers_no : (seen : List ℕ) → (X root && list_all X seen) ≡ false
        → IsPossible g cut root (is_member seen) allowed → ⊥
    answers_no seen f p =
        let q = possible_inside (is_member seen) p in
        both_ways (X root && list_all X seen) f
        (and_from (X root) (list_all X seen) q.0 (all_from X seen q.1))

pub root_possible : (g : GraphValue) (cut : CutsOf) (root : ℕ) (seen allowed : NodeSet)
    → IsPossible g cut root seen allowed → is_root_node g.nodes root ≡ true
root_possible g cut root seen allowed p = p.story.story.root_kind

-- what the calls of the solver come to
module _ (g : GraphValue) (v : IncidenceValue) (h : IsIncidenceOf (length g.nodes) g.instances v)
  where
    causes_count : length v.causes ≡ length g.instances
    causes_count = ap length h.causes ∙ length-map g.instances (λ i. i.causes)

    pub sized_of : (s : SetsValue) → FitsGraph g s → AreSized v s
    sized_of s f = record {
      marks = f.marks ∙ sym h.nodes;
      support = f.support ∙ sym h.nodes;
      causes_left = f.causes_left ∙ sym causes_count;
      effects_left = f.effects_left ∙ sym causes_count;
    }

    pub fits_of : (s : SetsValue) → length g.nodes ≤ 65536 → AreSized v s → FitsGraph g s
    fits_of s few f = record {
      few = few;
      marks = f.marks ∙ h.nodes;
      support = f.support ∙ h.nodes;
      causes_left = f.causes_left ∙ causes_count;
      effects_left = f.effects_left ∙ causes_count;
    }

    module _ (cut : CutsOf) (root : ℕ) (allowed : NodeSet) (full s t : SetsValue)
        (kind : is_root_node g.nodes root ≡ true)
        (exact : AreExact v cut full [] []) (filled : AreFilled v full)
        (left : HaveLeftBelow (λ e. not (may_stay g.nodes root allowed e)) (length full.marks)
        full s)
        (steady : IsSteady v cut root t) (over : t.pending ≡ [])
        (settles : SettlesTo v cut root s t) where
      low : IsSubset (has_mark s.marks) (may_stay g.nodes root allowed)
      low e here =
          let m = may_stay g.nodes root allowed e in
          let p = and_parts (has_mark full.marks e) (not (ltb e (length full.marks) && not m))
          (sym (left.each e) ∙ here) in
          let e_in = marked_below full.marks e p.0 in
          elim (cases_Bool m) [
            | inl stays ↦ stays
            | inr goes ↦ absurd (both_ways (ltb e (length full.marks) && not m)
                (not-true (ltb e (length full.marks) && not m) p.1)
                (and_from (ltb e (length full.marks)) (not m) (lt-ltb e (length full.marks) e_in)
                (not_from_false m goes)))
          ]

      high : (e : ℕ) → e < length v.uses → may_stay g.nodes root allowed e ≡ true
          → has_mark s.marks e ≡ true
      high e e_in stays =
          let m = may_stay g.nodes root allowed e in
          left.each e ∙ and_from (has_mark full.marks e) (not (ltb e (length full.marks) && not m))
          (filled.each e e_in)
          (not_from_false (ltb e (length full.marks) && not m)
          (and_right (ltb e (length full.marks)) (not m) (not_from_true m stays)))

      pub solved : IsGreatestFit (without (wiring g.instances) cut) root
          (may_stay g.nodes root allowed)
          (set_of t)
      solved =
          let same : wiring_cut v cut ≡ without (wiring g.instances) cut =
          ap (λ (w : Wiring). without w cut)
          (wiring_same (length g.nodes) g.instances v h) in
          let P : Wiring → Type 0 = λ w. IsGreatestFit w root (may_stay g.nodes root allowed)
          (set_of t) in
          subst P same (greatest_at_end v cut steady.incidence root
          (may_stay g.nodes root allowed) s t
          (omega (arith, kind_below is_root_kind g.nodes root kind, h.nodes)) steady over settles.shrinks
          settles.keeps low high)
