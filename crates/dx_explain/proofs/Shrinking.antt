-- Why what is possible only shrinks, and when it is decided.
use Rattle.std.proofs.Common.{◌≡◌, ◌&&◌, not, ℕ, true, inl, inr, sym, ◌∙◌}
use Rattle.std.proofs.lemmas.Bool.{cases_Bool, and_parts, and_from, or_cases, or_left, or_right}
use Rattle.std.proofs.lemmas.Bool.{both_ways, not-true, not_from_false}
use Rattle.ev_incidence.specs.Sets.{NodeSet, IsSubset}
use Rattle.ev_graph.specs.Kinds.{is_report_node}
use Rattle.ev_graph.specs.Wired.{wiring}
use Rattle.ev_graph.specs.Lawful.{GraphValue}
use Rattle.dx_sets.specs.Engine.{CutsOf}
use Rattle.dx_sets.proofs.Cuts.{produced_fewer, shown_fewer}
use Rattle.dx_story.specs.Greatest.{no_other_report}
use Rattle.dx_explain.specs.Explaining.{IsPossible}
use Rattle.dx_explain.specs.Laws.{PossibleShrinks, SameGreatest, Explains, IsPending, Decided}
use Rattle.dx_story.proofs.Answers.{same_answer}

pub shrinks : PossibleShrinks
shrinks g cut fewer root seen allowed less_seen more_allowed s a c p =
    let f = p.story.story in
    record {
      set = p.set;
      story = record {
        story = record {
          root_kind = f.root_kind;
          has_root = f.has_root;
          only_root = f.only_root;
          caused = λ e h ne. produced_fewer (wiring g.instances) cut fewer p.set c e
              (f.caused e h ne);
          shown = λ e h. shown_fewer (wiring g.instances) cut fewer p.set c e (f.shown e h);
        };
        within = λ e h. a e (p.story.within e h);
      };
      all = λ e h. p.all e (s e h);
    }

agree : (g : GraphValue) (allowed other X : NodeSet)
    → ((e : ℕ) → is_report_node g.nodes e ≡ true → allowed e ≡ other e)
    → IsSubset X (no_other_report g.nodes allowed) → IsSubset X (no_other_report g.nodes other)
agree g allowed other X h w e x = elim (cases_Bool (is_report_node g.nodes e)) [
  | inl report ↦ elim (or_cases (not (is_report_node g.nodes e)) (allowed e) (w e x)) [
    | inl none ↦ absurd (both_ways (is_report_node g.nodes e)
        (not-true (is_report_node g.nodes e) none) report)
    | inr here ↦ or_right (not (is_report_node g.nodes e)) (other e) (sym (h e report) ∙ here)
  ]
  | inr none ↦ or_left (not (is_report_node g.nodes e)) (other e)
      (not_from_false (is_report_node g.nodes e) none)
]

pub greatest_agree : SameGreatest
greatest_agree g cut root allowed other X Y h x y e =
    same_answer (X e) (Y e)
    (y.greatest X (record {
      story = x.story.story;
      within = agree g allowed other X h x.story.within;
    }) e)
    (x.greatest Y (record {
      story = y.story.story;
      within = agree g other allowed Y (λ z r. sym (h z r)) y.story.within;
    }) e)

module _ (g : GraphValue) (cut : CutsOf) (root : ℕ) (seen allowed : NodeSet)
    (reports : IsSubset seen (is_report_node g.nodes)) (within : IsSubset seen allowed) where
  possible_explains : ((e : ℕ) → IsPending g cut seen allowed e → ⊥)
      → IsPossible g cut root seen allowed → Explains g cut root seen
  possible_explains none p = record {
    set = p.set;
    story = p.story.story;
    reports = λ e. same_answer (seen e) (is_report_node g.nodes e && p.set e)
        (λ s. and_from (is_report_node g.nodes e) (p.set e) (reports e s) (p.all e s))
        (λ b.
        let q = and_parts (is_report_node g.nodes e) (p.set e) b in
        elim (cases_Bool (seen e)) [
          | inl here ↦ here
          | inr away ↦ absurd (none e (record {
            report = q.0;
            unseen = away;
            root = root;
            set = p.set;
            story = p.story;
            all = p.all;
            occurs = q.1;
          }))
        ]);
  }

  explains_possible : Explains g cut root seen → IsPossible g cut root seen allowed
  explains_possible x = record {
    set = x.set;
    story = record {
      story = x.story;
      within = λ e h. elim (cases_Bool (is_report_node g.nodes e)) [
        | inl report ↦ or_right (not (is_report_node g.nodes e)) (allowed e)
            (within e (x.reports e ∙ and_from (is_report_node g.nodes e) (x.set e) report h))
        | inr none ↦ or_left (not (is_report_node g.nodes e)) (allowed e)
            (not_from_false (is_report_node g.nodes e) none)
      ];
    };
    all = λ e s. (and_parts (is_report_node g.nodes e) (x.set e) (sym (x.reports e) ∙ s)).1;
  }

pub when_decided : Decided
when_decided g cut root seen allowed reports within none = (
  possible_explains g cut root seen allowed reports within none,
  explains_possible g cut root seen allowed reports within,
)
