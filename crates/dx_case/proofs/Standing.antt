-- What candidates say of a case: which reports are pending, and which roots explain it.
use Rattle.std.proofs.Common.{◌≡◌, ◌&&◌, ◌||◌, not, ℕ, Bool, true, false, List, []}
use Rattle.std.proofs.Common.{◌∷◌, map, slice_get, refl, sym, ap, subst, ◌∙◌, inl, inr}
use Rattle.std.proofs.Common.{Option, Some, None}
use Rattle.std.specs.List.{filter, list_all}
use Rattle.std.proofs.lemmas.Bool.{cases_Bool, and_parts, and_from, or_cases, or_left, or_right}
use Rattle.std.proofs.lemmas.Bool.{both_ways, not-true, not_from_false, false_from_ne_true}
use Rattle.ev_incidence.specs.Sets.{NodeSet, is_member, ascends, IsSubset}
use Rattle.ev_graph.specs.Kinds.{has_kind, is_report_node}
use Rattle.ev_graph.specs.Lawful.{GraphValue}
use Rattle.ev_graph.specs.declared.nodes.NodeKind.{NodeKind}
use Rattle.ev_incidence.proofs.Occurrences.{all_in, any_in, any_from, in_filter, filter_in}
use Rattle.dx_sets.specs.Engine.{CutsOf}
use Rattle.dx_story.specs.Greatest.{IsAllowedStory}
use Rattle.dx_explain.specs.Explaining.{IsPossible}
use Rattle.dx_explain.specs.Laws.{Explains, IsPending}
use Rattle.dx_story.proofs.Answers.{same_answer}
use Rattle.dx_explain.proofs.Shrinking.{when_decided}
use Rattle.dx_live.specs.Live.{live_root, live_set}
use Rattle.fm_core.specs.Meaning.{OpenCase}
use Rattle.dx_explain.specs.Cases.{cuts_of, is_allowed, is_pending, waits, takes_report, blamed}
use Rattle.dx_explain.proofs.Telling.{implied}
use Rattle.dx_explain.proofs.Meaning.{pending, waiting}
use Rattle.dx_explain.proofs.Blaming.{blamed_from, in_blamed, blamed_ascends}
use Rattle.dx_case.specs.declared.candidate.Candidate.{Candidate}
use Rattle.dx_case.specs.declared.case.Case.{Case}
use Rattle.dx_case.specs.Candidates.{roots_in, covers, is_held, is_left, is_of_kind}
use Rattle.dx_case.specs.Cases.{open_of, allowed_at, waits_at, takes_at, IsCaseOf}
use Rattle.dx_case.proofs.Elements.{all_at, some_at, at_some, made_from, ascends_part}
use Rattle.dx_case.proofs.Elements.{same_list}

-- what was observed is allowed
pub observed_allowed : (g : GraphValue) (time : Option ℕ) (c : OpenCase)
    → IsSubset (is_member c.observed) (allowed_at g time c)
observed_allowed g None c e i = i
observed_allowed g (Some time) c e i =
    or_left (is_member c.observed e) (has_kind _ (slice_get g.nodes e)) i

module _ (g : GraphValue) (c : Case) (h : IsCaseOf g c) where
  abbrev open_case : OpenCase
  open_case = open_of c

  abbrev cut : CutsOf
  cut = cuts_of open_case

  abbrev observed : NodeSet
  observed = is_member c.observed.items

  abbrev allowed : NodeSet
  allowed = allowed_at g c.time open_case

  abbrev Pending : ℕ → Type 0
  Pending e = IsPending g cut observed allowed e

  abbrev left : ℕ → Bool
  left e = is_left c.candidates.items c.observed.items e

  -- a report that is left is pending
  pub left_pending : (e : ℕ) → is_member c.reports.items e ≡ true → left e ≡ true → Pending e
  left_pending e e_in l =
      let p = and_parts (not (observed e)) (is_held c.candidates.items e) l in
      let s = some_at (λ (a : Candidate). live_set a.live e) c.candidates.items p.1 in
      let a = s.1 in
      let k = and_parts (live_set a.live (live_root a.live))
      (list_all (live_set a.live) c.observed.items)
      (all_at (covers c.observed.items) c.candidates.items s.0 a h.kept s.2) in
      record {
        report = all_in (is_report_node g.nodes) c.reports.items e h.candidates.reports_are e_in;
        unseen = not-true (observed e) p.0;
        root = live_root a.live;
        set = live_set a.live;
        story = (h.candidates.each s.0 a s.2).best.best.story k.0;
        all = λ d i. all_in (live_set a.live) c.observed.items d k.1 i;
        occurs = s.3;
      }

  pending_in : (e : ℕ) → Pending e → is_member c.reports.items e ≡ true
  pending_in e x = h.candidates.covered.each x.root cut allowed x.set
      (h.candidates.all x.root (record { set = x.set; story = x.story; all = x.all })) x.story e
      x.occurs x.report

  pending_left : (e : ℕ) → Pending e → left e ≡ true
  pending_left e x =
      let r = made_from (λ (a : Candidate). a.root) c.candidates.items x.root
      (h.candidates.all x.root (record { set = x.set; story = x.story; all = x.all })) in
      let a = r.1 in
      let k = h.candidates.each r.0 a r.2 in
      let Q : ℕ → Type 0 = λ y. IsAllowedStory g cut y allowed
      x.set in
      let inside = k.best.best.every x.set (subst Q (sym (k.root ∙ r.3)) x.story) in
      and_from (not (observed e)) (is_held c.candidates.items e)
      (not_from_false (observed e) x.unseen)
      (at_some (λ (b : Candidate). live_set b.live e) c.candidates.items r.0 a r.2
      (inside e x.occurs))

  -- once a case is finished nothing is pending
  pub none_finished : (e : ℕ) → c.time ≡ None → Pending e → ⊥
  none_finished e t x =
      let within : allowed e ≡ true = implied (is_report_node g.nodes e) (allowed e)
      (x.story.within e x.occurs) x.report in
      both_ways (observed e) x.unseen
      (sym (ap (λ (o : Option ℕ). allowed_at g o open_case e) t) ∙ within)

  any_left : c.waiting ≡ true → (e : ℕ) × Pending e
  any_left w =
      let s = any_in left c.reports.items (sym h.waiting ∙ w) in
      (s.0, left_pending s.0 s.1 s.2)

  left_any : (e : ℕ) → Pending e → c.waiting ≡ true
  left_any e x = h.waiting ∙ any_from left c.reports.items e (pending_in e x) (pending_left e x)

  waits_some : (time : ℕ) → c.time ≡ Some time → c.waiting ≡ waits g time open_case
  waits_some time t =
      let same : allowed ≡ is_allowed g time open_case =
      ap (λ (o : Option ℕ). allowed_at g o open_case) t in
      let P : NodeSet → ℕ → Type 0 = λ k e. IsPending g cut observed k e in
      let w = waiting g open_case time h.graph in
      same_answer c.waiting (waits g time open_case)
      (λ on.
      let s = any_left on in
      let Q : NodeSet → Type 0 = λ k. P k s.0 in
      w.1 (record { report = s.0; pending = subst Q same s.1 }))
      (λ on.
      let x = w.0 on in
      let Q : NodeSet → Type 0 = λ k. P k x.report in
      left_any x.report (subst Q (sym same) x.pending))

  waits_none : c.time ≡ None → c.waiting ≡ false
  waits_none t = false_from_ne_true c.waiting (λ on.
      let s = any_left on in none_finished s.0 t s.1)

  waits_by : (o : Option ℕ) → c.time ≡ o → c.waiting ≡ waits_at g o open_case
  waits_by None t = waits_none t
  waits_by (Some time) t = waits_some time t

  pub waits_is_case : c.waiting ≡ waits_at g c.time open_case
  waits_is_case = waits_by c.time refl

  -- what joins
  abbrev joins : ℕ → Bool
  joins e = observed e || (is_member c.reports.items e && is_held c.candidates.items e)

  takes_some : (time e : ℕ) → c.time ≡ Some time → joins e ≡ takes_report g time e open_case
  takes_some time e t =
      let same : allowed ≡ is_allowed g time open_case =
      ap (λ (o : Option ℕ). allowed_at g o open_case) t in
      let Q : NodeSet → Type 0 = λ k. IsPending g cut observed k e in
      let p = pending g open_case time e h.graph in
      let r = is_member c.reports.items e && is_held c.candidates.items e in
      same_answer (joins e) (takes_report g time e open_case)
      (λ on. elim (cases_Bool (observed e)) [
        | inl seen ↦ or_left (observed e) (is_pending g time open_case e) seen
        | inr unseen ↦ or_right (observed e) (is_pending g time open_case e)
            (elim (or_cases (observed e) r on) [
              | inl seen ↦ absurd (both_ways (observed e) unseen seen)
              | inr there ↦
                  let q = and_parts (is_member c.reports.items e) (is_held c.candidates.items e)
                  there in
                  p.1 (subst Q same (left_pending e q.0
                  (and_from (not (observed e)) (is_held c.candidates.items e)
                  (not_from_false (observed e) unseen) q.1)))
            ])
      ])
      (λ on. elim (or_cases (observed e) (is_pending g time open_case e) on) [
        | inl seen ↦ or_left (observed e) r seen
        | inr may ↦
            let x = subst Q (sym same) (p.0 may) in
            or_right (observed e) r
            (and_from (is_member c.reports.items e) (is_held c.candidates.items e) (pending_in e x)
            (and_parts (not (observed e)) (is_held c.candidates.items e) (pending_left e x)).1)
      ])

  takes_none : (e : ℕ) → c.time ≡ None → joins e ≡ observed e
  takes_none e t =
      let r = is_member c.reports.items e && is_held c.candidates.items e in
      same_answer (joins e) (observed e)
      (λ on. elim (cases_Bool (observed e)) [
        | inl seen ↦ seen
        | inr unseen ↦ elim (or_cases (observed e) r on) [
          | inl seen ↦ seen
          | inr there ↦
              let q = and_parts (is_member c.reports.items e) (is_held c.candidates.items e) there
              in
              absurd (none_finished e t (left_pending e q.0
              (and_from (not (observed e)) (is_held c.candidates.items e)
              (not_from_false (observed e) unseen) q.1)))
        ]
      ])
      (λ seen. or_left (observed e) r seen)

  takes_by : (o : Option ℕ) (e : ℕ) → c.time ≡ o → joins e ≡ takes_at g o e open_case
  takes_by None e t = takes_none e t
  takes_by (Some time) e t = takes_some time e t

  pub takes_is : (e : ℕ) → joins e ≡ takes_at g c.time e open_case
  takes_is e = takes_by c.time e refl

  -- what takes a report allows it
  taken_allowed_by : (o : Option ℕ) (e : ℕ) → c.time ≡ o → takes_at g o e open_case ≡ true
      → allowed_at g o open_case e ≡ true
  taken_allowed_by None e t h_takes = h_takes
  taken_allowed_by (Some time) e t h_takes =
      elim (or_cases (observed e) (is_pending g time open_case e) h_takes) [
        | inl seen ↦ observed_allowed g (Some time) open_case e seen
        | inr may ↦
            let x = (pending g open_case time e h.graph).0 may in
            implied (is_report_node g.nodes e) (is_allowed g time open_case e)
            (x.story.within e x.occurs) x.report
      ]

  pub taken_allowed : (e : ℕ) → takes_at g c.time e open_case ≡ true → allowed e ≡ true
  taken_allowed e t = taken_allowed_by c.time e refl t

  -- what joins is a report
  taken_report_by : (o : Option ℕ) (e : ℕ) → takes_at g o e open_case ≡ true
      → is_report_node g.nodes e ≡ true
  taken_report_by None e t = all_in (is_report_node g.nodes) c.observed.items e h.observed_are t
  taken_report_by (Some time) e t =
      elim (or_cases (observed e) (is_pending g time open_case e) t) [
        | inl seen ↦ all_in (is_report_node g.nodes) c.observed.items e h.observed_are seen
        | inr may ↦ ((pending g open_case time e h.graph).0 may).report
      ]

  pub taken_report : (e : ℕ) → takes_at g c.time e open_case ≡ true
      → is_report_node g.nodes e ≡ true
  taken_report e t = taken_report_by c.time e t

  -- where nothing is pending, the candidates' roots are those that explain
  module _ (still : waits_at g c.time open_case ≡ false) where
    none_pending : (e : ℕ) → Pending e → ⊥
    none_pending e x = both_ways c.waiting (waits_is_case ∙ still) (left_any e x)

    observed_reports : IsSubset observed (is_report_node g.nodes)
    observed_reports e i = all_in (is_report_node g.nodes) c.observed.items e h.observed_are i

    root_explains : (root : ℕ) → is_member (roots_in c.candidates.items) root ≡ true
        → Explains g cut root observed
    root_explains root i =
        let r = made_from (λ (a : Candidate). a.root) c.candidates.items root i in
        let a = r.1 in
        let k = h.candidates.each r.0 a r.2 in
        let b = and_parts (live_set a.live (live_root a.live))
        (list_all (live_set a.live) c.observed.items)
        (all_at (covers c.observed.items) c.candidates.items r.0 a h.kept r.2) in
        let P : ℕ → Type 0 = λ y. IsPossible g cut y observed allowed in
        (when_decided g cut root observed allowed observed_reports
        (observed_allowed g c.time open_case) none_pending).0
        (subst P (k.root ∙ r.3) (record {
          set = live_set a.live;
          story = k.best.best.story b.0;
          all = λ d j. all_in (live_set a.live) c.observed.items d b.1 j;
        }))

    explains_root : (root : ℕ) → Explains g cut root observed
        → is_member (roots_in c.candidates.items) root ≡ true
    explains_root root x = h.candidates.all root
        ((when_decided g cut root observed allowed observed_reports
        (observed_allowed g c.time open_case) none_pending).1 x)

    pub blamed_is : (kind : NodeKind → Bool)
        → filter (is_of_kind kind g.nodes) (roots_in c.candidates.items) ≡ blamed kind g open_case
    blamed_is kind =
        let roots = roots_in c.candidates.items in
        let test = is_of_kind kind g.nodes in
        same_list (filter test roots) (blamed kind g open_case)
        (ascending roots test h.candidates.ascend) (blamed_ascends kind g open_case)
        (λ e i.
        let p = filter_in test e roots i in
        in_blamed kind g open_case e h.graph p.0 (root_explains e p.1))
        (λ e i.
        let p = blamed_from kind g open_case e h.graph i in
        in_filter test e roots p.0 (explains_root e p.1)) where
          ascending : (xs : List ℕ) (p : ℕ → Bool) → ascends xs ≡ true
              → ascends (filter p xs) ≡ true
          ascending xs p up =
              sym (ap ascends (as_map (filter p xs)))
              ∙ ascends_part (λ (x : ℕ). x) p xs (ap ascends (as_map xs) ∙ up) where
                as_map : (ys : List ℕ) → map (λ (x : ℕ). x) ys ≡ ys
                as_map [] = refl
                as_map (y ∷ ys) = ap (λ (zs : List ℕ). y ∷ zs) (as_map ys)
