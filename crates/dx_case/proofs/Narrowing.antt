-- Candidates after a change: links were cut, reports went, and the lost ones were dropped.
use Rattle.std.proofs.Common.{◌≡◌, not, ℕ, suc, true, false}
use Rattle.std.proofs.Common.{List, [], ◌∷◌, length, slice_get, refl, sym, ap, subst, ◌∙◌}
use Rattle.std.proofs.Common.{inl, inr, arith, Some}
use Rattle.std.specs.List.{filter, list_all}
use Rattle.std.proofs.lemmas.Bool.{and_parts, and_from, or_left}
use Rattle.std.proofs.lemmas.Option.{slice_get_cases, slice_get_within, same_Some}
use Rattle.ev_incidence.specs.Sets.{NodeSet, is_member, ascends, IsSubset}
use Rattle.ev_graph.specs.Kinds.{is_report_node}
use Rattle.ev_graph.specs.Cutting.{is_cut}
use Rattle.ev_graph.specs.Lawful.{GraphValue}
use Rattle.ev_graph.specs.declared.instances.Link.{Link}
use Rattle.ev_incidence.proofs.Occurrences.{all_from}
use Rattle.dx_sets.specs.Engine.{CutsOf}
use Rattle.dx_story.specs.Greatest.{no_other_report, IsAllowedStory}
use Rattle.dx_explain.specs.Explaining.{IsPossible}
use Rattle.dx_explain.proofs.Shrinking.{shrinks}
use Rattle.dx_live.specs.Live.{IsLiveBest, live_root, live_set}
use Rattle.dx_explain.proofs.Telling.{implied, implies}
use Rattle.dx_case.specs.declared.candidate.Candidate.{Candidate}
use Rattle.dx_case.specs.Changes.{cut_or, allowed_less, IsChanged, AreChanged}
use Rattle.dx_case.specs.Candidates.{roots_in, IsCandidate, AreCandidates, covers, Narrows}
use Rattle.dx_case.proofs.Changing.{changed_none}
use Rattle.dx_case.proofs.Elements.{kept_from, kept_at, made_from, made_at, ascends_part}

-- another list as long has an item at the same place
pub at_same_place : {A : Type 0} (xs ys : List A) (i : ℕ) (y : A) → length xs ≡ length ys
    → slice_get ys i ≡ Some y → (x : A) × (slice_get xs i ≡ Some x)
at_same_place xs ys i y e s = elim (slice_get_cases xs i).1 [
  | inl p ↦ (p.0, p.2)
  | inr q ↦ absurd (omega (arith, slice_get_within ys i y s, e, q.0))
]

same_map : (xs ys : List Candidate) → length ys ≡ length xs
    → ((i : ℕ) (a b : Candidate) → slice_get xs i ≡ Some a → slice_get ys i ≡ Some b
    → b.root ≡ a.root) → roots_in ys ≡ roots_in xs
same_map [] [] e h = refl
same_map [] (y ∷ ys) e h = absurd (omega (arith, e))
same_map (x ∷ xs) [] e h = absurd (omega (arith, e))
same_map (x ∷ xs) (y ∷ ys) e h =
    ap (λ (z : ℕ). z ∷ roots_in ys) (h 0 x y refl refl)
    ∙ ap (λ (zs : List ℕ). x.root ∷ zs)
    (same_map xs ys (omega (arith, e)) (λ i a b s t. h (suc i) a b s t))

-- where a candidate comes from
record IsFrom (g : GraphValue) (links : List Link) (gone : NodeSet) (old : List Candidate) (j : ℕ)
    (a : Candidate) : Type 0 where
  pub before : Candidate
  pub stands : slice_get old j ≡ Some before
  pub root_same : a.root ≡ before.root
  pub changed : IsChanged g links gone before.live a.live

module _ (g : GraphValue) (cut : CutsOf) (links : List Link) (gone allowed fewer seen : NodeSet)
    (observed reports : List ℕ) (old mid : List Candidate)
    (h : AreCandidates g cut seen allowed old reports) (ch : AreChanged g links gone old mid)
    (n : Narrows g reports gone allowed fewer) (more : IsSubset seen (is_member observed)) where
  abbrev after : CutsOf
  after = cut_or cut links

  abbrev kept : List Candidate
  kept = filter (covers observed) mid

  from : (j : ℕ) (a : Candidate) → slice_get mid j ≡ Some a → IsFrom g links gone old j a
  from j a s =
      let b = at_same_place old mid j a (sym ch.count) s in
      record {
        before = b.0;
        stands = b.1;
        root_same = ch.roots j b.0 a b.1 s;
        changed = ch.each j b.0 a b.1 s;
      }

  roots_same : roots_in mid ≡ roots_in old
  roots_same = same_map old mid ch.count ch.roots

  base : (j : ℕ) (a : Candidate) → IsFrom g links gone old j a
      → IsLiveBest g after (allowed_less allowed gone) a.live
  base j a f = f.changed.best cut allowed (h.each j f.before f.stands).best

  root_is : (j : ℕ) (a : Candidate) → IsFrom g links gone old j a → live_root a.live ≡ a.root
  root_is j a f = f.changed.root ∙ ((h.each j f.before f.stands).root ∙ sym f.root_same)

  root_in : (j : ℕ) (a : Candidate) → IsFrom g links gone old j a
      → is_member (roots_in old) a.root ≡ true
  root_in j a f =
      let P : ℕ → Type 0 = λ r. is_member (roots_in old) r ≡ true in
      subst P (sym f.root_same) (made_at (λ (c : Candidate). c.root) old j f.before f.stands)

  widen : (X : NodeSet) → IsSubset X (no_other_report g.nodes fewer)
      → IsSubset X (no_other_report g.nodes (allowed_less allowed gone))
  widen X w e i = implies (is_report_node g.nodes e) (allowed_less allowed gone e)
      (λ r. n.within e r (implied (is_report_node g.nodes e) (fewer e) (w e i) r))

  narrower : (j : ℕ) (a : Candidate) → IsFrom g links gone old j a
      → IsAllowedStory g after (live_root a.live) (allowed_less allowed gone) (live_set a.live)
      → IsSubset (live_set a.live) (no_other_report g.nodes fewer)
  narrower j a f s e here = implies (is_report_node g.nodes e) (fewer e)
      (λ r.
      let P : ℕ → Type 0 = λ x. is_member (roots_in old) x ≡ true in
      n.only e r (h.covered.each (live_root a.live) after (allowed_less allowed gone)
      (live_set a.live) (subst P (sym (root_is j a f)) (root_in j a f)) s e here r)
      (implied (is_report_node g.nodes e) (allowed_less allowed gone e) (s.within e here) r))

  moved : (j : ℕ) (a : Candidate) → slice_get mid j ≡ Some a → IsCandidate g after fewer a
  moved j a s =
      let f = from j a s in
      let b = base j a f in
      record {
        live = f.changed.live;
        root = root_is j a f;
        best = record {
          cuts = b.cuts;
          best = record {
            story = λ there.
                let t = b.best.story there in
                record { story = t.story; within = narrower j a f t };
            every = λ Y y. b.best.every Y (record { story = y.story; within = widen Y y.within });
          };
        };
      }

  each_kept : (i : ℕ) (a : Candidate) → slice_get kept i ≡ Some a → IsCandidate g after fewer a
  each_kept i a s = let k = kept_from (covers observed) mid i a s in moved k.0 a k.1

  possible_before : (root : ℕ) → IsPossible g after root (is_member observed) fewer
      → IsPossible g cut root seen allowed
  possible_before root p =
      shrinks g after cut root (is_member observed) fewer seen allowed more
      (λ e i. implies (is_report_node g.nodes e) (allowed e)
      (λ r. (and_parts (allowed e) (not (gone e))
      (n.within e r (implied (is_report_node g.nodes e) (fewer e) i r))).0))
      (λ j e c. or_left (cut j e) (is_cut links j e) c) p

  all_kept_roots : (root : ℕ) → IsPossible g after root (is_member observed) fewer
      → is_member (roots_in kept) root ≡ true
  all_kept_roots root p =
      let r = made_from (λ (c : Candidate). c.root) old root
      (h.all root (possible_before root p)) in
      let b = at_same_place mid old r.0 r.1 ch.count r.2 in
      let a = b.0 in
      let f = from r.0 a b.1 in
      let same : f.before ≡ r.1 = same_Some f.before r.1 (sym f.stands ∙ r.2) in
      let a_root : a.root ≡ root =
      f.root_same ∙ (ap (λ (c : Candidate). c.root) same ∙ r.3) in
      let here : live_root a.live ≡ root = root_is r.0 a f ∙ a_root in
      let Q : ℕ → Type 0 = λ x. IsAllowedStory g after x (allowed_less allowed gone) p.set in
      let story : IsAllowedStory g after root (allowed_less allowed gone) p.set =
      record { story = p.story.story; within = widen p.set p.story.within } in
      let inside = (base r.0 a f).best.every p.set (subst Q (sym here) story) in
      let R : ℕ → Type 0 = λ x. p.set x ≡ true in
      let k = kept_at (covers observed) mid r.0 a b.1
      (and_from (live_set a.live (live_root a.live)) (list_all (live_set a.live) observed)
      (inside (live_root a.live) (subst R (sym here) p.story.story.has_root))
      (all_from (live_set a.live) observed (λ e i. inside e (p.all e i)))) in
      let P : ℕ → Type 0 = λ x. is_member (roots_in kept) x ≡ true in
      subst P a_root (made_at (λ (c : Candidate). c.root) kept k.0 a k.1)

  kept_roots : (root : ℕ) → is_member (roots_in kept) root ≡ true
      → is_member (roots_in old) root ≡ true
  kept_roots root i =
      let r = made_from (λ (c : Candidate). c.root) kept root i in
      let k = kept_from (covers observed) mid r.0 r.1 r.2 in
      let P : ℕ → Type 0 = λ x. is_member (roots_in old) x ≡ true in
      subst P r.3 (ap (λ (xs : List ℕ). is_member xs r.1.root) (sym roots_same)
      ∙ made_at (λ (c : Candidate). c.root) mid k.0 r.1 k.1)

  pub narrowed : AreCandidates g after (is_member observed) fewer kept reports
  narrowed = record {
    each = each_kept;
    ascend = ascends_part (λ (c : Candidate). c.root) (covers observed) mid
        (ap ascends roots_same ∙ h.ascend);
    all = all_kept_roots;
    reports_ascend = h.reports_ascend;
    reports_are = h.reports_are;
    covered = record {
      each = λ root c a X i. h.covered.each root c a X (kept_roots root i);
    };
  }

-- nothing happened
pub unchanged : (g : GraphValue) (cut : CutsOf) (seen allowed : NodeSet) (old : List Candidate)
    (reports : List ℕ) → AreCandidates g cut seen allowed old reports
    → AreChanged g [] (λ e. false) old old
unchanged g cut seen allowed old reports h = record {
  count = refl;
  roots = λ i a b s t. ap (λ (c : Candidate). c.root) (same_Some b a (sym t ∙ s));
  each = λ i a b s t.
      let P : Candidate → Type 0 = λ c. IsChanged g [] (λ e. false) a.live c.live in
      subst P (same_Some a b (sym s ∙ t)) (changed_none g a.live (h.each i a s).live);
}

pub equal_case : (g : GraphValue) (cut other : CutsOf) (seen allowed fewer : NodeSet)
    (candidates : List Candidate) (reports : List ℕ) → ((j e : ℕ) → cut j e ≡ other j e)
    → ((e : ℕ) → allowed e ≡ fewer e) → AreCandidates g cut seen allowed candidates reports
    → AreCandidates g other seen fewer candidates reports
equal_case g cut other seen allowed fewer candidates reports c a h =
    let P : CutsOf → Type 0 = λ k. AreCandidates g k seen fewer candidates reports in
    let Q : NodeSet → Type 0 = λ k. AreCandidates g cut seen k candidates reports in
    let cuts : cut ≡ other = λ i. λ j. λ e. c j e i in
    let sets : allowed ≡ fewer = λ i. λ e. a e i in
    subst P cuts (subst Q sets h)
