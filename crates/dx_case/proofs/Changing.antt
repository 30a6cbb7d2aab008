-- What cutting links and taking reports out does, step by step.
use Rattle.std.proofs.Common.{◌≡◌, ◌≢◌, ◌⊎◌, ◌+◌, ◌<◌, ◌≤◌, ◌&&◌, ◌||◌, ◌++◌}
use Rattle.std.proofs.Common.{not, ℕ, zero, suc, Bool}
use Rattle.std.proofs.Common.{true, false, List, [], ◌∷◌, eqb, length, get_or, take, refl}
use Rattle.std.proofs.Common.{slice_get, sym, ap, subst, ◌∙◌, inl, inr, arith, Option, Some}
use Rattle.std.specs.Prelude.{slice_set}
use Rattle.std.proofs.lemmas.Bool.{cases_eq, and_parts, and_from, or_cases}
use Rattle.std.proofs.lemmas.Bool.{or_left, or_right, eq-eqb, eqb-true, false≢true}
use Rattle.std.proofs.lemmas.Bool.{both_ways, not-true, not_from_false, false_from_ne_true}
use Rattle.std.proofs.lemmas.List.{take_more, length-set}
use Rattle.std.proofs.lemmas.List.Folds.{list_any-append}
use Rattle.std.proofs.lemmas.Option.{slice_get_within, same_Some}
use Rattle.ev_incidence.specs.Sets.{NodeSet, is_member}
use Rattle.ev_graph.specs.Cutting.{is_cut}
use Rattle.ev_graph.specs.Lawful.{GraphValue}
use Rattle.ev_graph.specs.declared.nodes.Node.{Node}
use Rattle.ev_graph.specs.declared.instances.Link.{Link}
use Rattle.ev_incidence.proofs.Occurrences.{in_push, in_more, in_last}
use Rattle.dx_sets.specs.Engine.{CutsOf}
use Rattle.dx_story.proofs.Answers.{same_answer}
use Rattle.dx_live.specs.Live.{LiveValue, IsLiveOf, IsLiveBest, live_root, cut_with, all_but}
use Rattle.dx_case.specs.declared.candidate.Candidate.{Candidate}
use Rattle.dx_case.specs.Changes.{cut_or, allowed_less, goes, gone_of, IsChanged}
use Rattle.dx_case.specs.Changes.{AreChangedBelow, AreChanged}

pub nothing : NodeSet
nothing e = false

pub same_best : (g : GraphValue) (cut other : CutsOf) (allowed fewer : NodeSet) (l : LiveValue)
    → ((j e : ℕ) → cut j e ≡ other j e) → ((e : ℕ) → allowed e ≡ fewer e)
    → IsLiveBest g cut allowed l → IsLiveBest g other fewer l
same_best g cut other allowed fewer l c a h =
    let P : CutsOf → Type 0 = λ k. IsLiveBest g k fewer l in
    let Q : NodeSet → Type 0 = λ k. IsLiveBest g cut k l in
    let cuts : cut ≡ other = λ i. λ j. λ e. c j e i in
    let sets : allowed ≡ fewer = λ i. λ e. a e i in
    subst P cuts (subst Q sets h)

pub or_none : (a : Bool) → a ≡ (a || false)
or_none a = same_answer a (a || false) (or_left a false) (λ h. elim (or_cases a false h) [
  | inl here ↦ here
  | inr none ↦ absurd (false≢true none)
])

pub and_all : (a : Bool) → a ≡ (a && true)
and_all a = same_answer a (a && true) (λ h. and_from a true h refl) (λ h. (and_parts a true h).0)

pub changed_none : (g : GraphValue) (l : LiveValue) → IsLiveOf g l
    → IsChanged g [] (λ e. false) l l
changed_none g l h = record {
  live = h;
  root = refl;
  best = λ cut allowed b. same_best g cut (cut_or cut []) allowed
      (allowed_less allowed (λ e. false)) l (λ j e. or_none (cut j e))
      (λ e. and_all (allowed e)) b;
}

same_eqb : (a b : ℕ) → eqb a b ≡ eqb b a
same_eqb a b = same_answer (eqb a b) (eqb b a) (λ h. eq-eqb b a (sym (eqb-true a b h)))
    (λ h. eq-eqb a b (sym (eqb-true b a h)))

or_assoc : (a b c : Bool) → ((a || b) || c) ≡ (a || (b || c))
or_assoc a b c = same_answer ((a || b) || c) (a || (b || c))
    (λ h. elim (or_cases (a || b) c h) [
      | inl both ↦ elim (or_cases a b both) [
        | inl here ↦ or_left a (b || c) here
        | inr there ↦ or_right a (b || c) (or_left b c there)
      ]
      | inr last ↦ or_right a (b || c) (or_right b c last)
    ])
    (λ h. elim (or_cases a (b || c) h) [
      | inl here ↦ or_left (a || b) c (or_left a b here)
      | inr more ↦ elim (or_cases b c more) [
        | inl there ↦ or_left (a || b) c (or_right a b there)
        | inr last ↦ or_right (a || b) c last
      ]
    ])

-- one link more
cut_more : (links : List Link) (i : ℕ) (x : Link) (cut : CutsOf) → i < length links
    → get_or links i x ≡ x → (j e : ℕ)
    → cut_with (cut_or cut (take i links)) x j e ≡ cut_or cut (take (i + 1) links) j e
cut_more links i x cut l is j e =
    let p : Link → Bool = λ k. eqb k.instance j && eqb k.effect e in
    let last : take (i + 1) links ≡ take i links ++ x ∷ [] =
    take_more links i x l ∙ ap (λ (y : Link). take i links ++ y ∷ []) is in
    let one : (eqb j x.instance && eqb e x.effect) ≡ (p x || false) =
    ap (λ (b : Bool). b && eqb e x.effect) (same_eqb j x.instance)
    ∙ (ap (λ (b : Bool). eqb x.instance j && b) (same_eqb e x.effect)
    ∙ or_none (p x)) in
    or_assoc (cut j e) (is_cut (take i links) j e) (eqb j x.instance && eqb e x.effect)
    ∙ ap (λ (b : Bool). cut j e || b)
    (ap (λ (b : Bool). is_cut (take i links) j e || b) one
    ∙ (sym (list_any-append p (take i links) (x ∷ []))
    ∙ ap (λ (ks : List Link). is_cut ks j e) (sym last)))

pub changed_cut : (g : GraphValue) (links : List Link) (i : ℕ) (x : Link) (gone : NodeSet)
    (a b c : LiveValue) → i < length links → get_or links i x ≡ x
    → IsChanged g (take i links) gone a b → IsLiveOf g c → live_root c ≡ live_root b
    → ((cut : CutsOf) (allowed : NodeSet) → IsLiveBest g cut allowed b
    → IsLiveBest g (cut_with cut x) allowed c)
    → IsChanged g (take (i + 1) links) gone a c
changed_cut g links i x gone a b c l is h live root best = record {
  live = live;
  root = root ∙ h.root;
  best = λ cut allowed s. same_best g (cut_with (cut_or cut (take i links)) x)
      (cut_or cut (take (i + 1) links)) (allowed_less allowed gone) (allowed_less allowed gone) c
      (cut_more links i x cut l is) (λ e. refl)
      (best (cut_or cut (take i links)) (allowed_less allowed gone) (h.best cut allowed s));
}

module _ (nodes : List Node) (reports observed : List ℕ) (age : Option ℕ) (i x : ℕ)
    (l : i < length reports) (is : get_or reports i x ≡ x) where
  abbrev before : NodeSet
  before = gone_of nodes (take i reports) observed age

  abbrev after : NodeSet
  after = gone_of nodes (take (i + 1) reports) observed age

  last : take (i + 1) reports ≡ take i reports ++ x ∷ []
  last = take_more reports i x l ∙ ap (λ (y : ℕ). take i reports ++ y ∷ []) is

  gone_still : (e : ℕ) → before e ≡ true → after e ≡ true
  gone_still e h =
      let p = and_parts (is_member (take i reports) e) (goes nodes observed age e) h in
      and_from (is_member (take (i + 1) reports) e) (goes nodes observed age e)
      (ap (λ (xs : List ℕ). is_member xs e) last ∙ in_more (take i reports) (x ∷ []) e p.0) p.1

  gone_now : goes nodes observed age x ≡ true → after x ≡ true
  gone_now h = and_from (is_member (take (i + 1) reports) x) (goes nodes observed age x)
      (ap (λ (xs : List ℕ). is_member xs x) last ∙ in_last (take i reports) x) h

  gone_cases : (e : ℕ) → after e ≡ true
      → (before e ≡ true) ⊎ ((e ≡ x) × (goes nodes observed age e ≡ true))
  gone_cases e h =
      let p = and_parts (is_member (take (i + 1) reports) e) (goes nodes observed age e) h in
      elim (in_push (take i reports) x e
      (ap (λ (xs : List ℕ). is_member xs e) (sym last) ∙ p.0)) [
        | inl old ↦
            inl (and_from (is_member (take i reports) e) (goes nodes observed age e) old p.1)
        | inr same ↦ inr (sym same, p.1)
      ]

  less_more : (allowed : NodeSet) → goes nodes observed age x ≡ true → (e : ℕ)
      → all_but (allowed_less allowed before) x e ≡ allowed_less allowed after e
  less_more allowed h e = same_answer (all_but (allowed_less allowed before) x e)
      (allowed_less allowed after e)
      (λ t.
      let p = and_parts (allowed e && not (before e)) (not (eqb e x)) t in
      let q = and_parts (allowed e) (not (before e)) p.0 in
      and_from (allowed e) (not (after e)) q.0 (not_from_false (after e)
      (false_from_ne_true (after e) (λ gone. elim (gone_cases e gone) [
        | inl old ↦ both_ways (before e) (not-true (before e) q.1) old
        | inr last ↦ both_ways (eqb e x) (not-true (eqb e x) p.1) (eq-eqb e x last.0)
      ]))))
      (λ t.
      let q = and_parts (allowed e) (not (after e)) t in
      let stays = not-true (after e) q.1 in
      and_from (allowed e && not (before e)) (not (eqb e x))
      (and_from (allowed e) (not (before e)) q.0 (not_from_false (before e)
      (false_from_ne_true (before e) (λ old. both_ways (after e) stays (gone_still e old)))))
      (not_from_false (eqb e x) (false_from_ne_true (eqb e x) (λ same.
      both_ways (after e) stays (ap after (eqb-true e x same) ∙ gone_now h)))))

  less_same : (allowed : NodeSet) → goes nodes observed age x ≡ false → (e : ℕ)
      → allowed_less allowed before e ≡ allowed_less allowed after e
  less_same allowed h e = ap (λ (b : Bool). allowed e && not b)
      (same_answer (before e) (after e) (gone_still e) (λ gone. elim (gone_cases e gone) [
        | inl old ↦ old
        | inr last ↦ absurd (both_ways (goes nodes observed age x) h
            (ap (goes nodes observed age) (sym last.0) ∙ last.1))
      ]))

  pub changed_report : (g : GraphValue) (links : List Link) (a b c : LiveValue)
      → goes nodes observed age x ≡ true → IsChanged g links before a b → IsLiveOf g c
      → live_root c ≡ live_root b
      → ((cut : CutsOf) (allowed : NodeSet) → IsLiveBest g cut allowed b
      → IsLiveBest g cut (all_but allowed x) c)
      → IsChanged g links after a c
  changed_report g links a b c goes_now h live root best = record {
    live = live;
    root = root ∙ h.root;
    best = λ cut allowed s. same_best g (cut_or cut links) (cut_or cut links)
        (all_but (allowed_less allowed before) x) (allowed_less allowed after) c (λ j e. refl)
        (less_more allowed goes_now)
        (best (cut_or cut links) (allowed_less allowed before) (h.best cut allowed s));
  }

  pub unchanged_report : (g : GraphValue) (links : List Link) (a b : LiveValue)
      → goes nodes observed age x ≡ false → IsChanged g links before a b
      → IsChanged g links after a b
  unchanged_report g links a b stays h = record {
    live = h.live;
    root = h.root;
    best = λ cut allowed s. same_best g (cut_or cut links) (cut_or cut links)
        (allowed_less allowed before) (allowed_less allowed after) b (λ j e. refl)
        (less_same allowed stays) (h.best cut allowed s);
  }

pub changed_both : (g : GraphValue) (links : List Link) (gone : NodeSet) (a b c : LiveValue)
    → IsChanged g links (λ e. false) a b → IsChanged g [] gone b c → IsChanged g links gone a c
changed_both g links gone a b c h k = record {
  live = k.live;
  root = k.root ∙ h.root;
  best = λ cut allowed s. same_best g (cut_or (cut_or cut links) []) (cut_or cut links)
      (allowed_less (allowed_less allowed (λ e. false)) gone) (allowed_less allowed gone) c
      (λ j e. sym (or_none (cut_or cut links j e)))
      (λ e. ap (λ (x : Bool). x && not (gone e)) (sym (and_all (allowed e))))
      (k.best (cut_or cut links) (allowed_less allowed (λ e. false)) (h.best cut allowed s));
}

-- lists with an item put in place of another
get_set_same : {A : Type 0} (xs : List A) (i : ℕ) (x : A) → i < length xs
    → slice_get (slice_set xs i x) i ≡ Some x
get_set_same [] i x l = absurd (omega (arith, l))
get_set_same (y ∷ ys) zero x l = refl
get_set_same (y ∷ ys) (suc i) x l = get_set_same ys i x (omega (arith, l))

get_set_other : {A : Type 0} (xs : List A) (i k : ℕ) (x : A) → k ≢ i
    → slice_get (slice_set xs i x) k ≡ slice_get xs k
get_set_other [] i k x ne = refl
get_set_other (y ∷ ys) zero zero x ne = absurd (ne refl)
get_set_other (y ∷ ys) zero (suc k) x ne = refl
get_set_other (y ∷ ys) (suc i) zero x ne = refl
get_set_other (y ∷ ys) (suc i) (suc k) x ne =
    get_set_other ys i k x (λ e. ne (ap suc e))

module _ (g : GraphValue) (links : List Link) (gone : NodeSet) where
  pub below_none : (xs : List Candidate) → AreChangedBelow g links gone 0 xs xs
  below_none xs = record {
    count = refl;
    roots = λ i a b l. absurd (omega (arith, l));
    done = λ i a b l. absurd (omega (arith, l));
    left = λ i l. refl;
  }

  pub below_more : (i : ℕ) (old mid : List Candidate) (x y : Candidate) → i < length mid
      → slice_get mid i ≡ Some x → y.root ≡ x.root → IsChanged g links gone x.live y.live
      → AreChangedBelow g links gone i old mid
      → AreChangedBelow g links gone (i + 1) old (slice_set mid i y)
  below_more i old mid x y l is root changed h = record {
    count = length-set mid i y ∙ h.count;
    roots = λ k a b k_in at_old at_new. elim (cases_eq k i) [
      | inl same ↦
          let ax : a ≡ x = same_Some a x (sym at_old ∙ (ap (slice_get old) same
          ∙ (sym (h.left i (omega arith)) ∙ is))) in
          let by : b ≡ y = same_Some b y (sym at_new ∙ (ap (slice_get (slice_set mid i y)) same
          ∙ get_set_same mid i y l)) in
          ap (λ (z : Candidate). z.root) by ∙ (root ∙ ap (λ (z : Candidate). z.root) (sym ax))
      | inr ne ↦ h.roots k a b (omega (arith, k_in, ne)) at_old
          (sym (get_set_other mid i k y ne) ∙ at_new)
    ];
    done = λ k a b k_in at_old at_new. elim (cases_eq k i) [
      | inl same ↦
          let ax : x ≡ a = sym (same_Some a x (sym at_old ∙ (ap (slice_get old) same
          ∙ (sym (h.left i (omega arith)) ∙ is)))) in
          let by : y ≡ b = sym (same_Some b y (sym at_new
          ∙ (ap (slice_get (slice_set mid i y)) same ∙ get_set_same mid i y l))) in
          let P : Candidate → Type 0 = λ z. IsChanged g links gone z.live b.live in
          let Q : Candidate → Type 0 = λ z. IsChanged g links gone x.live z.live in
          subst P ax (subst Q by changed)
      | inr ne ↦ h.done k a b (omega (arith, k_in, ne)) at_old
          (sym (get_set_other mid i k y ne) ∙ at_new)
    ];
    left = λ k past. get_set_other mid i k y (omega (arith, past)) ∙ h.left k (omega (arith, past));
  }

  pub below_all : (n : ℕ) (old new : List Candidate) → length old ≤ n
      → AreChangedBelow g links gone n old new → AreChanged g links gone old new
  below_all n old new l h = record {
    count = h.count;
    roots = λ i a b at_old at_new. h.roots i a b
        (omega (arith, l, slice_get_within old i a at_old)) at_old at_new;
    each = λ i a b at_old at_new. h.done i a b
        (omega (arith, l, slice_get_within old i a at_old)) at_old at_new;
  }
