-- How a case goes on: after a change it is a case again.
use Rattle.std.proofs.Common.{◌≡◌, ◌⊎◌, ◌+◌, ◌-◌, ◌≤◌, ◌&&◌, ◌||◌, not, ℕ, Bool, true, false, List}
use Rattle.std.proofs.Common.{[], ◌∷◌, eqb, ltb, map, slice_get, refl, sym, ap, subst}
use Rattle.std.proofs.Common.{◌∙◌, inl, inr, arith, Option, Some, None}
use Rattle.std.specs.List.{filter, list_all, list_any}
use Rattle.std.proofs.lemmas.Bool.{cases_Bool, and_parts, and_from, or_cases, or_left, or_right}
use Rattle.std.proofs.lemmas.Bool.{both_ways, not-true, not_from_false, false_from_ne_true}
use Rattle.std.proofs.lemmas.Bool.{false≢true, eqb-true, ltb-true, lt-ltb, leb-true, le-leb}
use Rattle.std.proofs.lemmas.Bool.{cases_lt}
use Rattle.ev_incidence.specs.Sets.{NodeSet, is_member, ascends, ascends_by, IsSubset}
use Rattle.ev_graph.specs.Kinds.{has_kind, is_report_node}
use Rattle.ev_graph.specs.Cutting.{is_cut, is_before_link}
use Rattle.ev_graph.specs.Lawful.{GraphValue, IsGraph}
use Rattle.ev_graph.specs.declared.instances.Link.{Link}
use Rattle.ev_incidence.proofs.Occurrences.{all_in, all_from}
use Rattle.dx_sets.specs.Engine.{CutsOf}
use Rattle.dx_live.specs.Live.{no_cut, all_allowed}
use Rattle.fm_core.specs.Meaning.{OpenCase}
use Rattle.fm_entry.specs.declared.broken.Broken.{Broken}
use Rattle.fm_entry.specs.Words.{is_link_before}
use Rattle.dx_explain.specs.Cases.{cuts_of, is_allowed, is_awaited, inserted, broken_of, with_links}
use Rattle.dx_case.specs.declared.candidate.Candidate.{Candidate}
use Rattle.dx_case.specs.Changes.{cut_or, allowed_less, node_within, goes}
use Rattle.dx_case.specs.Changes.{gone_of, AreChanged, AreLivesOf}
use Rattle.dx_case.specs.Candidates.{AreCandidates, covers, is_left, Narrows}
use Rattle.dx_case.specs.Cases.{allowed_at, IsBefore, AreAwaited, AreAwaitedAt}
use Rattle.dx_case.specs.Cases.{CaseParts, open_case}
use Rattle.dx_case.specs.Cases.{IsCase}
use Rattle.dx_case.proofs.Changing.{or_none, and_all}
use Rattle.dx_case.proofs.Awaiting.{awaited_is}
use Rattle.dx_case.proofs.Inserting.{any_inserted, same_number, same_place}
use Rattle.dx_case.proofs.Elements.{all_kept, none_lost}
use Rattle.dx_case.proofs.Narrowing.{narrowed, unchanged, equal_case}
use Rattle.dx_case.proofs.Standing.{observed_allowed}

pub lives_of : (g : GraphValue) (cut : CutsOf) (seen allowed : NodeSet) (cs : List Candidate)
    (reports : List ℕ) → AreCandidates g cut seen allowed cs reports → AreLivesOf g cs
lives_of g cut seen allowed cs reports h = record { each = λ i a s. (h.each i a s).live }

-- what did not go of nothing that goes
less_none : (allowed : NodeSet) (e : ℕ) → allowed e ≡ true
    → allowed_less allowed (λ d. false) e ≡ true
less_none allowed e h = sym (and_all (allowed e)) ∙ h

none_less : (allowed : NodeSet) (e : ℕ) → allowed_less allowed (λ d. false) e ≡ true
    → allowed e ≡ true
none_less allowed e h = and_all (allowed e) ∙ h

turned : (a b c : Bool) → ((a || b) || c) ≡ (b || (a || c))
turned true true c = refl
turned true false c = refl
turned false true c = refl
turned false false c = refl

-- which links are broken, with some more
any_links : (links : List Link) (bs : List Broken) (j e : ℕ)
    → list_any (λ (b : Broken). eqb b.instance j && eqb b.effect e) (with_links links bs)
    ≡ (list_any (λ (b : Broken). eqb b.instance j && eqb b.effect e) bs || is_cut links j e)
any_links [] bs j e = or_none (list_any (λ (b : Broken). eqb b.instance j && eqb b.effect e) bs)
any_links (l ∷ ls) bs j e =
    let p : Broken → Bool = λ b. eqb b.instance j && eqb b.effect e in
    any_links ls (inserted is_link_before (broken_of l) bs) j e
    ∙ (ap (λ (b : Bool). b || is_cut ls j e)
    (any_inserted is_link_before (broken_of l) p
    (λ y a b. let q = same_place (broken_of l) y a b in
    ap (λ (x : ℕ). eqb x j && eqb l.effect e) q.0
    ∙ ap (λ (x : ℕ). eqb y.instance j && eqb x e) q.1) bs)
    ∙ turned (p (broken_of l)) (list_any p bs) (is_cut ls j e))

module _ (g : GraphValue) (p : CaseParts) (h : IsCase g p) where
  same_allowed : (o : Option ℕ) (number : ℕ) (entries : List ℕ) (e : ℕ)
      → allowed_at g o (open_case p) e
      ≡ allowed_at g o (record {
        number = number;
        opened = p.opened;
        entries = entries;
        observed = p.observed;
        broken = map broken_of p.broken;
      }) e
  same_allowed None number entries e = refl
  same_allowed (Some time) number entries e = refl

  -- reports went, or none
  pub lost : (number : ℕ) (entries : List ℕ) (time : Option ℕ) (until : ℕ) (cs : List Candidate)
      (w : Bool) (gone : NodeSet) (mid : List Candidate) → AreChanged g [] gone p.candidates mid
      → cs ≡ filter (covers p.observed) mid → w ≡ list_any (is_left cs p.observed) p.reports
      → Narrows g p.reports gone (allowed_at g p.time (open_case p))
      (allowed_at g time (open_case p))
      → AreAwaitedAt g.nodes p.reports p.opened until time
      → IsCase g (record {
        number = number;
        opened = p.opened;
        time = time;
        until = until;
        entries = entries;
        observed = p.observed;
        broken = p.broken;
        candidates = cs;
        reports = p.reports;
        waiting = w;
      })
  lost number entries time until cs w gone mid ch is waits n awaited =
      let cut = cuts_of (open_case p) in
      let allowed = allowed_at g p.time (open_case p) in
      let fewer = allowed_at g time (open_case p) in
      let made = narrowed g cut [] gone allowed fewer (is_member p.observed) p.observed p.reports
      p.candidates mid h.candidates ch n (λ e i. i) in
      let new : OpenCase = record {
        number = number;
        opened = p.opened;
        entries = entries;
        observed = p.observed;
        broken = map broken_of p.broken;
      } in
      let P : List Candidate → Type 0 = λ ks. AreCandidates g (cuts_of new) (is_member p.observed)
      (allowed_at g time new) ks p.reports in
      record {
        graph = h.graph;
        observed_ascend = h.observed_ascend;
        observed_are = h.observed_are;
        broken_ascend = h.broken_ascend;
        candidates = subst P (sym is) (equal_case g (cut_or cut []) (cuts_of new)
            (is_member p.observed) fewer (allowed_at g time new) (filter (covers p.observed) mid)
            p.reports (λ j e. sym (or_none (cut j e))) (same_allowed time number entries) made);
        kept = ap (list_all (covers p.observed)) is ∙ all_kept (covers p.observed) mid;
        waiting = waits;
        awaited = awaited;
      }

  -- a moment comes at which windows are over
  expired_by : (moment : ℕ) (o : Option ℕ) → IsBefore o moment
      → Narrows g p.reports (gone_of g.nodes p.reports p.observed (Some (moment - p.opened)))
      (allowed_at g o (open_case p)) (is_allowed g moment (open_case p))
  expired_by moment None b = absurd b
  expired_by moment (Some time) b = record {
    within = λ e r here.
        let allowed = is_allowed g time (open_case p) in
        let gone = gone_of g.nodes p.reports p.observed (Some (moment - p.opened)) in
        let seen = is_member p.observed e in
        elim (or_cases seen (has_kind (is_awaited p.opened moment) (slice_get g.nodes e)) here) [
          | inl observed ↦ and_from (allowed e) (not (gone e))
              (observed_allowed g (Some time) (open_case p) e observed)
              (not_from_false (gone e) (false_from_ne_true (gone e) (λ goes_now.
              both_ways seen (not-true seen (and_parts (not seen)
              (ltb (node_within g.nodes e) (moment - p.opened))
              (and_parts (is_member p.reports e)
              (goes g.nodes p.observed (Some (moment - p.opened)) e) goes_now).1).0) observed)))
          | inr awaited ↦
              let reach = leb-true moment (p.opened + node_within g.nodes e)
              (sym (awaited_is p.opened moment g.nodes e r) ∙ awaited) in
              and_from (allowed e) (not (gone e))
              (or_right seen (has_kind (is_awaited p.opened time) (slice_get g.nodes e))
              (awaited_is p.opened time g.nodes e r
              ∙ le-leb time (p.opened + node_within g.nodes e) (omega (arith, reach, b))))
              (not_from_false (gone e) (false_from_ne_true (gone e) (λ goes_now.
              let over = ltb-true (node_within g.nodes e) (moment - p.opened) (and_parts (not seen)
              (ltb (node_within g.nodes e) (moment - p.opened))
              (and_parts (is_member p.reports e)
              (goes g.nodes p.observed (Some (moment - p.opened)) e) goes_now).1).1 in
              absurd (omega (arith, over, reach)))))
        ];
    only = λ e r e_in stays.
        let allowed = is_allowed g time (open_case p) in
        let gone = gone_of g.nodes p.reports p.observed (Some (moment - p.opened)) in
        let seen = is_member p.observed e in
        let now = has_kind (is_awaited p.opened moment) (slice_get g.nodes e) in
        let q = and_parts (allowed e) (not (gone e)) stays in
        elim (cases_Bool seen) [
          | inl observed ↦ or_left seen now observed
          | inr unseen ↦ or_right seen now (awaited_is p.opened moment g.nodes e r
              ∙ le-leb moment (p.opened + node_within g.nodes e)
              (elim (cases_lt (node_within g.nodes e) (moment - p.opened)) [
                | inl over ↦ absurd (both_ways (gone e) (not-true (gone e) q.1)
                    (and_from (is_member p.reports e)
                    (goes g.nodes p.observed (Some (moment - p.opened)) e) e_in
                    (and_from (not seen) (ltb (node_within g.nodes e) (moment - p.opened))
                    (not_from_false seen unseen)
                    (lt-ltb (node_within g.nodes e) (moment - p.opened) over))))
                | inr reach ↦ omega (arith, reach)
              ]))
        ];
  }

  pub expired : (moment : ℕ) → IsBefore p.time moment
      → Narrows g p.reports (gone_of g.nodes p.reports p.observed (Some (moment - p.opened)))
      (allowed_at g p.time (open_case p)) (allowed_at g (Some moment) (open_case p))
  expired moment b = expired_by moment p.time b

  -- a moment comes at which no window is over
  quiet_by : (moment : ℕ) (o : Option ℕ) → IsBefore o moment → moment - p.opened ≤ p.until
      → AreAwaitedAt g.nodes p.reports p.opened p.until o
      → Narrows g p.reports (λ e. false) (allowed_at g o (open_case p))
      (is_allowed g moment (open_case p))
  quiet_by moment None b l a = absurd b
  quiet_by moment (Some time) b l a = record {
    within = λ e r here.
        let allowed = is_allowed g time (open_case p) in
        let seen = is_member p.observed e in
        less_none allowed e
        (elim (or_cases seen (has_kind (is_awaited p.opened moment) (slice_get g.nodes e)) here) [
          | inl observed ↦ observed_allowed g (Some time) (open_case p) e observed
          | inr awaited ↦
              let reach = leb-true moment (p.opened + node_within g.nodes e)
              (sym (awaited_is p.opened moment g.nodes e r) ∙ awaited) in
              or_right seen (has_kind (is_awaited p.opened time) (slice_get g.nodes e))
              (awaited_is p.opened time g.nodes e r
              ∙ le-leb time (p.opened + node_within g.nodes e) (omega (arith, reach, b)))
        ]);
    only = λ e r e_in stays.
        let allowed = is_allowed g time (open_case p) in
        let seen = is_member p.observed e in
        let now = has_kind (is_awaited p.opened moment) (slice_get g.nodes e) in
        elim (or_cases seen (has_kind (is_awaited p.opened time) (slice_get g.nodes e))
        (none_less allowed e stays)) [
          | inl observed ↦ or_left seen now observed
          | inr awaited ↦
              let reach = leb-true time (p.opened + node_within g.nodes e)
              (sym (awaited_is p.opened time g.nodes e r) ∙ awaited) in
              let far = a.each e e_in (omega (arith, reach)) in
              or_right seen now (awaited_is p.opened moment g.nodes e r
              ∙ le-leb moment (p.opened + node_within g.nodes e) (omega (arith, far, l)))
        ];
  }

  later_by : (moment : ℕ) (o : Option ℕ) → IsBefore o moment
      → AreAwaitedAt g.nodes p.reports p.opened p.until o
      → AreAwaited g.nodes p.reports (moment - p.opened) p.until
  later_by moment None b a = absurd b
  later_by moment (Some time) b a = record {
    each = λ e e_in reach. a.each e e_in (omega (arith, reach, b));
  }

  pub quiet : (moment : ℕ) → IsBefore p.time moment → moment - p.opened ≤ p.until
      → IsCase g (record {
        number = p.number;
        opened = p.opened;
        time = Some moment;
        until = p.until;
        entries = p.entries;
        observed = p.observed;
        broken = p.broken;
        candidates = p.candidates;
        reports = p.reports;
        waiting = p.waiting;
      })
  quiet moment b l =
      lost p.number p.entries (Some moment) p.until p.candidates p.waiting (λ e. false)
      p.candidates
      (unchanged g (cuts_of (open_case p)) (is_member p.observed)
      (allowed_at g p.time (open_case p)) p.candidates p.reports h.candidates)
      (sym (none_lost (covers p.observed) p.candidates h.kept)) h.waiting
      (quiet_by moment p.time b l h.awaited) (later_by moment p.time b h.awaited)

  -- the case is finished
  pub finished : Narrows g p.reports (gone_of g.nodes p.reports p.observed None)
      (allowed_at g p.time (open_case p)) (allowed_at g None (open_case p))
  finished = record {
    within = λ e r here.
        let allowed = allowed_at g p.time (open_case p) in
        let gone = gone_of g.nodes p.reports p.observed None in
        let seen = is_member p.observed e in
        and_from (allowed e) (not (gone e)) (observed_allowed g p.time (open_case p) e here)
        (not_from_false (gone e) (false_from_ne_true (gone e) (λ goes_now.
        both_ways seen (not-true seen (and_parts (not seen) true
        (and_parts (is_member p.reports e) (goes g.nodes p.observed None e) goes_now).1).0) here)));
    only = λ e r e_in stays.
        let allowed = allowed_at g p.time (open_case p) in
        let gone = gone_of g.nodes p.reports p.observed None in
        let seen = is_member p.observed e in
        elim (cases_Bool seen) [
          | inl observed ↦ observed
          | inr unseen ↦ absurd (both_ways (gone e)
              (not-true (gone e) (and_parts (allowed e) (not (gone e)) stays).1)
              (and_from (is_member p.reports e) (goes g.nodes p.observed None e) e_in
              (and_from (not seen) true (not_from_false seen unseen) refl)))
        ];
  }

  -- a report joins
  module _ (node : ℕ) (links : List Link) (observed : List ℕ) (broken : List Link)
      (obs : observed ≡ inserted ltb node p.observed)
      (brk : map broken_of broken ≡ with_links links (map broken_of p.broken))
      (allowed_node : allowed_at g p.time (open_case p) node ≡ true)
      (report_node : is_report_node g.nodes node ≡ true) where
    is_same : (e : ℕ) → is_member observed e ≡ (eqb node e || is_member p.observed e)
    is_same e = ap (λ (xs : List ℕ). is_member xs e) obs
        ∙ any_inserted ltb node (λ x. eqb x e)
        (λ y a b. ap (λ (x : ℕ). eqb x e) (same_number node y a b)) p.observed

    still_in : IsSubset (is_member p.observed) (is_member observed)
    still_in e i = is_same e ∙ or_right (eqb node e) (is_member p.observed e) i

    in_before : (e : ℕ) → is_member observed e ≡ true
        → (node ≡ e) ⊎ (is_member p.observed e ≡ true)
    in_before e i = elim (or_cases (eqb node e) (is_member p.observed e) (sym (is_same e) ∙ i))
        [ inl same ↦ inl (eqb-true node e same) | inr old ↦ inr old ]

    abbrev more : ℕ → List ℕ → OpenCase
    more number entries = record {
      number = number;
      opened = p.opened;
      entries = entries;
      observed = observed;
      broken = map broken_of broken;
    }

    allowed_of_node : (o : Option ℕ) (e : ℕ) → allowed_at g o (open_case p) node ≡ true
        → (node ≡ e) ⊎ (is_member p.observed e ≡ true)
        → allowed_at g o (open_case p) e ≡ true
    allowed_of_node o e a c = elim c [
      | inl same ↦ ap (allowed_at g o (open_case p)) (sym same) ∙ a
      | inr old ↦ observed_allowed g o (open_case p) e old
    ]

    grown : (o : Option ℕ) (number : ℕ) (entries : List ℕ)
        → allowed_at g o (open_case p) node ≡ true
        → Narrows g p.reports (λ e. false) (allowed_at g o (open_case p))
        (allowed_at g o (more number entries))
    grown None number entries a = record {
      within = λ e r here. less_none (is_member p.observed) e
          (allowed_of_node None e a (in_before e here));
      only = λ e r e_in stays. still_in e (none_less (is_member p.observed) e stays);
    }
    grown (Some time) number entries a = record {
      within = λ e r here.
          let awaited = has_kind (is_awaited p.opened time) (slice_get g.nodes e) in
          less_none (is_allowed g time (open_case p)) e
          (elim (or_cases (is_member observed e) awaited here) [
            | inl seen ↦ allowed_of_node (Some time) e a (in_before e seen)
            | inr later ↦ or_right (is_member p.observed e) awaited later
          ]);
      only = λ e r e_in stays.
          let awaited = has_kind (is_awaited p.opened time) (slice_get g.nodes e) in
          elim (or_cases (is_member p.observed e) awaited
          (none_less (is_allowed g time (open_case p)) e stays)) [
            | inl seen ↦ or_left (is_member observed e) awaited (still_in e seen)
            | inr later ↦ or_right (is_member observed e) awaited later
          ];
    }

    cuts_more : (j e : ℕ) → cut_or (cuts_of (open_case p)) links j e
        ≡ list_any (λ (b : Broken). eqb b.instance j && eqb b.effect e) (map broken_of broken)
    cuts_more j e = sym (ap (list_any (λ (b : Broken). eqb b.instance j && eqb b.effect e)) brk
        ∙ any_links links (map broken_of p.broken) j e)

    pub joined_case : (number : ℕ) (entries : List ℕ) (cs : List Candidate) (w : Bool)
        (mid : List Candidate) → ascends observed ≡ true
        → ascends_by is_before_link broken ≡ true
        → AreChanged g links (λ e. false) p.candidates mid
        → cs ≡ filter (covers observed) mid → w ≡ list_any (is_left cs observed) p.reports
        → IsCase g (record {
          number = number;
          opened = p.opened;
          time = p.time;
          until = p.until;
          entries = entries;
          observed = observed;
          broken = broken;
          candidates = cs;
          reports = p.reports;
          waiting = w;
        })
    joined_case number entries cs w mid up links_up ch is waits =
        let cut = cuts_of (open_case p) in
        let allowed = allowed_at g p.time (open_case p) in
        let fewer = allowed_at g p.time (more number entries) in
        let made = narrowed g cut links (λ e. false) allowed fewer (is_member p.observed) observed
        p.reports p.candidates mid h.candidates ch (grown p.time number entries allowed_node)
        still_in in
        let P : List Candidate → Type 0 = λ ks. AreCandidates g (cuts_of (more number entries))
        (is_member observed) fewer ks p.reports in
        record {
          graph = h.graph;
          observed_ascend = up;
          observed_are = all_from (is_report_node g.nodes) observed
              (λ e i. elim (in_before e i) [
                | inl same ↦ ap (is_report_node g.nodes) (sym same) ∙ report_node
                | inr old ↦ all_in (is_report_node g.nodes) p.observed e h.observed_are old
              ]);
          broken_ascend = links_up;
          candidates = subst P (sym is) (equal_case g (cut_or cut links)
              (cuts_of (more number entries)) (is_member observed) fewer fewer
              (filter (covers observed) mid) p.reports cuts_more (λ e. refl) made);
          kept = ap (list_all (covers observed)) is ∙ all_kept (covers observed) mid;
          waiting = waits;
          awaited = h.awaited;
        }

-- a case is opened
any_broken : (links : List Link) (j e : ℕ)
    → is_cut links j e
    ≡ list_any (λ (b : Broken). eqb b.instance j && eqb b.effect e) (map broken_of links)
any_broken [] j e = refl
any_broken (l ∷ ls) j e =
    ap (λ (b : Bool). (eqb l.instance j && eqb l.effect e) || b) (any_broken ls j e)

module _ (g : GraphValue) (graph : IsGraph g) (number opened node : ℕ) (entries observed : List ℕ)
    (broken : List Link) (reports : List ℕ) (fresh mid cs : List Candidate) (w : Bool)
    (node_in : is_member observed node ≡ true)
    (begun : AreCandidates g no_cut (is_member (node ∷ [])) all_allowed fresh reports) where
  abbrev first : OpenCase
  first = record {
    number = number;
    opened = opened;
    entries = entries;
    observed = observed;
    broken = map broken_of broken;
  }

  opens : Narrows g reports (λ e. false) all_allowed (is_allowed g opened first)
  opens = record {
    within = λ e r here. refl;
    only = λ e r e_in stays.
        or_right (is_member observed e)
        (has_kind (is_awaited opened opened) (slice_get g.nodes e))
        (awaited_is opened opened g.nodes e r
        ∙ le-leb opened (opened + node_within g.nodes e) (omega arith));
  }

  node_seen : IsSubset (is_member (node ∷ [])) (is_member observed)
  node_seen e i = elim (or_cases (eqb node e) false i) [
    | inl same ↦ ap (is_member observed) (sym (eqb-true node e same)) ∙ node_in
    | inr none ↦ absurd (false≢true none)
  ]

  pub opened_case : ascends observed ≡ true
      → list_all (is_report_node g.nodes) observed ≡ true
      → ascends_by is_before_link broken ≡ true
      → AreChanged g broken (λ e. false) fresh mid → cs ≡ filter (covers observed) mid
      → w ≡ list_any (is_left cs observed) reports
      → IsCase g (record {
        number = number;
        opened = opened;
        time = Some opened;
        until = 0;
        entries = entries;
        observed = observed;
        broken = broken;
        candidates = cs;
        reports = reports;
        waiting = w;
      })
  opened_case up are links_up ch is waits =
      let fewer = is_allowed g opened first in
      let n = narrowed g no_cut broken (λ e. false) all_allowed fewer (is_member (node ∷ []))
      observed reports fresh mid begun ch opens node_seen in
      let P : List Candidate → Type 0 = λ ks. AreCandidates g (cuts_of first)
      (is_member observed) fewer ks reports in
      record {
        graph = graph;
        observed_ascend = up;
        observed_are = are;
        broken_ascend = links_up;
        candidates = subst P (sym is) (equal_case g (cut_or no_cut broken) (cuts_of first)
            (is_member observed) fewer fewer (filter (covers observed) mid) reports
            (any_broken broken) (λ e. refl) n);
        kept = ap (list_all (covers observed)) is ∙ all_kept (covers observed) mid;
        waiting = waits;
        awaited = record { each = λ e i l. omega arith };
      }
