-- Open cases and engines, made again one by one.
use Rattle.std.proofs.Common.{◌≡◌, ℕ, ◌+◌, ◌<◌, ◌≤◌, ◌++◌, ◌&&◌, Bool, true, false, List, []}
use Rattle.std.proofs.Common.{◌∷◌, length, map, take, get_or, IsTrue, refl, sym, ap, subst}
use Rattle.std.proofs.Common.{◌∙◌, Option, ltb, leb, ◌^◌}
use Rattle.std.specs.List.{list_all, All}
use Rattle.std.proofs.lemmas.Bool.{false≢true, and_parts, and_from, leb-true, ltb-true, le-leb}
use Rattle.std.proofs.lemmas.Bool.{lt-ltb}
use Rattle.std.proofs.lemmas.List.{take_more, map-append, take_all}
use Rattle.std.proofs.lemmas.List.Folds.{list_all_more, list_all_at}
use Rattle.std.proofs.lemmas.List.Elements.{All-push}
use Rattle.fm_core.specs.Meaning.{OpenCase, Diagnosis}
use Rattle.ev_graph.specs.Lawful.{GraphValue, has_engine_limits}
use Rattle.ev_graph.specs.Kinds.{is_report_node}
use Rattle.ev_incidence.specs.Sets.{ascends, ascends_by}
use Rattle.ev_graph.specs.declared.nodes.EngineSpec.{EngineSpec}
use Rattle.fm_entry.specs.Words.{is_link_before}
use Rattle.dx_serd.specs.Rates.{IsLimited, are_kept, none_past}
use Rattle.dx_explain.specs.Cases.{waits}
use Rattle.dx_state.specs.Configured.{Configuration}
use Rattle.dx_state.specs.LawfulState.{are_engines, is_open_case, is_state}
use Rattle.dx_state.proofs.Lists.{all_other}
use Rattle.dx_state.proofs.Facts.{case_is, state_is}
use Rattle.dx_case.specs.declared.case.Case.{Case}
use Rattle.dx_case.specs.Cases.{open_of, time_of, waits_at, IsCaseOf}
use Rattle.dx_case.specs.Facts.{facts_fit}
use Rattle.dx_case.proofs.Fitting.{next_ascend}
use Rattle.dx_restore.specs.Parts.{IsCaseAt, engines_with}
use Rattle.dx_restore.specs.Restoring.{IsRestorable, AreCasesAgain}
use Rattle.dx_restore.specs.Loading.{IsRestored}
use Rattle.dx_restore.specs.declared.parts.Loaded.{Loaded}

-- whether a case that has come to the time waits
pub waits_then : (g : GraphValue) (time : ℕ) (c : Case) (kept : OpenCase) (b : Bool)
    → IsCaseAt g time c → open_of c ≡ kept
    → ((g : GraphValue) → IsCaseOf g c → b ≡ waits_at g (time_of c) (open_of c))
    → b ≡ waits g time kept
waits_then g time c kept b at same h =
    h g at.case
    ∙ (ap (λ (t : Option ℕ). waits_at g t (open_of c)) at.moment ∙ ap (waits g time) same)

-- one case more
pub again_more : (g : GraphValue) (time : ℕ) (kept : List OpenCase) (cases : List Case) (i : ℕ)
    (d : OpenCase) (c : Case) → i < length kept → open_of c ≡ get_or kept i d → IsCaseAt g time c
    → waits g time (get_or kept i d) ≡ true → AreCasesAgain g time (take i kept) cases
    → AreCasesAgain g time (take (i + 1) kept) (cases ++ c ∷ [])
again_more g time kept cases i d c room same at wait h =
    let more = sym (take_more kept i d room) in
    record {
      same =
          map-append open_of cases (c ∷ [])
          ∙ ((λ j. h.same j ++ same j ∷ []) ∙ more);
      at = All-push (IsCaseAt g time) cases c h.at at;
      waiting = list_all_more (waits g time) kept i d room ∙ (λ j. h.waiting j && wait j);
    }

pub again_all : (g : GraphValue) (time : ℕ) (kept : List OpenCase) (cases : List Case) (i : ℕ)
    → length kept ≤ i → AreCasesAgain g time (take i kept) cases → AreCasesAgain g time kept cases
again_all g time kept cases i past h =
    subst (λ cs. AreCasesAgain g time cs cases) (take_all i kept past) h

-- a case that does not wait
pub waits_not : (g : GraphValue) (time : ℕ) (kept : List OpenCase) (i : ℕ) (d : OpenCase)
    → i < length kept → waits g time (get_or kept i d) ≡ false
    → list_all (waits g time) kept ≡ false
waits_not g time kept i d room h = list_all_at (waits g time) kept i d room h

-- the limits of an engine
pub limited : (e : EngineSpec) → IsTrue (has_engine_limits e) → IsLimited e.n e.t
limited e h =
    let one = and_parts (ltb 0 e.n) _ h in
    let two = and_parts (leb e.n 1024) _ one.1 in
    let three = and_parts (ltb 0 e.t) (leb e.t (2 ^ 60)) two.1 in
    record {
      some = ltb-true 0 e.n one.0;
      few = leb-true e.n 1024 two.0;
      some_time = ltb-true 0 e.t three.0;
      time_fits = leb-true e.t (2 ^ 60) three.1;
    }

-- what engines keep that keep these moments
pub kept_back : (time : ℕ) (es : List EngineSpec) (ks : List (List ℕ))
    → IsTrue (are_engines time es ks) → map (λ r. r.kept) (engines_with es ks) ≡ ks
kept_back time [] [] h = refl
kept_back time [] (k ∷ ks) h = absurd (false≢true h)
kept_back time (e ∷ es) [] h = absurd (false≢true h)
kept_back time (e ∷ es) (k ∷ ks) h =
    ap (λ rest. k ∷ rest)
    (kept_back time es ks (and_parts (are_kept e.n e.t k && none_past time k) _ h).1)

-- a lawful open case can be made again
fits_again : (x : Configuration) (time next : ℕ) (c : OpenCase)
    → IsTrue (is_open_case x time next c) → IsTrue (facts_fit x.graph time c)
fits_again x time next c h =
    let p = case_is x time next c h in
    and_from (leb c.opened time) _ (le-leb c.opened time p.opened)
    (and_from (ltb 0 (length c.observed)) _ (lt-ltb 0 (length c.observed) p.some)
    (and_from (ascends c.observed) _ p.ascend
    (and_from (list_all (is_report_node x.graph.nodes) c.observed)
    (ascends_by is_link_before c.broken) p.reports (next_ascend c.broken p.links))))

-- the parts of a lawful state can be made again
pub restorable : (own : ℕ) (x : Configuration) (s : Diagnosis) → IsTrue (is_state own x s)
    → IsRestorable x.graph s
restorable own x s lawful =
    let h = state_is own x s lawful in
    record {
      cases = all_other (is_open_case x s.time s.next) (facts_fit x.graph s.time)
          (λ c k. fits_again x s.time s.next c k) s.open_cases h.cases;
      engines = h.engines;
    }

-- the parts that were made again are those of the state
pub parts_again : (g : GraphValue) (s : Diagnosis) (l : Loaded) → l.conf ≡ s.conf
    → l.time ≡ s.time → l.next ≡ s.next → l.solved.items ≡ s.solved
    → AreCasesAgain g s.time s.open_cases l.cases.items
    → l.engines.items ≡ engines_with g.engines s.engines → IsRestorable g s → IsRestored g s l
parts_again g s l conf time next solved again engines can =
    let back = ap (map (λ r. r.kept)) engines ∙ kept_back s.time g.engines s.engines can.engines in
    record {
      state = λ i. record {
        conf = conf i;
        time = time i;
        next = next i;
        open_cases = again.same i;
        solved = solved i;
        engines = back i;
      };
      parts = record {
        cases = subst (λ (t : ℕ). All (IsCaseAt g t) l.cases.items) (sym time) again.at;
        engines = engines ∙ ap (engines_with g.engines) (sym back);
      };
      waiting = again.waiting;
    }
