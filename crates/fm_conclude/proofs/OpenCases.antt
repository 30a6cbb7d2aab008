-- The open cases of hands that have come to the end of a book.
use Rattle.std.proofs.Common.{◌≡◌, ℕ, ◌+◌, suc, List, [], ◌∷◌, ◌++◌, length, map, flat_map, Some}
use Rattle.std.proofs.Common.{refl, sym, ◌∙◌, ap, subst, arith, append-nil, take, ◌<◌, get_or}
use Rattle.std.proofs.Common.{Result, Ok, Err, OnOk}
use Rattle.std.proofs.lemmas.List.{map-append, take_more}
use Rattle.std.proofs.lemmas.List.Concat.{flat_map-append}
use Rattle.std.specs.List.{slice_get}
use Rattle.dx_engine.specs.Rows.{open_row}
use Rattle.dx_engine.specs.declared.rows.OpenRow.{OpenRow}
use Rattle.fm_adm.specs.Summary.{IsSummary}
use Rattle.fm_adm.specs.declared.summary.OpenReports.{OpenReports}
use Rattle.fm_core.specs.Book.{Book, ModuleState, next_number}
use Rattle.fm_core.specs.Drained.{drained, ended}
use Rattle.fm_core.specs.Folds.{state_along}
use Rattle.fm_core.specs.Hands.{HandOf, shown}
use Rattle.fm_core.specs.Meaning.{State, OpenCase}
use Rattle.fm_core.specs.Seen.{Follows}
use Rattle.fm_core.specs.declared.module.Module.{Ghosts as ModuleGhosts}
use Rattle.fm_core.proofs.Lists.{map_map}
use Rattle.fm_core.proofs.Places.{taken_all}
use Rattle.fm_entry.specs.declared.entry.Entry.{Entry}
use Rattle.fm_entry.specs.declared.list_event.ListEvent.{ListEvent}
use Rattle.fm_drain.specs.CaseStatus.{IsStatusOf}
use Rattle.fm_store.specs.StoreCalls.{HandsAreDone}
use Rattle.fm_conclude.specs.DrainedSummary.{open_by_state, open_of_shown, open_from, open_cases_of}
use Rattle.fm_conclude.specs.DrainedSummary.{IsSummaryOf, open_report, reports_by}

-- the rows of open cases
pub rows_are : (own : ℕ) (cs : List OpenCase) (rows : List OpenRow) → rows ≡ map (open_row own) cs
    → map reports_by rows ≡ map (open_report own) cs
rows_are own cs rows is =
    ap (map reports_by) is ∙ map_map (open_row own) reports_by cs

module _ {M : Type 0} (m : ModuleGhosts M) where
  -- no hand
  pub hands_none : (hands : List (HandOf M)) (cases : List OpenReports) → cases ≡ []
      → cases ≡ flat_map open_of_shown (map (shown m) (take 0 hands))
  hands_none [] cases none = none
  hands_none (h ∷ hands) cases none = none

  -- one hand more
  pub hands_more : (hands : List (HandOf M)) (i : ℕ) (h : HandOf M) (old new : List OpenReports)
      → i < length hands → h ≡ get_or hands i h
      → old ≡ flat_map open_of_shown (map (shown m) (take i hands))
      → new ≡ old ++ open_of_shown (shown m h)
      → new ≡ flat_map open_of_shown (map (shown m) (take (i + 1) hands))
  hands_more hands i h old new low is so next =
      let more : take (i + 1) hands ≡ take i hands ++ h ∷ [] =
      take_more hands i h low ∙ ap (λ d. take i hands ++ d ∷ []) (sym is) in
      let parts : flat_map open_of_shown (map (shown m) (take i hands ++ h ∷ []))
      ≡ flat_map open_of_shown (map (shown m) (take i hands))
      ++ (open_of_shown (shown m h) ++ []) =
      ap (flat_map open_of_shown) (map-append (shown m) (take i hands) (h ∷ []))
      ∙ flat_map-append open_of_shown (map (shown m) (take i hands)) (shown m h ∷ []) in
      next ∙ (ap (λ l. l ++ open_of_shown (shown m h)) so
      ∙ (ap (λ l. flat_map open_of_shown (map (shown m) (take i hands)) ++ l)
      (sym (append-nil (open_of_shown (shown m h))))
      ∙ (sym parts ∙ ap (λ l. flat_map open_of_shown (map (shown m) l)) (sym more))))

  open_of_hand : HandOf M → List OpenReports
  open_of_hand h = open_of_shown (shown m h)

  -- a hand at the end has the number and the state of its module
  hand_open : (k : Book) (i : ℕ) (p : ModuleState) (h : HandOf M) → Follows k i p (shown m h)
      → h.cursor ≡ next_number k
      → open_of_shown (shown m h) ≡ open_by_state i (ended k p).state
  hand_open k i p h follows at =
      let own : (m.meaning h.object).own ≡ i =
      ap (λ x. x.own) follows.meaning_is ∙ follows.own_is in
      let state : m.state h.object ≡ (ended k p).state =
      follows.folds ∙ ap (λ (es : List Entry). state_along p.meaning p.state k.base es)
      (taken_all k h.cursor (omega (arith, at))) in
      ap (λ (n : ℕ). open_by_state n (m.state h.object)) own
      ∙ ap (λ (s : State). open_by_state i s) state

  -- hands of modules that are numbered from one on
  hands_open : (k : Book) (n : ℕ) (ps : List ModuleState) (hands : List (HandOf M))
      → length hands ≡ length ps
      → ((i : ℕ) (p : ModuleState) (h : HandOf M) → slice_get ps i ≡ Some p
      → slice_get hands i ≡ Some h → Follows k (n + i) p (shown m h))
      → ((i : ℕ) (h : HandOf M) → slice_get hands i ≡ Some h → h.cursor ≡ next_number k)
      → flat_map open_of_shown (map (shown m) hands) ≡ open_from n (map (ended k) ps)
  hands_open k n [] [] many follow at = refl
  hands_open k n [] (h ∷ hands) many follow at = absurd (omega (arith, many))
  hands_open k n (p ∷ ps) [] many follow at = absurd (omega (arith, many))
  hands_open k n (p ∷ ps) (h ∷ hands) many follow at =
      let zeroth : n + 0 ≡ n = omega arith in
      let first : open_of_shown (shown m h) ≡ open_by_state n (ended k p).state =
      hand_open k n p h (subst (λ (j : ℕ). Follows k j p (shown m h)) zeroth
      (follow 0 p h refl refl)) (at 0 h refl) in
      let rest : flat_map open_of_shown (map (shown m) hands)
      ≡ open_from (n + 1) (map (ended k) ps) =
      hands_open k (n + 1) ps hands (omega (arith, many))
      (λ i q d one other.
      let next : n + suc i ≡ (n + 1) + i = omega arith in
      subst (λ (j : ℕ). Follows k j q (shown m d)) next (follow (suc i) q d one other))
      (λ i d got. at (suc i) d got) in
      ap (λ l. l ++ flat_map open_of_shown (map (shown m) hands)) first
      ∙ ap (λ l. open_by_state n (ended k p).state ++ l) rest

  -- the open cases of the hands are those of the drained book
  open_drained : (k : Book) (hands : List (HandOf M)) → HandsAreDone m k hands
      → flat_map open_of_shown (map (shown m) hands) ≡ open_cases_of (drained k)
  open_drained k hands done =
      hands_open k 0 k.modules hands done.as_many
      (λ i p h one other.
      let same : i ≡ 0 + i = omega arith in
      subst (λ (j : ℕ). Follows k j p (shown m h)) same (done.follow i h other p one))
      done.at_end

  -- and so the text is its summary
  pub summary_is : {T E : Type 0} (result : Result T E) (k : Book) (hands : List (HandOf M))
      (entries : ℕ) (cases : List OpenReports) (rows : List ListEvent) (old new : List ℕ)
      → HandsAreDone m k hands → entries ≡ next_number k → IsStatusOf (drained k) rows
      → cases ≡ flat_map open_of_shown (map (shown m) hands)
      → OnOk result ((text : List ℕ) × IsSummary entries cases rows text × (new ≡ old ++ text))
      → OnOk result ((text : List ℕ) × IsSummaryOf (drained k) text × (new ≡ old ++ text))
  summary_is (Ok done) k hands entries cases rows old new at count status are put = (
    put.0,
    record {
      rows = rows;
      status = status;
      summary = subst (λ (n : ℕ). IsSummary n (open_cases_of (drained k)) rows put.0) count
          (subst (λ (xs : List OpenReports). IsSummary entries xs rows put.0)
          (are ∙ open_drained k hands at) put.1);
    },
    put.2,
  )
  summary_is (Err fault) k hands entries cases rows old new at count status are put = tt
