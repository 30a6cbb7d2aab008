-- What cases observe along entries is just what is reported of them, and is explained.
use Rattle.std.proofs.Common.{ℕ, ◌+◌, ◌≤◌, ◌^◌, ◌||◌, Bool, IsTrue, List, [], ◌∷◌, length}
use Rattle.std.proofs.Common.{refl, ap, ◌∙◌, subst, arith}
use Rattle.std.specs.List.{All, AllByRecursion}
use Rattle.std.proofs.lemmas.Bool.{and_parts}
use Rattle.std.proofs.lemmas.List.Elements.{All-from_recursion, recursion_from_All}
use Rattle.fm_entry.specs.Entries.{IsSpelled}
use Rattle.fm_entry.specs.declared.entry.Entry.{Entry}
use Rattle.fm_entry.specs.declared.list_event.ListEvent.{ListEvent}
use Rattle.fm_entry.specs.declared.spoken.Spoken.{Spoken}
use Rattle.fm_core.specs.Meaning.{OpenCase, Diagnosis, Diagnosing}
use Rattle.fm_core.proofs.Lists.{all_map}
use Rattle.ev_incidence.specs.Sets.{ascends_by}
use Rattle.ev_graph.specs.Lawful.{is_before_node}
use Rattle.dx_state.specs.Configured.{Rules, configuration_at}
use Rattle.dx_step.specs.Turns.{graph_of}
use Rattle.dx_step.specs.Exact.{ByStories, IsExact, HaveGraphs}
use Rattle.dx_step.specs.Lawful.{is_lawful}
use Rattle.dx_meaning.specs.DiagnoserMeaning.{diagnoser_meaning}
use Rattle.dx_along.proofs.Along.{exact_along}
use Rattle.dx_observed.specs.Reported.{Reported, JoinedReport, reported_along, had_observed}
use Rattle.dx_observed.specs.Reported.{has_open}
use Rattle.dx_observed.specs.Reported.{has_said}
use Rattle.dx_observed.specs.ByReports.{ByReports}
use Rattle.dx_observed.specs.ObservedAlong.{IsJustWord, IsJustCase, ObservesReports}
use Rattle.dx_observed.specs.ObservedAlong.{ExplainsReports, IsOpenOrTold, told_along}
use Rattle.dx_observed.proofs.Events.{or_nil}
use Rattle.dx_observed.proofs.Sharing.{Before, IsPast, ArePast, IsNow, IsKept, Shares}
use Rattle.dx_observed.proofs.Acting.{still}
use Rattle.dx_observed.proofs.Initial.{began, since}
use Rattle.dx_observed.proofs.Folding.{along}
use Rattle.dx_observed.proofs.Explained.{exact_by}

kept_open : (b : Before) (cs : List OpenCase) (k : ℕ) → IsKept b cs [] k
    → IsTrue (has_open cs k || has_said b.records k)
kept_open b cs k h =
    ap (λ (t : Bool). has_open cs k || t) (or_nil (has_said b.records k)) ∙ h

observed_by : (r : Rules) (s after : Diagnosis) (n at : ℕ) (joined : List JoinedReport)
    (words : List Spoken) (made : List Reported)
    → Shares r (since r s words at) made after.open_cases (still after) joined
    → AllByRecursion (λ x. All (IsJustWord r s joined x.number) x.events) words
observed_by r s after n at joined words made h =
    let b = since r s words at in
    let cs = after.open_cases in
    all_map (λ x. ArePast b cs after.next joined x.number x.events)
    (λ x. All (IsJustWord r s joined x.number) x.events) words
    (λ x k. All-from_recursion (IsJustWord r s joined x.number) x.events
    (all_map (IsPast b cs after.next joined x.number) (IsJustWord r s joined x.number) x.events
    (λ w l. l.just) k)) h.earlier

pub observed : (r : Rules) (s : Diagnosis) (n : ℕ) (es : List Entry) → IsTrue (is_lawful r s)
    → ObservesReports r s n es
observed r s n es lawful =
    let a = along r (since r s [] n) [] s es [] (began r s n lawful) in
    let words = told_along r s n es in
    let last = n + length es in
    let cs = a.after.open_cases in
    let b = since r s words last in
    let one = subst (λ (l : List Spoken).
    Shares r (since r s l a.number) a.made_since cs (still a.after) a.joined) a.records_are
    a.shares in
    let two = subst (λ (k : ℕ).
    Shares r (since r s words k) a.made_since cs (still a.after) a.joined) a.number_is one in
    let h = subst (λ (l : List Reported). Shares r b l cs (still a.after) a.joined) a.made_is two in
    record {
      after = a.after;
      state_is = a.state_is;
      joined = a.joined;
      each = h.each;
      words = All-from_recursion (λ x. All (IsJustWord r s a.joined x.number) x.events) words
          (observed_by r s a.after n last a.joined words (reported_along r s n es) h);
      cases = All-from_recursion (IsJustCase r s a.joined last a.after) cs
          (all_map (IsNow (graph_of r a.after) b a.after.next a.joined)
          (IsJustCase r s a.joined last a.after) cs (λ c k. k.just) h.now);
      solved = All-from_recursion (IsJustWord r s a.joined last) a.after.solved
          (all_map (IsPast b cs a.after.next a.joined last) (IsJustWord r s a.joined last)
          a.after.solved (λ w k. k.just) h.solved);
      kept = λ k is. kept_open b cs k (h.kept k is);
      arrived = All-from_recursion (λ j. IsOpenOrTold a.after words j.case)
          a.joined
          (all_map (λ j. IsKept b cs [] j.case)
          (λ j. IsOpenOrTold a.after words j.case) a.joined
          (λ j k. kept_open b cs j.case k) h.arrived);
    }

explained_words : (r : Rules) (s : Diagnosis) (js : List JoinedReport) (n : ℕ)
    (ws : List ListEvent) → HaveGraphs r → AllByRecursion (IsExact ByStories r) ws
    → AllByRecursion (IsJustWord r s js n) ws
    → AllByRecursion (IsExact (ByReports (had_observed r s) js n) r) ws
explained_words r s js n [] graphs exact just = tt
explained_words r s js n (w ∷ ws) graphs exact just =
    let g = (configuration_at r w.conf).graph in
    let sorted = (graphs w.conf).counted.kindred.numbered.sorted in (
      exact_by (had_observed r s) js n g w.kind w
          (and_parts (ascends_by is_before_node g.nodes) _ sorted.ascending).0
          (λ x. just.0 n (omega arith) x) exact.0,
      explained_words r s js n ws graphs exact.1 just.1,
    )

explained_records : (r : Rules) (s : Diagnosis) (js : List JoinedReport) (records : List Spoken)
    → HaveGraphs r → AllByRecursion (λ x. All (IsExact ByStories r) x.events) records
    → AllByRecursion (λ x. All (IsJustWord r s js x.number) x.events) records
    → AllByRecursion (λ x. All (IsExact (ByReports (had_observed r s) js x.number) r) x.events)
    records
explained_records r s js [] graphs exact just = tt
explained_records r s js (x ∷ records) graphs exact just = (
  All-from_recursion (IsExact (ByReports (had_observed r s) js x.number) r) x.events
      (explained_words r s js x.number x.events graphs
      (recursion_from_All (IsExact ByStories r) x.events exact.0)
      (recursion_from_All (IsJustWord r s js x.number) x.events just.0)),
  explained_records r s js records graphs exact.1 just.1,
)

pub explained : (r : Rules) (s : Diagnosis) (n : ℕ) (es : List Entry) → HaveGraphs r
    → IsTrue (is_lawful r s) → n + length es ≤ 2 ^ 46 → All IsSpelled es
    → ExplainsReports r s n es
explained r s n es graphs lawful few spelled =
    let observes = observed r s n es lawful in
    let js = observes.joined in
    let words = told_along r s n es in
    let exact = exact_along r (record { meaning = diagnoser_meaning r; state = Diagnosing s }) n es
    (record { meaning_is = refl; holds = lawful; graphs = graphs }) few spelled in
    record {
      observes = observes;
      words = All-from_recursion
          (λ x. All (IsExact (ByReports (had_observed r s) js x.number) r) x.events) words
          (explained_records r s js words graphs
          (recursion_from_All (λ x. All (IsExact ByStories r) x.events) words exact.words)
          (recursion_from_All (λ x. All (IsJustWord r s js x.number) x.events) words
          observes.words));
    }
