-- Reports open cases: what stays so where a number more is taken, and where no number is left.
use Rattle.std.proofs.Common.{◌≡◌, ℕ, ◌+◌, ◌^◌, ◌<◌, ◌≤◌, ◌==◌, Bool, true, false, not, ◌||◌}
use Rattle.std.proofs.Common.{nat_lt, IsTrue, List, [], ◌∷◌, ◌++◌, refl, sym, ap, ◌∙◌, arith}
use Rattle.std.proofs.Common.{if◌then◌else◌, subst}
use Rattle.std.proofs.lemmas.Bool.{false≢true, and_from, ltb-true, lt-ltb, eq-eqb, or_left}
use Rattle.std.proofs.lemmas.Bool.{or_right}
use Rattle.std.proofs.lemmas.Bool.Decides.{nat_tests}
use Rattle.std.proofs.lemmas.List.{map-append}
use Rattle.std.proofs.lemmas.List.Folds.{list_any-append, list_all-map}
use Rattle.fm_name.specs.declared.events.EventName.{EventName}
use Rattle.fm_entry.specs.declared.list_event.ListEvent.{ListEvent}
use Rattle.fm_core.specs.Meaning.{OpenCase}
use Rattle.fm_core.proofs.Lists.{all_map}
use Rattle.ev_graph.specs.Lawful.{GraphValue}
use Rattle.dx_state.specs.Configured.{Rules}
use Rattle.dx_state.specs.LawfulState.{open_numbers}
use Rattle.dx_state.proofs.Lists.{all_other, is_strict}
use Rattle.dx_step.specs.Said.{event_names}
use Rattle.dx_step.specs.Turns.{Turn, graph_of, say, turn_cases}
use Rattle.dx_step.specs.Reports.{may_open, with_next, unknown_word, open_unknown}
use Rattle.dx_step.proofs.Blamed.{strict_push}
use Rattle.dx_step.proofs.Parts.{all_joined, by_push, by_joined}
use Rattle.dx_observed.specs.Reported.{Reported, JoinedReport, at_number, AreJust, has_open}
use Rattle.dx_observed.specs.Reported.{has_word, has_said}
use Rattle.dx_observed.proofs.Each.{each_passes}
use Rattle.dx_observed.proofs.Events.{joins, joins_reports, differs_of, has_none, just_new}
use Rattle.dx_observed.proofs.Events.{just_other, just_same}
use Rattle.dx_observed.proofs.Sharing.{Before, is_apart, IsPast, IsNow, IsKept}
use Rattle.dx_observed.proofs.Sharing.{all_below, Shares, Shared, recorded_map}
use Rattle.dx_observed.proofs.Sharing.{numbers_split, joins_below, joins_kept}

-- what is below a number is below the next
more_below : (next : ℕ) (js : List JoinedReport) → IsTrue (all_below next js)
    → IsTrue (all_below (next + 1) js)
more_below next js h =
    all_other (λ j. nat_lt j.case next) (λ j. nat_lt j.case (next + 1))
    (λ j k. let low = ltb-true j.case next k in lt-ltb j.case (next + 1) (omega arith)) js h

-- differs from a number that is above
apart_above : (k l : ℕ) → l < k → (k == l) ≡ false
apart_above k l low = grind (arith, nat_tests)

-- the reports that take a number are of no other case
just_above : (b : Before) (js : List JoinedReport) (next n l : ℕ)
    (names more : List EventName) → l < next → AreJust b.had js n l names
    → AreJust b.had (js ++ joins next b.number more) n l names
just_above b js next n l names more low h =
    just_other b.had js n next l b.number names more (apart_above next l low) h

now_more : (g : GraphValue) (b : Before) (next : ℕ) (js : List JoinedReport)
    (more : List EventName) (c : OpenCase) → IsNow g b next js c
    → IsNow g b (next + 1) (js ++ joins next b.number more) c
now_more g b next js more c h =
    let low = h.below in
    record {
      just =
          just_above b js next b.number c.number (event_names g c.observed) more h.below h.just;
      below = omega arith;
    }

-- what is known of a case of a number that no case had
fresh_just : (b : Before) (next : ℕ) (js : List JoinedReport) (names : List EventName)
    → ((k : ℕ) (x : EventName) → next ≤ k → b.had k x ≡ false) → IsTrue (all_below next js)
    → AreJust b.had (js ++ joins next b.number names) b.number next names
fresh_just b next js names new below =
    just_new b.had js b.number next names (λ x. new next x (omega arith))
    (λ m x. has_none js next m next x below (omega arith))

-- a past word, where the case of the next number is open or not
past_more : (b : Before) (cs ds : List OpenCase) (next : ℕ) (js : List JoinedReport)
    (more : List EventName)
    → ((k : ℕ) → k < next → IsTrue (is_apart cs k) → IsTrue (is_apart ds k))
    → (n : ℕ) (w : ListEvent) → IsPast b cs next js n w
    → IsPast b ds (next + 1) (js ++ joins next b.number more) n w
past_more b cs ds next js more f n w h =
    let low = h.below in
    record {
      just = just_above b js next n w.case.case w.observed more h.below h.just;
      below = omega arith;
      apart = f w.case.case h.below h.apart;
    }

kept_more : (b : Before) (cs : List OpenCase) (c : OpenCase) (ws : List ListEvent) (k : ℕ)
    → IsKept b cs ws k → IsKept b (cs ++ c ∷ []) ws k
kept_more b cs c ws k h =
    ap (λ (t : Bool). t || (has_said b.records k || has_word ws k))
    (list_any-append (λ d. d.number == k) cs (c ∷ []))
    ∙ more (has_open cs k) ((c.number == k) || false) (has_said b.records k || has_word ws k) h
  where
    more : (a c w : Bool) → IsTrue (a || w) → IsTrue ((a || c) || w)
    more true c w h = refl
    more false true w h = refl
    more false false w h = h

kept_last : (b : Before) (cs : List OpenCase) (c : OpenCase) (ws : List ListEvent)
    → IsKept b (cs ++ c ∷ []) ws c.number
kept_last b cs c ws =
    or_left (has_open (cs ++ c ∷ []) c.number)
    (has_said b.records c.number || has_word ws c.number)
    (list_any-append (λ d. d.number == c.number) cs (c ∷ [])
    ∙ or_right (has_open cs c.number) ((c.number == c.number) || false)
    (or_left (c.number == c.number) false (eq-eqb c.number c.number refl)))

-- some events open a case
pub opened_case : (r : Rules) (b : Before) (made : List Reported) (cs : List OpenCase)
    (c : OpenCase) (t : Turn) (js : List JoinedReport) → c.number ≡ t.state.next
    → Shares r b made cs t js
    → Shares r b (made ++ at_number b.number (event_names (graph_of r t.state) c.observed))
    (cs ++ c ∷ []) (with_next t)
    (js ++ joins t.state.next b.number (event_names (graph_of r t.state) c.observed))
opened_case r b made cs c t js same h =
    let g = graph_of r t.state in
    let next = t.state.next in
    let names = event_names g c.observed in
    let more = js ++ joins next b.number names in
    let apart : (k : ℕ) → k < next → IsTrue (is_apart cs k) → IsTrue (is_apart (cs ++ c ∷ []) k) =
    λ k low a. all_joined (λ d. not (d.number == k)) cs (c ∷ []) a
    (and_from (not (c.number == k)) true
    (ap (λ (l : ℕ). not (l == k)) same ∙ ap not (apart_above next k low)) refl) in
    let past = past_more b cs (cs ++ c ∷ []) next js names apart in
    record {
      now = by_push (IsNow g b (next + 1) more) cs c
          (all_map (IsNow g b next js) (IsNow g b (next + 1) more) cs
          (now_more g b next js names) h.now)
          (record {
            just =
                just_same b.had more b.number next c.number names names same refl
                (fresh_just b next js names h.new h.below);
            below = omega (arith, same);
          });
      strict = ap is_strict (numbers_split cs (c ∷ []))
          ∙ (ap (λ (k : ℕ). is_strict (open_numbers cs ++ k ∷ [])) same
          ∙ strict_push next (open_numbers cs)
          (each_passes (IsNow g b next js) (λ d. d.number) (λ k. nat_lt k next) cs
          (λ d k. lt-ltb d.number next k.below) h.now) h.strict);
      solved = all_map (IsPast b cs next js b.number)
          (IsPast b (cs ++ c ∷ []) (next + 1) more b.number) t.state.solved (past b.number)
          h.solved;
      said = all_map (IsPast b cs next js b.number)
          (IsPast b (cs ++ c ∷ []) (next + 1) more b.number) t.words (past b.number) h.said;
      earlier = recorded_map b cs (cs ++ c ∷ []) next (next + 1) js more past b.records h.earlier;
      new = λ k x high. h.new k x (omega (arith, high));
      below = all_joined (λ j. nat_lt j.case (next + 1)) js (joins next b.number names)
          (more_below next js h.below) (joins_below next b.number (next + 1) names (omega arith));
      kept = λ k is. kept_more b cs c t.words k (h.kept k is);
      arrived = by_joined (λ j. IsKept b (cs ++ c ∷ []) t.words j.case) js
          (joins next b.number names)
          (all_map (λ j. IsKept b cs t.words j.case) (λ j. IsKept b (cs ++ c ∷ []) t.words j.case)
          js (λ j k. kept_more b cs c t.words j.case k) h.arrived)
          (joins_kept b (cs ++ c ∷ []) t.words next b.number names
          (subst (λ (k : ℕ). IsKept b (cs ++ c ∷ []) t.words k) same
          (kept_last b cs c t.words)));
      each = λ few.
          map-append (λ j. j.report) js (joins next b.number names)
          ∙ (λ i. h.each (omega (arith, few)) i ++ joins_reports next b.number names i);
    }

-- no number is left
pub dropped : (r : Rules) (b : Before) (made more : List Reported) (cs : List OpenCase) (t : Turn)
    (js : List JoinedReport) → may_open t.state ≡ false → Shares r b made cs t js
    → Shares r b more cs t js
dropped r b made more cs t js none h = record {
  now = h.now;
  strict = h.strict;
  solved = h.solved;
  said = h.said;
  earlier = h.earlier;
  new = h.new;
  below = h.below;
  kept = h.kept;
  arrived = h.arrived;
  each = λ few. absurd (false≢true (sym none ∙ lt-ltb t.state.next (2 ^ 63) few));
}

-- a word more
pub kept_said : (b : Before) (cs : List OpenCase) (ws more : List ListEvent) (k : ℕ)
    → IsKept b cs ws k → IsKept b cs (ws ++ more) k
kept_said b cs ws more k h =
    ap (λ (t : Bool). has_open cs k || (has_said b.records k || t))
    (list_any-append (λ w. w.case.case == k) ws more)
    ∙ widen (has_open cs k) (has_said b.records k) (has_word ws k) (has_word more k) h
  where
    widen : (a o w m : Bool) → IsTrue (a || (o || w)) → IsTrue (a || (o || (w || m)))
    widen true o w m h = refl
    widen false true w m h = refl
    widen false false true m h = refl
    widen false false false m h = absurd (false≢true h)

unknown_kept : (b : Before) (cs : List OpenCase) (ws : List ListEvent) (w : ListEvent)
    → IsKept b cs (ws ++ w ∷ []) w.case.case
unknown_kept b cs ws w =
    let k = w.case.case in
    or_right (has_open cs k) (has_said b.records k || has_word (ws ++ w ∷ []) k)
    (or_right (has_said b.records k) (has_word (ws ++ w ∷ []) k)
    (list_any-append (λ v. v.case.case == k) ws (w ∷ [])
    ∙ or_right (has_word ws k) ((w.case.case == k) || false)
    (or_left (w.case.case == k) false (eq-eqb k k refl))))

-- an event that the graph does not have takes a number, and is said at once
unknown_opened : (r : Rules) (b : Before) (made : List Reported) (name : EventName) (t : Turn)
    (js : List JoinedReport) (cs : List OpenCase) → Shares r b made cs t js
    → Shares r b (made ++ at_number b.number (name ∷ [])) cs
    (with_next (say (unknown_word r.own t.state name) t))
    (js ++ joins t.state.next b.number (name ∷ []))
unknown_opened r b made name t js cs h =
    let g = graph_of r t.state in
    let next = t.state.next in
    let w = unknown_word r.own t.state name in
    let more = js ++ joins next b.number (name ∷ []) in
    let past = past_more b cs cs next js (name ∷ []) (λ k low a. a) in
    let above : IsTrue (is_apart cs next) =
    sym (list_all-map (λ m. not (m == next)) (λ d. d.number) cs)
    ∙ each_passes (IsNow g b next js) (λ d. d.number) (λ m. not (m == next)) cs
    (λ d k. ap not (differs_of d.number next k.below)) h.now in
    record {
      now = all_map (IsNow g b next js) (IsNow g b (next + 1) more) cs
          (now_more g b next js (name ∷ [])) h.now;
      strict = h.strict;
      solved = all_map (IsPast b cs next js b.number) (IsPast b cs (next + 1) more b.number)
          t.state.solved (past b.number) h.solved;
      said = by_push (IsPast b cs (next + 1) more b.number) t.words w
          (all_map (IsPast b cs next js b.number) (IsPast b cs (next + 1) more b.number) t.words
          (past b.number) h.said)
          (record {
            just = fresh_just b next js (name ∷ []) h.new h.below;
            below = omega arith;
            apart = above;
          });
      earlier = recorded_map b cs cs next (next + 1) js more past b.records h.earlier;
      new = λ k x high. h.new k x (omega (arith, high));
      below = all_joined (λ j. nat_lt j.case (next + 1)) js (joins next b.number (name ∷ []))
          (more_below next js h.below)
          (joins_below next b.number (next + 1) (name ∷ []) (omega arith));
      kept = λ k is. kept_said b cs t.words (w ∷ []) k (h.kept k is);
      arrived = by_joined (λ j. IsKept b cs (t.words ++ w ∷ []) j.case) js
          (joins next b.number (name ∷ []))
          (all_map (λ j. IsKept b cs t.words j.case)
          (λ j. IsKept b cs (t.words ++ w ∷ []) j.case) js
          (λ j k. kept_said b cs t.words (w ∷ []) j.case k) h.arrived)
          (unknown_kept b cs t.words w, tt);
      each = λ few.
          map-append (λ j. j.report) js (joins next b.number (name ∷ []))
          ∙ (λ i. h.each (omega (arith, few)) i ++ at_number b.number (name ∷ []));
    }

pub unknown_shared : (r : Rules) (b : Before) (made : List Reported) (name : EventName) (t : Turn)
    (js : List JoinedReport) → Shares r b made (turn_cases t) t js
    → Shared r b (made ++ at_number b.number (name ∷ [])) (open_unknown r.own name t)
unknown_shared r b made name t js h =
    let more = made ++ at_number b.number (name ∷ []) in
    elim (may_open t.state) as (λ (o : Bool). may_open t.state ≡ o → Shared r b more
    (if o then with_next (say (unknown_word r.own t.state name) t) else t)) [
      | true ↦ λ is. record {
        joined = js ++ joins t.state.next b.number (name ∷ []);
        shares = unknown_opened r b made name t js (turn_cases t) h;
      }
      | false ↦ λ is. record {
        joined = js;
        shares = dropped r b made more (turn_cases t) t js is h;
      }
    ] refl
