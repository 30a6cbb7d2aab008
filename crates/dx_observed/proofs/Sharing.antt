-- A turn whose cases have observed just what was reported of them, and what stays so.
use Rattle.std.proofs.Common.{◌≡◌, ℕ, ◌^◌, ◌<◌, ◌≤◌, ◌==◌, Bool, true, false, not, ◌||◌}
use Rattle.std.proofs.Common.{nat_lt, IsTrue, List, [], ◌∷◌, ◌++◌, map, refl, sym, ap, ◌∙◌, arith}
use Rattle.std.proofs.Common.{if◌then◌else◌, subst}
use Rattle.std.specs.List.{list_all, AllByRecursion}
use Rattle.std.proofs.lemmas.Bool.{false≢true, and_from, lt-ltb, eq-eqb, or_left}
use Rattle.std.proofs.lemmas.Bool.{or_right}
use Rattle.std.proofs.lemmas.List.{map-append}
use Rattle.std.proofs.lemmas.List.Folds.{list_any-append, list_all-map}
use Rattle.fm_name.specs.declared.events.EventName.{EventName}
use Rattle.fm_entry.specs.declared.list_event.ListEvent.{ListEvent}
use Rattle.fm_entry.specs.declared.spoken.Spoken.{Spoken}
use Rattle.fm_core.specs.Meaning.{OpenCase}
use Rattle.fm_core.proofs.Lists.{all_map}
use Rattle.ev_graph.specs.Lawful.{GraphValue}
use Rattle.dx_state.specs.Configured.{Rules}
use Rattle.dx_state.specs.LawfulState.{open_numbers}
use Rattle.dx_state.proofs.Lists.{is_strict}
use Rattle.dx_step.specs.Said.{event_names, with_last_word}
use Rattle.dx_step.specs.Turns.{Turn, graph_of}
use Rattle.dx_step.proofs.Parts.{all_less, all_middle, all_instead, all_joined, by_push}
use Rattle.dx_step.proofs.Parts.{by_joined, differs_back, lacks, strict_less}
use Rattle.dx_observed.specs.Reported.{Reported, JoinedReport, at_number, AreJust, has_open}
use Rattle.dx_observed.specs.Reported.{has_word, has_said}
use Rattle.dx_observed.proofs.Each.{each_less, each_middle, each_between, each_with}
use Rattle.dx_observed.proofs.Each.{each_inserted}
use Rattle.dx_observed.proofs.Events.{joins, joins_reports, off_of}
use Rattle.dx_observed.proofs.Events.{just_other, just_same}

-- What was before a turn: what each case had observed at first, which cases were open then, the
-- records since, and the number of the entry.
pub record Before : Type 0 where
  pub had : ℕ → EventName → Bool
  pub first : ℕ → Bool
  pub records : List Spoken
  pub number : ℕ

-- none of these cases has the number
abbrev pub is_apart : List OpenCase → ℕ → Bool
is_apart cs k = list_all (λ c. not (c.number == k)) cs

-- a word on a case that is open no more: what it says was observed is so from the entry of a number
-- on
pub record IsPast (b : Before) (cs : List OpenCase) (next : ℕ) (js : List JoinedReport) (n : ℕ)
    (w : ListEvent) : Type 0 where
  pub just : AreJust b.had js n w.case.case w.observed
  pub below : w.case.case < next
  pub apart : IsTrue (is_apart cs w.case.case)

abbrev pub ArePast : Before → List OpenCase → ℕ → List JoinedReport → ℕ → List ListEvent → Type 0
ArePast b cs next js n ws = AllByRecursion (IsPast b cs next js n) ws

abbrev pub AreRecorded : Before → List OpenCase → ℕ → List JoinedReport → List Spoken → Type 0
AreRecorded b cs next js records =
    AllByRecursion (λ x. ArePast b cs next js x.number x.events) records

-- an open case
pub record IsNow (g : GraphValue) (b : Before) (next : ℕ) (js : List JoinedReport)
    (c : OpenCase) : Type 0 where
  pub just : AreJust b.had js b.number c.number (event_names g c.observed)
  pub below : c.number < next

-- the case of the number is open, or a word was said of it
abbrev pub IsKept : Before → List OpenCase → List ListEvent → ℕ → Type 0
IsKept b cs ws k = IsTrue (has_open cs k || (has_said b.records k || has_word ws k))

abbrev pub reports_in : List JoinedReport → List Reported
reports_in js = map (λ j. j.report) js

abbrev pub all_below : ℕ → List JoinedReport → Bool
all_below next js = list_all (λ j. nat_lt j.case next) js

-- A turn as far as it has come, with these open cases in hand: they and all words have observed
-- just what was reported of them, by these reports that joined cases.
pub record Shares (r : Rules) (b : Before) (made : List Reported) (cs : List OpenCase) (t : Turn)
    (js : List JoinedReport) : Type 0 where
  pub now : AllByRecursion (IsNow (graph_of r t.state) b t.state.next js) cs
  pub strict : IsTrue (is_strict (open_numbers cs))
  pub solved : ArePast b cs t.state.next js b.number t.state.solved
  pub said : ArePast b cs t.state.next js b.number t.words
  pub earlier : AreRecorded b cs t.state.next js b.records
  pub new : (k : ℕ) (x : EventName) → t.state.next ≤ k → b.had k x ≡ false
  pub below : IsTrue (all_below t.state.next js)
  pub kept : (k : ℕ) → IsTrue (b.first k) → IsKept b cs t.words k
  pub arrived : AllByRecursion (λ j. IsKept b cs t.words j.case) js
  pub each : t.state.next < 2 ^ 63 → reports_in js ≡ made

pub record Shared (r : Rules) (b : Before) (made : List Reported) (t : Turn) : Type 0 where
  pub joined : List JoinedReport
  pub shares : Shares r b made t.state.open_cases t joined

-- the records
pub recorded_map : (b : Before) (cs ds : List OpenCase) (next later : ℕ) (js ls : List JoinedReport)
    → ((n : ℕ) (w : ListEvent) → IsPast b cs next js n w → IsPast b ds later ls n w)
    → (records : List Spoken) → AreRecorded b cs next js records
    → AreRecorded b ds later ls records
recorded_map b cs ds next later js ls f records h =
    all_map (λ x. ArePast b cs next js x.number x.events)
    (λ x. ArePast b ds later ls x.number x.events) records
    (λ x k. all_map (IsPast b cs next js x.number) (IsPast b ds later ls x.number) x.events
    (f x.number) k) h

-- the numbers of cases
pub numbers_split : (xs ys : List OpenCase)
    → open_numbers (xs ++ ys) ≡ open_numbers xs ++ open_numbers ys
numbers_split xs ys = map-append (λ c. c.number) xs ys

record IsAlone (xs ys : List OpenCase) (c : OpenCase) : Type 0 where
  strict : IsTrue (is_strict (open_numbers (xs ++ ys)))
  apart : IsTrue (is_apart (xs ++ ys) c.number)

alone : (xs ys : List OpenCase) (c : OpenCase) → IsTrue (is_strict (open_numbers (xs ++ c ∷ ys)))
    → IsAlone xs ys c
alone xs ys c h =
    let one = strict_less (open_numbers xs) (open_numbers ys) c.number
    (ap is_strict (sym (numbers_split xs (c ∷ ys))) ∙ h) in
    record {
      strict = ap is_strict (numbers_split xs ys) ∙ one.strict;
      apart = sym (list_all-map (λ m. not (m == c.number)) (λ d. d.number) (xs ++ ys))
          ∙ (ap (λ (ns : List ℕ). lacks ns c.number) (numbers_split xs ys) ∙ one.lacking);
    }

-- ---- a word is said of a case, which is open no more

-- the turn with a word more, which may be kept among the last words
abbrev pub told_as : ListEvent → Bool → List (List ℕ) → List ℕ → Turn → Turn
told_as w keeps engines fired t = record {
  state = record t.state {
    solved = if keeps then with_last_word w t.state.solved else t.state.solved;
    engines = engines;
  };
  fired = fired;
  words = t.words ++ w ∷ [];
}

pub record IsTold (r : Rules) (c : OpenCase) (t u : Turn) : Type 0 where
  pub word : ListEvent
  pub keeps : Bool
  pub engines : List (List ℕ)
  pub fired : List ℕ
  pub number : word.case.case ≡ c.number
  pub observed : word.observed ≡ event_names (graph_of r t.state) c.observed
  pub is : u ≡ told_as word keeps engines fired t

gone_less : (b : Before) (xs ys : List OpenCase) (c : OpenCase) (next : ℕ)
    (js : List JoinedReport) (n : ℕ) (w : ListEvent) → IsPast b (xs ++ c ∷ ys) next js n w
    → IsPast b (xs ++ ys) next js n w
gone_less b xs ys c next js n w h = record {
  just = h.just;
  below = h.below;
  apart = all_less (λ d. not (d.number == w.case.case)) xs ys c h.apart;
}

passes_on : (a c d o w : Bool) → IsTrue ((a || (c || d)) || (o || w))
    → IsTrue ((a || d) || (o || (w || (c || false))))
passes_on true c d o w h = refl
passes_on false c true o w h = refl
passes_on false c false true w h = refl
passes_on false c false false true h = refl
passes_on false true false false false h = refl
passes_on false false false false false h = absurd (false≢true h)

kept_on : (b : Before) (xs ys : List OpenCase) (c : OpenCase) (ws : List ListEvent) (w : ListEvent)
    (k : ℕ) → w.case.case ≡ c.number → IsKept b (xs ++ c ∷ ys) ws k
    → IsKept b (xs ++ ys) (ws ++ w ∷ []) k
kept_on b xs ys c ws w k same h =
    (λ i. list_any-append (λ d. d.number == k) xs ys i || (has_said b.records k
    || list_any-append (λ d. d.case.case == k) ws (w ∷ []) i))
    ∙ (ap (λ (l : ℕ). (has_open xs k || has_open ys k)
    || (has_said b.records k || (has_word ws k || ((l == k) || false)))) same
    ∙ passes_on (has_open xs k) (c.number == k) (has_open ys k) (has_said b.records k)
    (has_word ws k)
    (ap (λ (t : Bool). t || (has_said b.records k || has_word ws k))
    (sym (list_any-append (λ d. d.number == k) xs (c ∷ ys))) ∙ h))

told_by : (r : Rules) (b : Before) (made : List Reported) (xs ys : List OpenCase) (c : OpenCase)
    (t : Turn) (js : List JoinedReport) (w : ListEvent) (keeps : Bool) (engines : List (List ℕ))
    (fired : List ℕ) → w.case.case ≡ c.number
    → w.observed ≡ event_names (graph_of r t.state) c.observed
    → Shares r b made (xs ++ c ∷ ys) t js
    → Shares r b made (xs ++ ys) (told_as w keeps engines fired t) js
told_by r b made xs ys c t js w keeps engines fired number observed h =
    let g = graph_of r t.state in
    let next = t.state.next in
    let one = alone xs ys c h.strict in
    let was = each_middle (IsNow g b next js) xs ys c h.now in
    let low : c.number < next = was.below in
    let word : IsPast b (xs ++ ys) next js b.number w =
    record {
      just =
          just_same b.had js b.number c.number w.case.case (event_names g c.observed) w.observed
          number observed was.just;
      below = omega (arith, number, low);
      apart = ap (is_apart (xs ++ ys)) number ∙ one.apart;
    } in
    let solved = all_map (IsPast b (xs ++ c ∷ ys) next js b.number)
    (IsPast b (xs ++ ys) next js b.number) t.state.solved
    (gone_less b xs ys c next js b.number) h.solved in
    record {
      now = each_less (IsNow g b next js) xs ys c h.now;
      strict = one.strict;
      solved = elim keeps as (λ (k : Bool). ArePast b (xs ++ ys) next js b.number
          (if k then with_last_word w t.state.solved else t.state.solved)) [
            | true ↦
                each_inserted (IsPast b (xs ++ ys) next js b.number)
                (λ a b. nat_lt a.case.case b.case.case) w t.state.solved word solved
            | false ↦ solved
          ];
      said = by_push (IsPast b (xs ++ ys) next js b.number) t.words w
          (all_map (IsPast b (xs ++ c ∷ ys) next js b.number)
          (IsPast b (xs ++ ys) next js b.number) t.words
          (gone_less b xs ys c next js b.number) h.said) word;
      earlier = recorded_map b (xs ++ c ∷ ys) (xs ++ ys) next next js js
          (gone_less b xs ys c next js) b.records h.earlier;
      new = h.new;
      below = h.below;
      kept = λ k is. kept_on b xs ys c t.words w k number (h.kept k is);
      arrived = all_map (λ j. IsKept b (xs ++ c ∷ ys) t.words j.case)
          (λ j. IsKept b (xs ++ ys) (t.words ++ w ∷ []) j.case) js
          (λ j k. kept_on b xs ys c t.words w j.case number k) h.arrived;
      each = h.each;
    }

pub told : (r : Rules) (b : Before) (made : List Reported) (xs ys : List OpenCase) (c : OpenCase)
    (t u : Turn) (js : List JoinedReport) → IsTold r c t u
    → Shares r b made (xs ++ c ∷ ys) t js → Shares r b made (xs ++ ys) u js
told r b made xs ys c t u js d h =
    subst (λ (v : Turn). Shares r b made (xs ++ ys) v js) (sym d.is)
    (told_by r b made xs ys c t js d.word d.keeps d.engines d.fired d.number d.observed h)

-- ---- a report joins a case

-- the same cases, but for one with the same number
same_numbers : (xs ys : List OpenCase) (c d : OpenCase) → d.number ≡ c.number
    → open_numbers (xs ++ d ∷ ys) ≡ open_numbers (xs ++ c ∷ ys)
same_numbers xs ys c d same =
    numbers_split xs (d ∷ ys) ∙ ap (λ (k : ℕ). open_numbers xs ++ k ∷ open_numbers ys) same
    ∙ sym (numbers_split xs (c ∷ ys))

kept_same : (b : Before) (xs ys : List OpenCase) (c d : OpenCase) (ws : List ListEvent) (k : ℕ)
    → d.number ≡ c.number → IsKept b (xs ++ c ∷ ys) ws k → IsKept b (xs ++ d ∷ ys) ws k
kept_same b xs ys c d ws k same h =
    ap (λ (t : Bool). t || (has_said b.records k || has_word ws k))
    (list_any-append (λ d. d.number == k) xs (d ∷ ys)
    ∙ ap (λ (l : ℕ). has_open xs k || ((l == k) || has_open ys k)) same
    ∙ sym (list_any-append (λ d. d.number == k) xs (c ∷ ys)))
    ∙ h

gone_joined : (b : Before) (xs ys : List OpenCase) (c d : OpenCase) (next : ℕ)
    (js : List JoinedReport) (names : List EventName) (n : ℕ) (w : ListEvent)
    → d.number ≡ c.number → IsPast b (xs ++ c ∷ ys) next js n w
    → IsPast b (xs ++ d ∷ ys) next (js ++ joins c.number b.number names) n w
gone_joined b xs ys c d next js names n w same h =
    let other = all_middle (λ e. not (e.number == w.case.case)) xs ys c h.apart in
    record {
      just =
          just_other b.had js n c.number w.case.case b.number w.observed names
          (off_of (c.number == w.case.case) other) h.just;
      below = h.below;
      apart = all_instead (λ e. not (e.number == w.case.case)) xs ys c d h.apart
          (ap (λ (k : ℕ). not (k == w.case.case)) same ∙ other);
    }

pub joins_below : (k n next : ℕ) (names : List EventName) → k < next
    → IsTrue (all_below next (joins k n names))
joins_below k n next [] low = refl
joins_below k n next (x ∷ names) low =
    and_from (nat_lt k next) (all_below next (joins k n names)) (lt-ltb k next low)
    (joins_below k n next names low)

pub joins_kept : (b : Before) (cs : List OpenCase) (ws : List ListEvent) (k n : ℕ)
    (names : List EventName) → IsKept b cs ws k
    → AllByRecursion (λ j. IsKept b cs ws j.case) (joins k n names)
joins_kept b cs ws k n [] h = tt
joins_kept b cs ws k n (x ∷ names) h = (h, joins_kept b cs ws k n names h)

kept_in : (b : Before) (xs ys : List OpenCase) (c : OpenCase) (ws : List ListEvent)
    → IsKept b (xs ++ c ∷ ys) ws c.number
kept_in b xs ys c ws =
    or_left (has_open (xs ++ c ∷ ys) c.number)
    (has_said b.records c.number || has_word ws c.number)
    (list_any-append (λ d. d.number == c.number) xs (c ∷ ys)
    ∙ or_right (has_open xs c.number) ((c.number == c.number) || has_open ys c.number)
    (or_left (c.number == c.number) (has_open ys c.number) (eq-eqb c.number c.number refl)))

-- some events join a case, which is another then, of the same number
pub joined_case : (r : Rules) (b : Before) (made : List Reported) (xs ys : List OpenCase)
    (c d : OpenCase) (t : Turn) (js : List JoinedReport) (names : List EventName)
    → d.number ≡ c.number
    → AreJust b.had (js ++ joins c.number b.number names) b.number d.number
    (event_names (graph_of r t.state) d.observed)
    → Shares r b made (xs ++ c ∷ ys) t js
    → Shares r b (made ++ at_number b.number names) (xs ++ d ∷ ys) t
    (js ++ joins c.number b.number names)
joined_case r b made xs ys c d t js names same just h =
    let g = graph_of r t.state in
    let next = t.state.next in
    let more = js ++ joins c.number b.number names in
    let one = alone xs ys c h.strict in
    let was = each_middle (IsNow g b next js) xs ys c h.now in
    let low : c.number < next = was.below in
    record {
      now = each_between (IsNow g b next more) xs ys d
          (each_with (IsNow g b next js) (IsNow g b next more) (λ e. not (e.number == c.number))
          (xs ++ ys) (λ e k apart. record {
            just =
                just_other b.had js b.number c.number e.number b.number (event_names g e.observed)
                names (off_of (c.number == e.number) (differs_back c.number e.number apart))
                k.just;
            below = k.below;
          }) (each_less (IsNow g b next js) xs ys c h.now) one.apart)
          (record { just = just; below = omega (arith, same, low) });
      strict = ap is_strict (same_numbers xs ys c d same) ∙ h.strict;
      solved = all_map (IsPast b (xs ++ c ∷ ys) next js b.number)
          (IsPast b (xs ++ d ∷ ys) next more b.number) t.state.solved
          (λ w. gone_joined b xs ys c d next js names b.number w same) h.solved;
      said = all_map (IsPast b (xs ++ c ∷ ys) next js b.number)
          (IsPast b (xs ++ d ∷ ys) next more b.number) t.words
          (λ w. gone_joined b xs ys c d next js names b.number w same) h.said;
      earlier = recorded_map b (xs ++ c ∷ ys) (xs ++ d ∷ ys) next next js more
          (λ n w. gone_joined b xs ys c d next js names n w same) b.records h.earlier;
      new = h.new;
      below = all_joined (λ j. nat_lt j.case next) js (joins c.number b.number names) h.below
          (joins_below c.number b.number next names low);
      kept = λ k is. kept_same b xs ys c d t.words k same (h.kept k is);
      arrived = by_joined (λ j. IsKept b (xs ++ d ∷ ys) t.words j.case) js
          (joins c.number b.number names)
          (all_map (λ j. IsKept b (xs ++ c ∷ ys) t.words j.case)
          (λ j. IsKept b (xs ++ d ∷ ys) t.words j.case) js
          (λ j k. kept_same b xs ys c d t.words j.case same k) h.arrived)
          (joins_kept b (xs ++ d ∷ ys) t.words c.number b.number names
          (kept_same b xs ys c d t.words c.number same (kept_in b xs ys c t.words)));
      each = λ few.
          map-append (λ j. j.report) js (joins c.number b.number names)
          ∙ (λ i. h.each few i ++ joins_reports c.number b.number names i);
    }
