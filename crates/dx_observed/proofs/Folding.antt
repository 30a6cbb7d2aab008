-- Along entries, one turn after another.
use Rattle.std.proofs.Common.{◌≡◌, ℕ, ◌+◌, Bool, ◌||◌, List, [], ◌∷◌, ◌++◌}
use Rattle.std.proofs.Common.{length, refl, sym, ap, ◌∙◌, arith, append_assoc, append-nil}
use Rattle.std.proofs.lemmas.List.Folds.{list_any-append}
use Rattle.fm_entry.specs.declared.entry.Entry.{Entry}
use Rattle.fm_entry.specs.declared.list_event.ListEvent.{ListEvent}
use Rattle.fm_entry.specs.declared.spoken.Spoken.{Spoken}
use Rattle.fm_core.specs.Folds.{records_at, state_along, words_along}
use Rattle.fm_core.specs.Meaning.{OpenCase, Diagnosis, Diagnosing}
use Rattle.fm_core.proofs.Lists.{all_map}
use Rattle.dx_state.specs.Configured.{Rules}
use Rattle.dx_step.specs.Said.{event_names}
use Rattle.dx_step.specs.Turns.{Turn, graph_of}
use Rattle.dx_step.specs.Step.{turn}
use Rattle.dx_step.proofs.Parts.{by_joined}
use Rattle.dx_meaning.specs.DiagnoserMeaning.{diagnoser_meaning}
use Rattle.dx_observed.specs.Reported.{Reported, JoinedReport, reported_at, reported_along}
use Rattle.dx_observed.specs.Reported.{has_open}
use Rattle.dx_observed.specs.Reported.{has_said, has_word}
use Rattle.dx_observed.proofs.Events.{or_nil, just_later}
use Rattle.dx_observed.proofs.Sharing.{Before, IsPast, ArePast, AreRecorded, IsNow, IsKept, Shares}
use Rattle.dx_observed.proofs.Acting.{still, turned}

-- what was before the next turn, where these words were said at this one
abbrev later : ℕ → Before → List ListEvent → Before
later own b ws = record {
  had = b.had;
  first = b.first;
  records = b.records ++ records_at own b.number ws;
  number = b.number + 1;
}

-- the words of a turn, as they are recorded
said_at : (own n : ℕ) (ws : List ListEvent) (k : ℕ)
    → has_said (records_at own n ws) k ≡ has_word ws k
said_at own n [] k = refl
said_at own n (w ∷ ws) k = sym (or_nil (has_word (w ∷ ws) k))

kept_later : (own : ℕ) (b : Before) (cs : List OpenCase) (ws : List ListEvent) (k : ℕ)
    → IsKept b cs ws k → IsKept (later own b ws) cs [] k
kept_later own b cs ws k h =
    ap (λ (t : Bool). has_open cs k || t)
    (sym (or_nil (has_said (b.records ++ records_at own b.number ws) k))
    ∙ list_any-append (λ x. has_word x.events k) b.records (records_at own b.number ws)
    ∙ ap (λ (t : Bool). has_said b.records k || t) (said_at own b.number ws k))
    ∙ h

past_later : (own : ℕ) (b : Before) (ws said : List ListEvent) (cs : List OpenCase) (next : ℕ)
    (js : List JoinedReport) → ArePast b cs next js b.number ws
    → ArePast (later own b said) cs next js (b.number + 1) ws
past_later own b ws said cs next js h =
    all_map (IsPast b cs next js b.number) (IsPast (later own b said) cs next js (b.number + 1)) ws
    (λ w k. record {
      just =
          just_later b.had js b.number (b.number + 1) w.case.case w.observed (omega arith) k.just;
      below = k.below;
      apart = k.apart;
    }) h

as_later : (own : ℕ) (b : Before) (said : List ListEvent) (cs : List OpenCase) (next : ℕ)
    (js : List JoinedReport) (records : List Spoken) → AreRecorded b cs next js records
    → AreRecorded (later own b said) cs next js records
as_later own b said cs next js records h =
    all_map (λ x. ArePast b cs next js x.number x.events)
    (λ x. ArePast (later own b said) cs next js x.number x.events) records
    (λ x k. all_map (IsPast b cs next js x.number) (IsPast (later own b said) cs next js x.number)
    x.events (λ w l. record { just = l.just; below = l.below; apart = l.apart }) k) h

recorded_at : (own : ℕ) (b : Before) (cs : List OpenCase) (next : ℕ) (js : List JoinedReport)
    (ws : List ListEvent) → ArePast b cs next js b.number ws
    → AreRecorded b cs next js (records_at own b.number ws)
recorded_at own b cs next js [] h = tt
recorded_at own b cs next js (w ∷ ws) h = (h, tt)

-- before the next turn
next_turn : (r : Rules) (b : Before) (made : List Reported) (u : Turn) (js : List JoinedReport)
    → Shares r b made u.state.open_cases u js
    → Shares r (later r.own b u.words) made u.state.open_cases (still u.state) js
next_turn r b made u js h =
    let own = r.own in
    let g = graph_of r u.state in
    let cs = u.state.open_cases in
    let next = u.state.next in
    record {
      now = all_map (IsNow g b next js) (IsNow g (later own b u.words) next js) cs (λ c k. record {
        just =
            just_later b.had js b.number (b.number + 1) c.number (event_names g c.observed)
            (omega arith) k.just;
        below = k.below;
      }) h.now;
      strict = h.strict;
      solved = past_later own b u.state.solved u.words cs next js h.solved;
      said = tt;
      earlier = as_later own b u.words cs next js (b.records ++ records_at own b.number u.words)
          (by_joined (λ x. ArePast b cs next js x.number x.events) b.records
          (records_at own b.number u.words) h.earlier
          (recorded_at own b cs next js u.words h.said));
      new = h.new;
      below = h.below;
      kept = λ k is. kept_later own b cs u.words k (h.kept k is);
      arrived = all_map (λ j. IsKept b cs u.words j.case)
          (λ j. IsKept (later own b u.words) cs [] j.case) js
          (λ j k. kept_later own b cs u.words j.case k) h.arrived;
      each = h.each;
    }

-- after entries
pub record IsAfter (r : Rules) (b : Before) (made : List Reported) (s : Diagnosis)
    (es : List Entry) : Type 0 where
  pub after : Diagnosis
  pub joined : List JoinedReport
  pub records : List Spoken
  pub number : ℕ
  pub made_since : List Reported
  pub shares : Shares r (record b { records = records; number = number }) made_since
      after.open_cases (still after) joined
  pub state_is : state_along (diagnoser_meaning r) (Diagnosing s) b.number es ≡ Diagnosing after
  pub records_are : records
      ≡ b.records ++ words_along (diagnoser_meaning r) (Diagnosing s) b.number es
  pub number_is : number ≡ b.number + length es
  pub made_is : made_since ≡ made ++ reported_along r s b.number es

pub along : (r : Rules) (b : Before) (made : List Reported) (s : Diagnosis) (es : List Entry)
    (js : List JoinedReport) → Shares r b made s.open_cases (still s) js
    → IsAfter r b made s es
along r b made s [] js h = record {
  after = s;
  joined = js;
  records = b.records;
  number = b.number;
  made_since = made;
  shares = h;
  state_is = refl;
  records_are = sym (append-nil b.records);
  number_is = omega arith;
  made_is = sym (append-nil made);
}
along r b made s (e ∷ es) js h =
    let u = turn r s b.number e in
    let one = turned r b made s e js h in
    let more = made ++ reported_at r s b.number e in
    let words = records_at r.own b.number u.words in
    let rest = along r (later r.own b u.words) more u.state es one.joined
    (next_turn r b more u one.joined one.shares) in
    let number = rest.number_is in
    record {
      after = rest.after;
      joined = rest.joined;
      records = rest.records;
      number = rest.number;
      made_since = rest.made_since;
      shares = rest.shares;
      state_is = rest.state_is;
      records_are = rest.records_are
          ∙ append_assoc b.records words
          (words_along (diagnoser_meaning r) (Diagnosing u.state) (b.number + 1) es);
      number_is = omega (arith, number);
      made_is = rest.made_is
          ∙ append_assoc made (reported_at r s b.number e)
          (reported_along r u.state (b.number + 1) es);
    }
