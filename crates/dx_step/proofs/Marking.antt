-- Marks of suspects, and what stays in order.
use Rattle.std.proofs.Common.{◌≡◌, ℕ, ◌^◌, ◌<◌, ◌==◌, Bool, true, false, not, ◌&&◌, ◌||◌}
use Rattle.std.proofs.Common.{nat_lt, IsTrue, List, [], ◌∷◌, ◌++◌, map, refl, ap, ◌∙◌}
use Rattle.std.proofs.Common.{if◌then◌else◌}
use Rattle.std.specs.List.{list_all, list_any, AllByRecursion}
use Rattle.std.proofs.lemmas.Bool.{false≢true, and_from, and_parts, lt-ltb}
use Rattle.std.proofs.lemmas.List.{length-map}
use Rattle.fm_bytes.proofs.Readers.{counted_fits}
use Rattle.fm_entry.specs.Words.{event_fits, suspect_fits, word_fits}
use Rattle.fm_entry.specs.declared.suspect.Mark.{Mark}
use Rattle.fm_entry.specs.declared.suspect.Suspect.{Suspect}
use Rattle.fm_entry.specs.declared.list_event.ListKind.{ListKind}
use Rattle.fm_entry.specs.declared.list_event.ListKind.TheVariants.{Updated}
use Rattle.fm_entry.specs.declared.list_event.ListKind.TheVariants.{Repaired as RepairedWord}
use Rattle.fm_entry.specs.declared.list_event.ListEvent.{ListEvent}
use Rattle.ev_graph.specs.Lawful.{GraphValue}
use Rattle.dx_step.specs.Exact.{IsExactFor, ByTest}
use Rattle.dx_state.specs.Configured.{Rules, configuration_at}
use Rattle.dx_state.specs.LawfulState.{is_last_word, events_ascend, suspect_name, has_marks}
use Rattle.dx_state.specs.LawfulState.{is_present_mark, is_present_suspect, open_numbers}
use Rattle.dx_state.specs.LawfulState.{solved_numbers}
use Rattle.dx_state.proofs.Lists.{all_other, is_strict}
use Rattle.dx_state.proofs.Facts.{word_is, word_back}
use Rattle.dx_step.specs.Turns.{Turn, turn_cases}
use Rattle.dx_step.specs.Repairs.{Chosen, gets_mark, with_mark, mark_all, has_present}
use Rattle.dx_step.specs.Repairs.{marked_word, is_marked_by, kept_if, last_words}
use Rattle.dx_step.specs.Repairs.{mark_words, mark}
use Rattle.dx_step.proofs.Parts.{lacks, all_joined, by_joined}
use Rattle.dx_step.proofs.Sound.{IsGoodWord, IsTurn, AllWait, IsSettled}

-- a suspect with a mark has the same name, and fits as before
mark_name : (chosen : Suspect → Bool) (m : Mark) (s : Suspect)
    → suspect_name (with_mark chosen m s) ≡ suspect_name s
mark_name chosen m s =
    elim (gets_mark chosen s) as (λ (b : Bool).
    suspect_name (if b then record s { mark = m } else s) ≡ suspect_name s) [
      | true ↦ refl
      | false ↦ refl
    ]

mark_fits : (chosen : Suspect → Bool) (m : Mark) (s : Suspect)
    → suspect_fits (with_mark chosen m s) ≡ suspect_fits s
mark_fits chosen m s =
    elim (gets_mark chosen s) as (λ (b : Bool).
    suspect_fits (if b then record s { mark = m } else s) ≡ suspect_fits s) [
      | true ↦ refl
      | false ↦ refl
    ]

names_stay : (chosen : Suspect → Bool) (m : Mark) (ss : List Suspect)
    → map suspect_name (mark_all chosen m ss) ≡ map suspect_name ss
names_stay chosen m [] = refl
names_stay chosen m (s ∷ ss) =
    λ i. mark_name chosen m s i ∷ names_stay chosen m ss i

fits_stay : (chosen : Suspect → Bool) (m : Mark) (ss : List Suspect)
    → list_all suspect_fits (mark_all chosen m ss) ≡ list_all suspect_fits ss
fits_stay chosen m [] = refl
fits_stay chosen m (s ∷ ss) =
    λ i. mark_fits chosen m s i && fits_stay chosen m ss i

-- who got a mark that is another is present no more
or_second : (a b : Bool) → IsTrue b → IsTrue (a || b)
or_second true b h = refl
or_second false b h = h

some_marked : (chosen : Suspect → Bool) (m : Mark) (ss : List Suspect)
    → is_present_mark m ≡ false → IsTrue (list_any (gets_mark chosen) ss)
    → IsTrue (list_any (λ s. not (is_present_suspect s)) (mark_all chosen m ss))
some_marked chosen m [] other h = absurd (false≢true h)
some_marked chosen m (s ∷ ss) other h =
    elim (gets_mark chosen s) as (λ (b : Bool). IsTrue (b || list_any (gets_mark chosen) ss)
    → IsTrue (not (is_present_suspect (if b then record s { mark = m } else s))
    || list_any (λ s. not (is_present_suspect s)) (mark_all chosen m ss))) [
      | true ↦ λ k. ap (λ (b : Bool). not b
          || list_any (λ s. not (is_present_suspect s)) (mark_all chosen m ss)) other
      | false ↦ λ k.
          or_second (not (is_present_suspect s)) _ (some_marked chosen m ss other k)
    ] h

-- the word after a mark has a spelling
marked_fits : (own time : ℕ) (chosen : Chosen) (m : Mark) (w : ListEvent) → time < 2 ^ 62
    → IsTrue (word_fits own w) → IsTrue (word_fits own (marked_word time chosen m w))
marked_fits own time chosen m w low h =
    let one = and_parts (w.case.module == own) _ h in
    let two = and_parts (nat_lt w.case.case (2 ^ 63)) _ one.1 in
    let three = and_parts (nat_lt w.moment (2 ^ 62)) _ two.1 in
    let four = and_parts (nat_lt w.conf (2 ^ 32)) _ three.1 in
    let five = and_parts (counted_fits 4 event_fits w.observed) _ four.1 in
    let six = and_parts (counted_fits 4 suspect_fits w.suspects) _ five.1 in
    let suspects : counted_fits 4 suspect_fits (mark_all (chosen w) m w.suspects)
    ≡ counted_fits 4 suspect_fits w.suspects =
    λ i. nat_lt (length-map w.suspects (with_mark (chosen w) m) i) (256 ^ 4)
    && fits_stay (chosen w) m w.suspects i in
    and_from (w.case.module == own) _ one.0
    (and_from (nat_lt w.case.case (2 ^ 63)) _ two.0
    (and_from (nat_lt time (2 ^ 62)) _ (lt-ltb time (2 ^ 62) low)
    (and_from (nat_lt w.conf (2 ^ 32)) _ four.0
    (and_from (counted_fits 4 event_fits w.observed) _ five.0
    (and_from (counted_fits 4 suspect_fits (mark_all (chosen w) m w.suspects)) _
    (suspects ∙ six.0) six.1)))))

-- the last word of a case of which a suspect got a mark, and another is present
marked_last : (own next time : ℕ) (chosen : Chosen) (m : Mark) (w : ListEvent) → time < 2 ^ 62
    → is_present_mark m ≡ false → IsTrue (is_marked_by chosen w)
    → IsTrue (has_present (marked_word time chosen m w).suspects)
    → IsTrue (is_last_word own next w)
    → IsTrue (is_last_word own next (marked_word time chosen m w))
marked_last own next time chosen m w low other marked left h =
    let was = word_is own next w h in
    let ss = mark_all (chosen w) m w.suspects in
    let kind : (marked_word time chosen m w).kind ≡ Updated =
    ap (λ (b : Bool). if b then Updated else RepairedWord) left in
    word_back own next (marked_word time chosen m w) (record {
      fits = marked_fits own time chosen m w low was.fits;
      number = was.number;
      some = was.some;
      observed = was.observed;
      suspects = ap events_ascend (names_stay (chosen w) m w.suspects) ∙ was.suspects;
      marks = ap (λ (k : ListKind). has_marks k ss) kind
          ∙ and_from (has_present ss) _ left (some_marked (chosen w) m w.suspects other marked);
    })

kept_all : (p : ListEvent → Bool) (b : Bool) (w : ListEvent) → (IsTrue b → IsTrue (p w))
    → IsTrue (list_all p (kept_if b w))
kept_all p true w h = and_from (p w) true (h refl) refl
kept_all p false w h = refl

words_last : (own next time : ℕ) (chosen : Chosen) (m : Mark) (ws : List ListEvent)
    → time < 2 ^ 62 → is_present_mark m ≡ false → IsTrue (list_all (is_last_word own next) ws)
    → IsTrue (list_all (is_last_word own next) (last_words time chosen m ws))
words_last own next time chosen m [] low other h = refl
words_last own next time chosen m (w ∷ ws) low other h =
    let parts = and_parts (is_last_word own next w) _ h in
    let rest = words_last own next time chosen m ws low other parts.1 in
    elim (is_marked_by chosen w) as (λ (b : Bool). is_marked_by chosen w ≡ b
    → IsTrue (list_all (is_last_word own next) ((if b
    then kept_if (has_present (marked_word time chosen m w).suspects) (marked_word time chosen m w)
    else w ∷ []) ++ last_words time chosen m ws))) [
      | true ↦ λ is.
          all_joined (is_last_word own next)
          (kept_if (has_present (marked_word time chosen m w).suspects)
          (marked_word time chosen m w)) (last_words time chosen m ws)
          (kept_all (is_last_word own next)
          (has_present (marked_word time chosen m w).suspects) (marked_word time chosen m w)
          (λ left. marked_last own next time chosen m w low other is left parts.0)) rest
      | false ↦ λ is. and_from (is_last_word own next w) _ parts.0 rest
    ] refl

-- the numbers that are left pass what all passed, and are in order
left_pass : (p : ℕ → Bool) (time : ℕ) (chosen : Chosen) (m : Mark) (ws : List ListEvent)
    → IsTrue (list_all p (solved_numbers ws))
    → IsTrue (list_all p (solved_numbers (last_words time chosen m ws)))
left_pass p time chosen m [] h = refl
left_pass p time chosen m (w ∷ ws) h =
    let parts = and_parts (p w.case.case) _ h in
    let rest = left_pass p time chosen m ws parts.1 in
    elim (is_marked_by chosen w) as (λ (b : Bool). IsTrue (list_all p (solved_numbers ((if b
    then kept_if (has_present (marked_word time chosen m w).suspects) (marked_word time chosen m w)
    else w ∷ []) ++ last_words time chosen m ws)))) [
      | true ↦
          elim (has_present (marked_word time chosen m w).suspects) as (λ (b : Bool).
          IsTrue (list_all p (solved_numbers (kept_if b (marked_word time chosen m w)
          ++ last_words time chosen m ws)))) [
            | true ↦ and_from (p w.case.case) _ parts.0 rest
            | false ↦ rest
          ]
      | false ↦ and_from (p w.case.case) _ parts.0 rest
    ]

left_strict : (time : ℕ) (chosen : Chosen) (m : Mark) (ws : List ListEvent)
    → IsTrue (is_strict (solved_numbers ws))
    → IsTrue (is_strict (solved_numbers (last_words time chosen m ws)))
left_strict time chosen m [] h = refl
left_strict time chosen m (w ∷ ws) h =
    let n = w.case.case in
    let parts = and_parts (list_all (nat_lt n) (solved_numbers ws))
    (is_strict (solved_numbers ws)) h
    in
    let above = left_pass (nat_lt n) time chosen m ws parts.0 in
    let rest = left_strict time chosen m ws parts.1 in
    let more = and_from (list_all (nat_lt n) (solved_numbers (last_words time chosen m ws))) _ above
    rest in
    elim (is_marked_by chosen w) as (λ (b : Bool). IsTrue (is_strict (solved_numbers ((if b
    then kept_if (has_present (marked_word time chosen m w).suspects) (marked_word time chosen m w)
    else w ∷ []) ++ last_words time chosen m ws)))) [
      | true ↦
          elim (has_present (marked_word time chosen m w).suspects) as (λ (b : Bool).
          IsTrue (is_strict (solved_numbers (kept_if b (marked_word time chosen m w)
          ++ last_words time chosen m ws)))) [
            | true ↦ more
            | false ↦ rest
          ]
      | false ↦ more
    ]

-- what is said of a mark is a good word
kind_exact : (g : GraphValue) (b : Bool) (w : ListEvent)
    → IsExactFor ByTest g (if b then Updated else RepairedWord) w
kind_exact g true w = tt
kind_exact g false w = tt

said_good : (r : Rules) (next time : ℕ) (chosen : Chosen) (m : Mark) (ws : List ListEvent)
    → time < 2 ^ 62 → IsTrue (list_all (is_last_word r.own next) ws)
    → AllByRecursion (IsGoodWord r) (mark_words time chosen m ws)
said_good r next time chosen m [] low h = tt
said_good r next time chosen m (w ∷ ws) low h =
    let parts = and_parts (is_last_word r.own next w) _ h in
    let rest = said_good r next time chosen m ws low parts.1 in
    let was = word_is r.own next w parts.0 in
    let good : IsGoodWord r (marked_word time chosen m w) =
    record {
      spelled = marked_fits r.own time chosen m w low was.fits;
      exact = kind_exact (configuration_at r w.conf).graph
          (has_present (mark_all (chosen w) m w.suspects)) (marked_word time chosen m w);
    } in
    elim (is_marked_by chosen w) as (λ (b : Bool). AllByRecursion (IsGoodWord r)
    (kept_if b (marked_word time chosen m w) ++ mark_words time chosen m ws)) [
      | true ↦ (good, rest)
      | false ↦ rest
    ]

-- marks are given
pub marked : (r : Rules) (chosen : Chosen) (m : Mark) (t : Turn) → is_present_mark m ≡ false
    → IsTurn r (turn_cases t) t → AllWait r t → IsSettled r t (mark chosen m t)
unfolding mark
marked r chosen m t other h all =
    let ws = t.state.solved in
    let time = t.state.time in
    record {
      turn = record {
        sound = record {
          time = h.sound.time;
          next = h.sound.next;
          cases = h.sound.cases;
          solved = words_last r.own t.state.next time chosen m ws h.sound.time other h.sound.solved;
          strict = h.sound.strict;
          solved_strict = left_strict time chosen m ws h.sound.solved_strict;
          apart = all_other (lacks (solved_numbers ws))
              (lacks (solved_numbers (last_words time chosen m ws)))
              (λ n k. left_pass (λ m. not (m == n)) time chosen m ws k)
              (open_numbers (turn_cases t)) h.sound.apart;
          engines = h.sound.engines;
        };
        formed = h.formed;
        conf = h.conf;
        words = by_joined (IsGoodWord r) t.words (mark_words time chosen m ws) h.words
            (said_good r t.state.next time chosen m ws h.sound.time h.sound.solved);
        fired = h.fired;
      };
      waiting = all;
      time = refl;
      conf = refl;
    }
