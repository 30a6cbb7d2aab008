-- What a module says along entries, one entry after another, against one record.
use Rattle.std.proofs.Common.{◌≡◌, ℕ, ◌+◌, ◌-◌, ◌<◌, ◌≤◌, List, [], ◌∷◌, ◌++◌, length, take, drop}
use Rattle.std.proofs.Common.{Option, Some, refl, sym, ◌∙◌, ap, subst, append-nil, nat_lt, arith}
use Rattle.std.proofs.Common.{slice_get, ◌^◌, Bool, true, nat_eq, All}
use Rattle.std.proofs.lemmas.List.{take-append-drop, length-take-le}
use Rattle.std.proofs.lemmas.List.Elements.{filter-append}
use Rattle.std.proofs.lemmas.Option.{slice_get_within}
use Rattle.std.proofs.lemmas.Slice.Eq.{bytes_eq-Decides}
use Rattle.fm_core.specs.Folds.{state_along, words_along, records_at}
use Rattle.fm_core.specs.Meaning.{Meaning, State, after_of, says_of}
use Rattle.fm_core.specs.Records.{numbered_before}
use Rattle.fm_core.proofs.Along.{state_push, words_append, words_push, words_within}
use Rattle.fm_core.proofs.Lists.{take_push}
use Rattle.fm_core.proofs.Ordered.{AllBelow, AllFrom, before_all, before_none, within_below}
use Rattle.fm_core.proofs.Ordered.{within_from}
use Rattle.fm_entry.specs.WordBytes.{spoken_bytes}
use Rattle.fm_entry.specs.Words.{IsSpelledSpoken, IsWordOf}
use lib.Pointwise.{pointwise}
use Rattle.fm_entry.specs.declared.entry.Entry.{Entry}
use Rattle.fm_entry.specs.declared.list_event.ListEvent.{ListEvent}
use Rattle.fm_entry.specs.declared.spoken.Spoken.{Spoken}
use Rattle.fm_entry.proofs.SpokenReader.{spoken_whole}
use Rattle.fm_retrace.specs.Logged.{said_below}

some_one : {A : Type 0} (o : Option A) (x y : A) → o ≡ Some x → o ≡ Some y → x ≡ y
some_one o x y a b = cc

-- records that are written alike are one
pub same_spoken : (x y : Spoken) → IsSpelledSpoken x → IsSpelledSpoken y
    → spoken_bytes x ≡ spoken_bytes y → x ≡ y
same_spoken x y a b same =
    some_one _ x y (spoken_whole (spoken_bytes x) x a refl) (spoken_whole (spoken_bytes x) y b same)

-- words that are written as a record's words are the record's
pub written_alike : (words : List ListEvent) (r : Spoken) (events : List ListEvent)
    (one other : List ℕ) (same : Bool) → IsSpelledSpoken r → 0 < length words
    → length words < 2 ^ 32 → All (IsWordOf r.«module») words → events ≡ words
    → one ≡ spoken_bytes (record { «module» = r.«module»; number = r.number; events = events })
    → other ≡ spoken_bytes r → same ≡ pointwise nat_eq one other → same ≡ true
    → words ≡ r.events
written_alike words r events one other same spelled some few are is written other_is test alike =
    let said : Spoken = record { «module» = r.«module»; number = r.number; events = words } in
    let bytes : one ≡ other = (bytes_eq-Decides one other).0 (sym test ∙ alike) in
    let said_is : IsSpelledSpoken said = record {
      module_fits = spelled.module_fits;
      number_fits = spelled.number_fits;
      some_words = some;
      words_fit = few;
      words_are = are;
    } in
    let one_is : said ≡ r =
    same_spoken said r said_is spelled
    (ap (λ (l : List ListEvent). spoken_bytes (record {
      «module» = r.«module»;
      number = r.number;
      events = l;
    })) (sym is) ∙ sym written ∙ bytes ∙ other_is) in
    ap (λ (x : Spoken). x.events) one_is

-- what is said below a number is what is said along the entries below it
pub said_along : (m : Meaning) (s : State) (n : ℕ) (es : List Entry) (f : ℕ) → n ≤ f
    → f ≤ n + length es
    → numbered_before f (words_along m s n es) ≡ words_along m s n (take (f - n) es)
said_along m s n es f low high =
    let more : List Entry = drop (f - n) es in
    let some : List Entry = take (f - n) es in
    let fits : f - n ≤ length es = omega arith in
    let many : length some ≡ f - n = length-take-le (f - n) es fits in
    let is : n + length some ≡ f = omega arith in
    let early : List Spoken = words_along m s n some in
    let late : List Spoken = words_along m (state_along m s n some) (n + length some) more in
    let words : words_along m s n es ≡ early ++ late =
    ap (words_along m s n) (sym (take-append-drop (f - n) es)) ∙ words_append m s n some more in
    let below : AllBelow f early =
    subst (λ (high : ℕ). AllBelow high early) is
    (within_below m.own n (n + length some) early (words_within m s n some)) in
    let from : AllFrom f late =
    subst (λ (low : ℕ). AllFrom low late) is
    (within_from m.own (n + length some) (n + length some + length more) late
    (words_within m (state_along m s n some) (n + length some) more)) in
    ap (numbered_before f) words
    ∙ filter-append (λ r. nat_lt r.number f) early late
    ∙ ap (λ (xs : List Spoken). xs ++ numbered_before f late) (before_all f early below)
    ∙ ap (λ (xs : List Spoken). early ++ xs) (before_none f late from)
    ∙ append-nil early

-- nothing is said below the record's number, and all of it below the next one
pub none_below : (n : ℕ) (said : Spoken) → n ≤ said.number → said_below n said ≡ []
none_below n said low = before_none n (said ∷ []) (low, tt)

pub all_below : (n : ℕ) (said : Spoken) → said.number < n → said_below n said ≡ said ∷ []
all_below n said high = before_all n (said ∷ []) (high, tt)

-- A turn along the entries: the module, which has come to the state of now, takes the entry at its
-- number, and says these words.
module _ (m : Meaning) (s : State) (first : ℕ) (entries : List Entry) (said : Spoken) (i : ℕ)
    (e : Entry) (number : ℕ) (m_now : Meaning) (s_now : State) (words : List ListEvent)
    (there : slice_get entries i ≡ Some e) (last : said.number + 1 ≡ first + length entries)
    (own : m.own ≡ said.«module») (number_is : number ≡ first + i) (meaning_is : m_now ≡ m)
    (state_is : s_now ≡ state_along m s first (take i entries))
    (so_far : words_along m s first (take i entries) ≡ said_below (first + i) said) where
  inside : i < length entries
  inside = slice_get_within entries i e there

  taken : first + length (take i entries) ≡ number
  taken =
      ap (λ (n : ℕ). first + n) (length-take-le i entries (omega (arith, inside)))
      ∙ sym number_is

  -- the state after one entry more
  pub state_next : (s_next : State) → s_next ≡ after_of m_now s_now number e
      → s_next ≡ state_along m s first (take (i + 1) entries)
  state_next s_next is =
      is
      ∙ ap (λ (x : Meaning). after_of x s_now number e) meaning_is
      ∙ ap (λ (x : State). after_of m x number e) state_is
      ∙ sym (ap (state_along m s first) (take_push entries i e there)
      ∙ state_push m s first (take i entries) e
      ∙ ap (λ (n : ℕ). after_of m (state_along m s first (take i entries)) n e) taken)

  -- and what is said up to it is what is said at it
  words_next : words ≡ says_of m_now s_now number e
      → words_along m s first (take (i + 1) entries) ≡ records_at said.«module» number words
  words_next is =
      ap (words_along m s first) (take_push entries i e there)
      ∙ words_push m s first (take i entries) e
      ∙ ap (λ (l : List Spoken). l ++ records_at m.own (first + length (take i entries))
      (says_of m (state_along m s first (take i entries)) (first + length (take i entries)) e))
      (so_far ∙ none_below (first + i) said (omega (arith, last, inside)))
      ∙ ap (λ (n : ℕ). records_at m.own n
      (says_of m (state_along m s first (take i entries)) n e)) taken
      ∙ ap (λ (n : ℕ). records_at n number
      (says_of m (state_along m s first (take i entries)) number e)) own
      ∙ ap (λ (x : State). records_at said.«module» number (says_of m x number e)) (sym state_is)
      ∙ ap (λ (x : Meaning). records_at said.«module» number (says_of x s_now number e))
      (sym meaning_is)
      ∙ ap (records_at said.«module» number) (sym is)

  pub said_next : words ≡ says_of m_now s_now number e
      → records_at said.«module» number words ≡ said_below (number + 1) said
      → words_along m s first (take (i + 1) entries) ≡ said_below (first + (i + 1)) said
  said_next is same =
      let next : number + 1 ≡ first + (i + 1) = omega (arith, number_is) in
      words_next is ∙ same ∙ ap (λ (n : ℕ). said_below n said) next

  pub said_other : words ≡ says_of m_now s_now number e
      → (records_at said.«module» number words ≡ said_below (number + 1) said → ⊥)
      → words_along m s first entries ≡ said ∷ [] → ⊥
  said_other is other whole =
      let back : number + 1 - first ≡ i + 1 = omega (arith, number_is) in
      other
      (sym (words_next is)
      ∙ ap (λ (n : ℕ). words_along m s first (take n entries)) (sym back)
      ∙ sym (said_along m s first entries (number + 1) (omega (arith, number_is))
      (omega (arith, number_is, inside)))
      ∙ ap (numbered_before (number + 1)) whole)
