-- What is said along entries is words of the module.
use Rattle.std.proofs.Common.{ℕ, ◌+◌, ◌<◌, ◌≤◌, ◌^◌, IsTrue, List, [], ◌∷◌, length, arith}
use Rattle.std.specs.Prelude.{All}
use Rattle.std.proofs.lemmas.List.Elements.{All-from_recursion, All-append, recursion_from_All}
use Rattle.std.specs.List.{AllByRecursion}
use Rattle.fm_entry.specs.declared.entry.Entry.{Entry}
use Rattle.fm_entry.specs.declared.list_event.ListEvent.{ListEvent}
use Rattle.fm_entry.specs.declared.spoken.Spoken.{Spoken}
use Rattle.fm_entry.specs.Entries.{IsSpelled}
use Rattle.fm_entry.specs.Words.{IsWordOf}
use Rattle.fm_core.specs.Meaning.{Meaning, State, after_of, says_of, holds_of}
use Rattle.fm_core.specs.Folds.{words_along, records_at, StaysLawful}

abbrev AreWords : ℕ → Spoken → Type 0
AreWords own r = All (IsWordOf own) r.events

record_words : (own n : ℕ) (ws : List ListEvent) → All (IsWordOf own) ws
    → All (AreWords own) (records_at own n ws)
record_words own n [] h = All-from_recursion (AreWords own) [] tt
record_words own n (w ∷ ws) h =
    All-from_recursion (AreWords own) (records_at own n (w ∷ ws)) (h, tt)

along : (m : Meaning) (s : State) (n : ℕ) (es : List Entry) → IsTrue (holds_of m s)
    → n + length es ≤ 2 ^ 46 → AllByRecursion IsSpelled es → StaysLawful m s n es
along m s n [] h few spelled =
    record { state_holds = h; words_are = All-from_recursion (AreWords m.own) [] tt }
along m s n (e ∷ es) h few spelled =
    let here : n < 2 ^ 46 = omega arith in
    let rest : StaysLawful m (after_of m s n e) (n + 1) es =
    along m (after_of m s n e) (n + 1) es (m.after_holds s n e h here spelled.0) (omega arith)
    spelled.1 in
    record {
      state_holds = rest.state_holds;
      words_are = All-append (AreWords m.own) (records_at m.own n (says_of m s n e))
          (words_along m (after_of m s n e) (n + 1) es)
          (record_words m.own n (says_of m s n e) (m.says_words s n e h here spelled.0))
          rest.words_are;
    }

-- along entries that have spellings
pub stays_lawful : (m : Meaning) (s : State) (n : ℕ) (es : List Entry) → IsTrue (holds_of m s)
    → n + length es ≤ 2 ^ 46 → All IsSpelled es → StaysLawful m s n es
stays_lawful m s n es h few spelled = along m s n es h few (recursion_from_All IsSpelled es spelled)
