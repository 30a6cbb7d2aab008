-- A diagnosis module along entries, one step after another.
use Rattle.std.proofs.Common.{◌≡◌, ℕ, ◌+◌, ◌<◌, ◌≤◌, ◌^◌, IsTrue, List, [], ◌∷◌}
use Rattle.std.proofs.Common.{length, refl, sym, subst, arith}
use Rattle.std.specs.List.{All, AllByRecursion}
use Rattle.std.proofs.lemmas.Bool.{false≢true}
use Rattle.std.proofs.lemmas.List.Elements.{All-from_recursion, recursion_from_All}
use Rattle.fm_entry.specs.Entries.{IsSpelled}
use Rattle.fm_entry.specs.declared.entry.Entry.{Entry}
use Rattle.fm_entry.specs.declared.list_event.ListEvent.{ListEvent}
use Rattle.fm_entry.specs.declared.spoken.Spoken.{Spoken}
use Rattle.fm_core.specs.Book.{ModuleState}
use Rattle.fm_core.specs.Folds.{records_at, state_along, words_along}
use Rattle.fm_core.specs.Meaning.{Meaning, State, Counting, Diagnosing, Foreign, after_of, holds_of}
use Rattle.fm_core.specs.Meaning.{says_of}
use Rattle.fm_core.proofs.Lists.{all_append}
use Rattle.fm_core.proofs.Spoken.{stays_lawful}
use Rattle.dx_state.specs.Configured.{Rules}
use Rattle.dx_step.specs.DiagnoserWords.{diagnoser_holds, diagnoser_says}
use Rattle.dx_step.specs.Exact.{ByStories, IsExact, HaveGraphs}
use Rattle.dx_step.proofs.Module.{exact_words, cases_wait}
use Rattle.dx_meaning.specs.DiagnoserMeaning.{diagnoser_meaning}
use Rattle.dx_along.specs.ExactAlong.{IsDiagnoserOf, IsExactAlong, WaitsForReports}

abbrev pub AreExactWords : Rules → Spoken → Type 0
AreExactWords r x = All (IsExact ByStories r) x.events

-- what is said at one entry
exact_at : (r : Rules) (s : State) (n : ℕ) (e : Entry) → HaveGraphs r
    → IsTrue (diagnoser_holds r s) → n < 2 ^ 46 → IsSpelled e
    → All (IsExact ByStories r) (diagnoser_says r s n e)
exact_at r (Diagnosing s) n e graphs holds few spelled =
    exact_words r s n e graphs holds few spelled
exact_at r (Counting xs) n e graphs holds few spelled = absurd (false≢true holds)
exact_at r (Foreign bytes) n e graphs holds few spelled = absurd (false≢true holds)

exact_record : (r : Rules) (own n : ℕ) (ws : List ListEvent) → All (IsExact ByStories r) ws
    → AllByRecursion (AreExactWords r) (records_at own n ws)
exact_record r own n [] exact = tt
exact_record r own n (w ∷ ws) exact = (exact, tt)

exact_from : (r : Rules) (s : State) (n : ℕ) (es : List Entry) → HaveGraphs r
    → IsTrue (diagnoser_holds r s) → n + length es ≤ 2 ^ 46 → AllByRecursion IsSpelled es
    → AllByRecursion (AreExactWords r) (words_along (diagnoser_meaning r) s n es)
exact_from r s n [] graphs holds few spelled = tt
exact_from r s n (e ∷ es) graphs holds few spelled =
    let m : Meaning = diagnoser_meaning r in
    let here : n < 2 ^ 46 = omega (arith, few) in
    all_append (AreExactWords r) (records_at m.own n (says_of m s n e))
    (words_along m (after_of m s n e) (n + 1) es)
    (exact_record r m.own n (says_of m s n e) (exact_at r s n e graphs holds here spelled.0))
    (exact_from r (after_of m s n e) (n + 1) es graphs (m.after_holds s n e holds here spelled.0)
    (omega (arith, few)) spelled.1)

waits_in : (r : Rules) (s : State) → HaveGraphs r → IsTrue (diagnoser_holds r s)
    → WaitsForReports r s
waits_in r (Diagnosing s) graphs holds =
    record { diagnosis = s; state_is = refl; waits = cases_wait r s graphs holds }
waits_in r (Counting xs) graphs holds = absurd (false≢true holds)
waits_in r (Foreign bytes) graphs holds = absurd (false≢true holds)

exact_made : (r : Rules) (m : Meaning) (s : State) (n : ℕ) (es : List Entry)
    → m ≡ diagnoser_meaning r → IsTrue (holds_of m s) → HaveGraphs r → n + length es ≤ 2 ^ 46
    → All IsSpelled es → IsExactAlong r (record { meaning = m; state = s }) n es
exact_made r m s n es is holds graphs few spelled =
    subst (λ (x : Meaning). IsExactAlong r (record { meaning = x; state = s }) n es) (sym is)
    (made (subst (λ (x : Meaning). IsTrue (holds_of x s)) is holds))
  where
    made : IsTrue (diagnoser_holds r s)
        → IsExactAlong r (record { meaning = diagnoser_meaning r; state = s }) n es
    made holds = record {
      words = All-from_recursion (AreExactWords r) (words_along (diagnoser_meaning r) s n es)
          (exact_from r s n es graphs holds few (recursion_from_All IsSpelled es spelled));
      waits = waits_in r (state_along (diagnoser_meaning r) s n es) graphs
          (stays_lawful (diagnoser_meaning r) s n es holds few spelled).state_holds;
    }

pub exact_along : (r : Rules) (p : ModuleState) (n : ℕ) (es : List Entry) → IsDiagnoserOf r p
    → n + length es ≤ 2 ^ 46 → All IsSpelled es → IsExactAlong r p n es
exact_along r p n es is few spelled =
    exact_made r p.meaning p.state n es is.meaning_is is.holds is.graphs few spelled
