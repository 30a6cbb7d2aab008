-- What a counter is as a module.
use Rattle.std.specs.Prelude.{◌≡◌, ℕ, ◌<◌, ◌^◌, Bool, true, false, IsTrue, All, List, []}
use Rattle.std.specs.Prelude.{length, Option, None, refl}
use Rattle.std.proofs.Common.{ap}
use Rattle.fm_nv.specs.Data.{Pairs}
use Rattle.fm_entry.specs.declared.entry.Entry.{Entry}
use Rattle.fm_entry.specs.declared.entry.Entry.TheVariants.{Report, Tick}
use Rattle.fm_entry.specs.declared.list_event.ListEvent.{ListEvent}
use Rattle.fm_entry.specs.Entries.{IsSpelled}
use Rattle.fm_entry.specs.Words.{IsWordOf}
use Rattle.fm_core.specs.declared.class_count.ClassCount.{ClassCount}
use Rattle.fm_core.specs.declared.module.Module.{Ghosts}
use Rattle.fm_core.specs.Meaning.{State, Counting, Diagnosing, Foreign, Meaning}
use Rattle.fm_core.specs.Counts.{counts_after, counter_words, are_counts, counts_bytes}
use Rattle.fm_core.specs.CountsOnce.{counts_once}
use Rattle.fm_core.specs.CountsKept.{counts_kept, words_kept}

-- a counter: the number of its module, and its counts
pub record CounterOf : Type 0 where
  pub number : ℕ
  pub counts : List ClassCount

-- it subscribes to every class
abbrev pub counter_takes : State → List ℕ → Bool
counter_takes s class = true

abbrev pub counter_after : State → ℕ → Entry → State
counter_after (Counting xs) n e = Counting (counts_after xs e)
counter_after s n e = s

abbrev pub counter_says : ℕ → State → ℕ → Entry → List ListEvent
counter_says own (Counting xs) n e = counter_words own xs e
counter_says own s n e = []

abbrev pub counter_holds : State → Bool
counter_holds (Counting xs) = are_counts xs
counter_holds s = false

abbrev pub counter_saved : State → List ℕ
counter_saved (Counting xs) = counts_bytes xs
counter_saved s = []

pub counter_once : (s t : State) → IsTrue (counter_holds s) → IsTrue (counter_holds t)
    → length (counter_saved s) < 2 ^ 64 → counter_saved s ≡ counter_saved t → s ≡ t
counter_once (Counting xs) (Counting ys) a b fits e = ap Counting (counts_once xs ys a b e)
counter_once (Counting xs) (Diagnosing d) a b fits e = absurd (let no : ⊥ = cc in no)
counter_once (Counting xs) (Foreign bs) a b fits e = absurd (let no : ⊥ = cc in no)
counter_once (Diagnosing d) t a b fits e = absurd (let no : ⊥ = cc in no)
counter_once (Foreign bs) t a b fits e = absurd (let no : ⊥ = cc in no)

-- there is no class that it does not subscribe to
pub counter_after_ticks : (s : State) (n : ℕ) (class path : List ℕ) (moment : ℕ) (payload : Pairs)
    → counter_takes s class ≡ false
    → counter_after s n (Report class path moment payload) ≡ counter_after s n (Tick moment)
counter_after_ticks s n class path moment payload e = absurd (let no : ⊥ = cc in no)

pub counter_says_ticks : (own : ℕ) (s : State) (n : ℕ) (class path : List ℕ) (moment : ℕ)
    (payload : Pairs) → counter_takes s class ≡ false
    → counter_says own s n (Report class path moment payload) ≡ counter_says own s n (Tick moment)
counter_says_ticks own s n class path moment payload e = absurd (let no : ⊥ = cc in no)

pub counter_after_holds : (s : State) (n : ℕ) (e : Entry) → IsTrue (counter_holds s) → n < 2 ^ 46
    → IsSpelled e → IsTrue (counter_holds (counter_after s n e))
counter_after_holds (Counting xs) n e h few s = counts_kept xs e h s
counter_after_holds (Diagnosing d) n e h few s = h
counter_after_holds (Foreign bytes) n e h few s = h

pub counter_says_words : (own : ℕ) (s : State) (n : ℕ) (e : Entry) → IsTrue (counter_holds s)
    → n < 2 ^ 46 → IsSpelled e → All (IsWordOf own) (counter_says own s n e)
counter_says_words own (Counting xs) n e h few s = words_kept own xs e h s
counter_says_words own (Diagnosing d) n e h few s = absurd (let no : ⊥ = cc in no)
counter_says_words own (Foreign bytes) n e h few s = absurd (let no : ⊥ = cc in no)

-- its states have no configuration
abbrev pub counter_conf : State → Option ℕ
counter_conf s = None

-- the meaning of the counter with this module number
abbrev pub counter_meaning : ℕ → Meaning
counter_meaning own =
    record {
      own = own;
      known = 0;
      conf = counter_conf;
      takes = counter_takes;
      after = counter_after;
      says = counter_says own;
      holds = counter_holds;
      saved = counter_saved;
      after_ticks = counter_after_ticks;
      says_ticks = counter_says_ticks own;
      conf_steps = λ s n e. refl;
      after_holds = counter_after_holds;
      says_words = counter_says_words own;
      saved_once = counter_once;
    }

-- how contracts see a counter as a module
abbrev pub counters : Ghosts CounterOf
counters =
    record {
      meaning = λ c. counter_meaning c.number;
      state = λ c. Counting c.counts;
    }
