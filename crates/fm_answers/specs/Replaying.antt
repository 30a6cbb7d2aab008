-- What `replay` does: the entries of the input go through two counters.
use Rattle.std.specs.Prelude.{◌≡◌, ◌⊎◌, ℕ, ◌+◌, ◌≤◌, ◌^◌, List, [], ◌∷◌, ◌++◌, false, length, take}
use Rattle.std.specs.Prelude.{codes, decimal, None, Some, Result, MatchResult}
use Rattle.std.specs.Io.KnownBytes.{Appends, Consumes, IsAtEnd}
use Rattle.fm_core.specs.Book.{Book, ModuleState, with_entries}
use Rattle.fm_core.specs.Counter.{counter_meaning}
use Rattle.fm_core.specs.Drained.{Ended, Drained, drained}
use Rattle.fm_core.specs.Meaning.{State, Counting}
use Rattle.fm_core.specs.declared.class_count.ClassCount.{ClassCount}
use Rattle.fm_entry.specs.declared.entry.Entry.{Entry}
use Rattle.fm_journal.specs.declared.fault.FullKind.TheVariants.{Numbers}
use Rattle.fm_line.specs.Lines.{lines_of}
use Rattle.fm_answers.specs.Accounts.{Accounts}
use Rattle.fm_answers.specs.Answers.{answers, entries_of}
use Rattle.fm_answers.specs.StreamsAt.{SourceAt, SinkAt}
use Rattle.fm_answers.specs.Running.{Taken, RanUntil}
use Rattle.fm_answers.specs.declared.stops.Stop.{Stop}
use Rattle.fm_answers.specs.declared.stops.Stop.TheVariants.{Read, Write, Memory, Full}

-- a counter that has counted nothing
abbrev pub fresh_module : ℕ → ModuleState
fresh_module own = record { meaning = counter_meaning own; state = Counting [] }

-- the book of two counters, numbered 0 and 1, before any entry
abbrev pub fresh_book : Book
fresh_book = record {
  base = 0;
  moment = 0;
  modules =
      fresh_module 0 ∷ fresh_module 1 ∷ [];
  entries = [];
  cursors = 0 ∷ 0 ∷ [];
  records = [];
}

-- what the two counters come to once each has taken these entries
unfoldable pub replayed : List Entry → Drained
replayed entries = drained (with_entries fresh_book entries)

-- how many records the modules spoke
abbrev pub spoken_by : List Ended → ℕ
spoken_by [] = 0
spoken_by (m ∷ ms) = length m.words + spoken_by ms

-- `count N CLASS`
abbrev pub count_line : ClassCount → List ℕ
count_line x = codes "count " ++ (decimal x.count ++ (codes " " ++ (x.class ++ codes "\n")))

-- a line for each class
unfoldable pub count_lines : List ClassCount → List ℕ
count_lines [] = []
count_lines (x ∷ xs) = count_line x ++ count_lines xs

-- the counts of a counter
abbrev pub counts_in : State → List ClassCount
counts_in (Counting xs) = xs
counts_in _ = []

-- the counts of the first module
abbrev pub first_counts : List Ended → List ClassCount
first_counts [] = []
first_counts (m ∷ ms) = counts_in m.state

-- `entries E spoken S`, and then the counts
abbrev pub summary_text : ℕ → ℕ → List ClassCount → List ℕ
summary_text entries spoken counts =
    (codes "entries " ++ (decimal entries ++ (codes " spoken " ++ (decimal spoken ++ codes "\n"))))
    ++ count_lines counts

-- that of two modules which have taken all entries
abbrev pub summary_of : Drained → List ℕ
summary_of d = summary_text d.count (spoken_by d.modules) (first_counts d.modules)

-- what is put after the refused lines
abbrev pub replay_text : List Entry → List ℕ
replay_text entries = summary_of (replayed entries)

-- what may stop the taking of entries: only that there are 2^46
abbrev pub ReplayTaken : Taken
ReplayTaken entries None = Unit {0}
ReplayTaken entries (Some (Full Numbers, entry)) = 2 ^ 46 ≤ length entries
ReplayTaken entries _ = ⊥

-- The input was read to its end, and this text was put: the refused lines, the numbers and the
-- counts.
pub record ReplayedAll (puts consumes : List ℕ → Type 0) (at_end : Type 0) : Type 0 where
  pub read : List ℕ
  pub consumed : consumes read
  pub whole : at_end
  pub within : length read ≤ 2 ^ 40
  pub put : puts (answers false 1 0 (lines_of read) ++ replay_text (entries_of (lines_of read)))

-- what was put of a text: a front where the sink failed, and nothing where memory was wanted before
abbrev pub IsPutOf : List ℕ → Stop → List ℕ → Type 0
IsPutOf text Write part = (m : ℕ) × (m ≤ length text) × (part ≡ take m text)
IsPutOf text Memory part = part ≡ []
IsPutOf text _ part = ⊥

-- The input was read to its end and all refused lines were put, but only a part of what follows.
pub record SummaryCut (puts consumes : List ℕ → Type 0) (at_end : Type 0) (stop : Stop) : Type 0
  where
    pub read : List ℕ
    pub consumed : consumes read
    pub whole : at_end
    pub within : length read ≤ 2 ^ 40
    pub part : List ℕ
    pub why : IsPutOf (replay_text (entries_of (lines_of read))) stop part
    pub put : puts (answers false 1 0 (lines_of read) ++ part)

-- `replay` stopped, within the run over the input or after it, or before it for want of memory
abbrev pub ReplayStops : (List ℕ → Type 0) → (List ℕ → Type 0) → Type 0 → Stop → Type 0
ReplayStops puts consumes at_end stop =
    RanUntil ReplayTaken puts false 0 consumes at_end stop ⊎ SummaryCut puts consumes at_end stop

-- `replay` ran, from the input to the sink
pub record ReplayRan (input input_now : SourceAt) (out out_now : SinkAt)
    (ran : Result (Unit {0}) Stop) : Type 0 where
  pub went : MatchResult ran
      (λ _. ReplayedAll (Appends out.bytes out_now.bytes) (Consumes input.left input_now.left)
      (IsAtEnd input_now.left))
      (ReplayStops (Appends out.bytes out_now.bytes) (Consumes input.left input_now.left)
      (IsAtEnd input_now.left))
  pub counts_input : Accounts Read input.failures input_now.failures ran
  pub counts_out : Accounts Write out.failures out_now.failures ran
