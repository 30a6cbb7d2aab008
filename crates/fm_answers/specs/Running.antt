-- How a run over the input goes: which bytes were read, which lines were answered, and where it
-- stopped.
use Rattle.std.specs.Prelude.{◌≡◌, ◌⊎◌, ℕ, ◌+◌, ◌≤◌, ◌<◌, ◌^◌, List, [], ◌∷◌, ◌++◌, Bool, length}
use Rattle.std.specs.Prelude.{take, Option, Some, None}
use Rattle.fm_entry.specs.declared.entry.Entry.{Entry}
use Rattle.fm_line.specs.Lines.{lines_of}
use Rattle.fm_journal.specs.declared.fault.FullKind.TheVariants.{Input}
use Rattle.fm_answers.specs.declared.stops.Stop.{Stop}
use Rattle.fm_answers.specs.declared.stops.Stop.TheVariants.{Read, Write, Disk, Memory, Full}
use Rattle.fm_answers.specs.Answers.{answers, entries_of, entries_in}
use Rattle.fm_answers.specs.Ended.{ended}

-- a line of the input: its bytes, or none of one that is too long
abbrev pub Line : Type 0
Line = Option (List ℕ)

-- What became of entries: they were taken, in order, and after them perhaps one more was refused,
-- for this cause.
abbrev pub Taken : Type 1
Taken = List Entry → Option (Stop × Entry) → Type 0

-- How a run stopped at a line, once all lines before it were answered. `answered` gives the answers
-- to lines.
abbrev pub StopsAt : Taken → (List ℕ → Type 0) → (List Line → List ℕ) → List Line → Line → Stop
    → Type 0
-- a part of its answer was put, and its entry was taken if it has one
StopsAt taken puts answered lines line Write =
    (m : ℕ) × (length (answered lines) ≤ m) × puts (take m (answered (lines ++ line ∷ [])))
    × taken (entries_of (lines ++ line ∷ [])) None
-- its entry was refused
StopsAt taken puts answered lines line Disk =
    puts (answered lines)
    × ((entry : Entry) × (entries_in line ≡ entry ∷ [])
    × taken (entries_of lines) (Some (Disk, entry)))
StopsAt taken puts answered lines line (Full kind) =
    puts (answered lines)
    × ((entry : Entry) × (entries_in line ≡ entry ∷ [])
    × taken (entries_of lines) (Some (Full kind, entry)))
-- it was not answered, and its entry was taken or not
StopsAt taken puts answered lines line Memory =
    puts (answered lines)
    × (taken (entries_of lines) None ⊎ taken (entries_of (lines ++ line ∷ [])) None)
StopsAt taken puts answered lines line _ = ⊥

-- Why a run stops between two lines: the source failed, memory was wanted, or after 2^40 bytes
-- there are more, of which one piece was read.
abbrev pub StopsBetween : List ℕ → List ℕ → Stop → Type 0
StopsBetween read more Read = more ≡ []
StopsBetween read more Memory = more ≡ []
StopsBetween read more (Full Input) = (length read ≡ 2 ^ 40) × (0 < length more)
    × (length more ≤ 4096)
StopsBetween read more _ = ⊥

-- The run read the input to its end, and answered each line.
pub record RanAll (taken : Taken) (puts : List ℕ → Type 0) (is_told : Bool) (next : ℕ)
    (consumes : List ℕ → Type 0) (at_end : Type 0) : Type 0 where
  pub read : List ℕ
  pub consumed : consumes read
  pub whole : at_end
  pub within : length read ≤ 2 ^ 40
  pub put : puts (answers is_told 1 next (lines_of read))
  pub took : taken (entries_of (lines_of read)) None

-- The run stopped between two lines: each line that ended in the bytes read before was answered,
-- and `more` was read only to see that more is left.
pub record RanBetween (taken : Taken) (puts : List ℕ → Type 0) (is_told : Bool) (next : ℕ)
    (consumes : List ℕ → Type 0) (stop : Stop) : Type 0 where
  pub read : List ℕ
  pub more : List ℕ
  pub consumed : consumes (read ++ more)
  pub within : length read ≤ 2 ^ 40
  pub why : StopsBetween read more stop
  pub put : puts (answers is_told 1 next (ended read))
  pub took : taken (entries_of (ended read)) None

-- These lines ended in a front of the bytes, behind which at most one piece was read, or they are
-- all lines of the whole input.
abbrev pub AreRead : List ℕ → Type 0 → List Line → Type 0
AreRead read at_end lines =
    ((front : List ℕ) × (back : List ℕ) × (read ≡ front ++ back) × (length back ≤ 4096)
    × (ended front ≡ lines))
    ⊎ (at_end × (lines_of read ≡ lines))

-- The run stopped at a line, and each line before it was answered. Past 2^40 bytes one piece was
-- read at most.
pub record RanToLine (taken : Taken) (puts : List ℕ → Type 0) (is_told : Bool) (next : ℕ)
    (consumes : List ℕ → Type 0) (at_end : Type 0) (stop : Stop) : Type 0 where
  pub read : List ℕ
  pub consumed : consumes read
  pub within : length read ≤ 2 ^ 40 + 4096
  pub lines : List Line
  pub line : Line
  pub there : AreRead read at_end (lines ++ line ∷ [])
  pub stops : StopsAt taken puts (answers is_told 1 next) lines line stop

-- the run stopped, between two lines or at a line
abbrev pub RanUntil : Taken → (List ℕ → Type 0) → Bool → ℕ → (List ℕ → Type 0) → Type 0 → Stop
    → Type 0
RanUntil taken puts is_told next consumes at_end stop =
    RanBetween taken puts is_told next consumes stop
    ⊎ RanToLine taken puts is_told next consumes at_end stop
