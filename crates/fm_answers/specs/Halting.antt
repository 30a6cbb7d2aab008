-- A run over a piece of the input, in the words of what is kept of the line in progress.
use Rattle.std.specs.Prelude.{◌≡◌, ◌⊎◌, ℕ, ◌+◌, ◌≤◌, ◌^◌, List, [], ◌∷◌, ◌++◌, Bool, length}
use Rattle.std.specs.Prelude.{count_by, None}
use Rattle.fm_line.specs.Lines.{is_newline, lines_from}
use Rattle.fm_answers.specs.Answers.{answers, entries_of}
use Rattle.fm_answers.specs.Running.{Line, Taken, StopsAt, StopsBetween}
use Rattle.fm_answers.specs.declared.stops.Stop.{Stop}

-- Each line that ended in the piece was answered. `onward`: whatever follows the piece, its lines
-- are these lines and those that go on from what is kept of the line in progress.
pub record Moved (taken : Taken) (puts : List ℕ → Type 0) (is_told : Bool) (next : ℕ)
    (piece : List ℕ)
    (pending kept : Line) (count new_count : ℕ) : Type 0 where
  pub lines : List Line
  pub onward : (more : List ℕ) → lines_from pending (piece ++ more) ≡ lines ++ lines_from kept more
  pub number : length lines ≡ count_by is_newline piece
  pub counted : new_count ≡ count + length lines
  pub put : puts (answers is_told (count + 1) next lines)
  pub took : taken (entries_of lines) None

-- In a front of the piece these lines ended, and then the line at which the run stopped.
pub record Halted (taken : Taken) (puts : List ℕ → Type 0) (is_told : Bool) (next : ℕ)
    (piece : List ℕ)
    (pending : Line) (count : ℕ) (stop : Stop) : Type 0 where
  pub front : List ℕ
  pub back : List ℕ
  pub split : piece ≡ front ++ back
  pub lines : List Line
  pub line : Line
  pub kept : Line
  pub onward : (more : List ℕ)
      → lines_from pending (front ++ more) ≡ (lines ++ line ∷ []) ++ lines_from kept more
  pub number : length (lines ++ line ∷ []) ≡ count_by is_newline front
  pub stops : StopsAt taken puts (answers is_told (count + 1) next) lines line stop

-- Of these lines there is one, and the run stopped at it.
abbrev pub StopsIn : Taken → (List ℕ → Type 0) → (List Line → List ℕ) → List Line → Stop → Type 0
StopsIn taken puts answered lines stop =
    (line : Line) × (lines ≡ line ∷ []) × StopsAt taken puts answered [] line stop

-- A piece was read, and each line that ended in it was answered; none was read only at the end of
-- the input.
pub record MovedOn (taken : Taken) (puts : List ℕ → Type 0) (is_told : Bool) (next : ℕ)
    (consumes : List ℕ → Type 0) (pending kept : Line) (count new_count : ℕ) (taken_len : ℕ) : Type
    0 where
  pub piece : List ℕ
  pub size : length piece ≡ taken_len
  pub consumed : consumes piece
  pub moved : Moved taken puts is_told next piece pending kept count new_count

-- The run stopped between two lines, after `total` bytes and those of a piece.
pub record Broken (taken : Taken) (puts : List ℕ → Type 0) (is_told : Bool) (next : ℕ)
    (consumes : List ℕ → Type 0) (pending : Line) (count total : ℕ) (stop : Stop) : Type 0 where
  pub piece : List ℕ
  pub more : List ℕ
  pub consumed : consumes (piece ++ more)
  pub within : total + length piece ≤ 2 ^ 40
  pub why : (before : List ℕ) → length before ≡ total → StopsBetween (before ++ piece) more stop
  pub kept : Line
  pub new_count : ℕ
  pub moved : Moved taken puts is_told next piece pending kept count new_count

-- The run stopped at a line of a piece, after `total` bytes, with at most 4,096 bytes behind it.
pub record HaltedOn (taken : Taken) (puts : List ℕ → Type 0) (is_told : Bool) (next : ℕ)
    (consumes : List ℕ → Type 0) (pending : Line) (count total : ℕ) (stop : Stop) : Type 0 where
  pub piece : List ℕ
  pub consumed : consumes piece
  pub within : total + length piece ≤ 2 ^ 40 + 4096
  pub halted : Halted taken puts is_told next piece pending count stop
  pub near : length halted.back ≤ 4096

-- the run stopped, between two lines or at a line
abbrev pub StoppedOn : Taken → (List ℕ → Type 0) → Bool → ℕ → (List ℕ → Type 0) → Line → ℕ → ℕ
    → Stop → Type 0
StoppedOn taken puts is_told next consumes pending count total stop =
    Broken taken puts is_told next consumes pending count total stop
    ⊎ HaltedOn taken puts is_told next consumes pending count total stop

-- At most 2^40 bytes were read, and each line that ended in them was answered.
pub record MovedWithin (taken : Taken) (puts : List ℕ → Type 0) (is_told : Bool) (next : ℕ)
    (consumes : List ℕ → Type 0) (pending kept : Line) (count new_count : ℕ) : Type 0 where
  pub total : ℕ
  pub within : total ≤ 2 ^ 40
  pub moved_on : MovedOn taken puts is_told next consumes pending kept count new_count total

-- The last line was answered, if something was kept of one.
pub record Finished (taken : Taken) (puts : List ℕ → Type 0) (answered : List Line → List ℕ)
    (kept : Line) : Type 0 where
  pub last : List Line
  pub ends : lines_from kept [] ≡ last
  pub put : puts (answered last)
  pub took : taken (entries_of last) None

-- The run stopped at the last line.
pub record FinishStops (taken : Taken) (puts : List ℕ → Type 0) (answered : List Line → List ℕ)
    (kept : Line)
    (stop : Stop) : Type 0 where
  pub last : List Line
  pub ends : lines_from kept [] ≡ last
  pub stops : StopsIn taken puts answered last stop
