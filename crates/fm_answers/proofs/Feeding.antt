-- A run over the front of a piece, and then over what follows.
use Rattle.std.proofs.Common.{◌≡◌, ℕ, ◌+◌, ◌-◌, ◌++◌, List, Bool, length, take, drop, Option, None}
use Rattle.std.proofs.Common.{sym, subst}
use Rattle.std.proofs.lemmas.List.{take-append-drop}
use Rattle.std.proofs.Math.Seq.{take-add}
use Rattle.std.specs.Io.KnownBytes.{Appends}
use Rattle.fm_entry.specs.declared.entry.Entry.{Entry}
use Rattle.fm_line.specs.Lines.{ended_lines}
use Rattle.fm_line.specs.declared.split.Whole.{Whole}
use Rattle.fm_answers.specs.declared.stops.Stop.{Stop}
use Rattle.fm_answers.specs.Answers.{answers, entries_of}
use Rattle.fm_answers.specs.Running.{Line, Taken}
use Rattle.fm_answers.specs.Halting.{Moved, Halted, StopsIn}
use Rattle.fm_answers.proofs.Moving.{moved_trans}
use Rattle.fm_answers.proofs.Halts.{moved_halts, cut_moves, cut_halts}
use Rattle.fm_answers.proofs.Cuts.{IsTaken, taken_cuts}

-- a run over the front of a piece, and then over some more of it
pub feed_moved : {T : Type 0} (went : T → T → Taken) (next : T → ℕ)
    (goes_on : (a b c : T) (es fs : List Entry) (last : Option (Stop × Entry)) → went a b es None
    → went b c fs last → went a c (es ++ fs) last)
    (numbers : (a b : T) (es : List Entry) → went a b es None → next b ≡ next a + length es)
    (t u v : T) (p q r : Option (List ℕ)) (is_told : Bool) (piece rest : List ℕ) (at n : ℕ)
    (a b c : Line) (k l m : ℕ)
    → rest ≡ drop at piece
    → Moved (went t u) (Appends p q) is_told (next t) (take at piece) a b k l
    → Moved (went u v) (Appends q r) is_told (next u) (take n rest) b c l m
    → Moved (went t v) (Appends p r) is_told (next t) (take (at + n) piece) a c k m
feed_moved went next goes_on numbers t u v p q r is_told piece rest at n a b c k l m here first
    then =
    let now : Moved (went u v) (Appends q r) is_told (next u) (take n (drop at piece)) b c l m =
    subst (λ s. Moved (went u v) (Appends q r) is_told (next u) (take n s) b c l m) here then in
    let both : Moved (went t v) (Appends p r) is_told (next t)
    (take at piece ++ take n (drop at piece)) a c k m =
    moved_trans went next goes_on numbers t u v p q r is_told (take at piece)
    (take n (drop at piece)) a b c k l m first now in
    subst (λ s. Moved (went t v) (Appends p r) is_told (next t) s a c k m)
    (sym (take-add at n piece)) both

-- a run over the front of a piece, and then one that stops in the rest
pub feed_halted : {T : Type 0} (went : T → T → Taken) (next : T → ℕ)
    (goes_on : (a b c : T) (es fs : List Entry) (last : Option (Stop × Entry)) → went a b es None
    → went b c fs last → went a c (es ++ fs) last)
    (numbers : (a b : T) (es : List Entry) → went a b es None → next b ≡ next a + length es)
    (t u v : T) (p q r : Option (List ℕ)) (is_told : Bool) (piece rest : List ℕ) (at : ℕ)
    (a b : Line) (k l : ℕ) (stop : Stop)
    → rest ≡ drop at piece
    → Moved (went t u) (Appends p q) is_told (next t) (take at piece) a b k l
    → Halted (went u v) (Appends q r) is_told (next u) rest b l stop
    → Halted (went t v) (Appends p r) is_told (next t) piece a k stop
feed_halted went next goes_on numbers t u v p q r is_told piece rest at a b k l stop here first
    then =
    let now : Halted (went u v) (Appends q r) is_told (next u) (drop at piece) b l stop =
    subst (λ s. Halted (went u v) (Appends q r) is_told (next u) s b l stop) here then in
    let both : Halted (went t v) (Appends p r) is_told (next t) (take at piece ++ drop at piece) a k
    stop =
    moved_halts went next goes_on numbers t u v p q r is_told (take at piece) (drop at piece) a b k
    l stop first now in
    subst (λ s. Halted (went t v) (Appends p r) is_told (next t) s a k stop)
    (take-append-drop at piece) both

-- a run over the bytes that `take` took, whose line was answered
pub step_moved : (taken : Taken) (puts : List ℕ → Type 0) (is_told : Bool) (next : ℕ)
    (pending kept : Line) (rest line : List ℕ) (n : ℕ) (ended : Option Whole) (count new_count : ℕ)
    → IsTaken pending kept rest n ended line
    → new_count ≡ count + length (ended_lines ended line)
    → puts (answers is_told (count + 1) next (ended_lines ended line))
    → taken (entries_of (ended_lines ended line)) None
    → Moved taken puts is_told next (take n rest) pending kept count new_count
step_moved taken puts is_told next pending kept rest line n ended count new_count is_taken counted
    put took =
    cut_moves taken puts is_told next (take n rest) pending kept count new_count
    (ended_lines ended line) (taken_cuts pending kept rest line n ended is_taken) counted put
    took

-- a run that stops at the line that the bytes that `take` took ended
pub step_halted : (taken : Taken) (puts : List ℕ → Type 0) (is_told : Bool) (next : ℕ)
    (pending kept : Line) (rest line : List ℕ) (n : ℕ) (ended : Option Whole) (count : ℕ)
    (stop : Stop)
    → IsTaken pending kept rest n ended line
    → StopsIn taken puts (answers is_told (count + 1) next) (ended_lines ended line) stop
    → Halted taken puts is_told next rest pending count stop
step_halted taken puts is_told next pending kept rest line n ended count stop is_taken stops =
    cut_halts taken puts is_told next rest n pending kept count (ended_lines ended line) stop
    (taken_cuts pending kept rest line n ended is_taken) stops
