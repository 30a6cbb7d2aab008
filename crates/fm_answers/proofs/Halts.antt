-- A run over one piece, and then one that stops in the next.
use Rattle.std.proofs.Common.{◌≡◌, ℕ, ◌+◌, ◌++◌, ◌∷◌, [], List, Bool, length, take, drop, Option}
use Rattle.std.proofs.Common.{None, Some, sym, ◌∙◌, ap, subst, arith, inl, inr, append_assoc}
use Rattle.std.proofs.Common.{length-append, append-nil, count_by}
use Rattle.std.proofs.Math.Seq.{take-append-add, take-append_seam}
use Rattle.std.proofs.lemmas.List.{take-append-drop}
use Rattle.std.specs.Io.KnownBytes.{Appends}
use Rattle.std.proofs.KnownBytes.{Appends-trans}
use Rattle.fm_entry.specs.declared.entry.Entry.{Entry}
use Rattle.fm_line.specs.Lines.{is_newline, lines_of, lines_from}
use Rattle.fm_line.proofs.Cutting.{lines_from_afresh}
use Rattle.fm_answers.specs.declared.stops.Stop.{Stop}
use Rattle.fm_answers.specs.declared.stops.Stop.TheVariants.{Write, Disk, Memory, Full}
use Rattle.fm_answers.specs.Answers.{answers, entries_of}
use Rattle.fm_answers.specs.Ended.{ended}
use Rattle.fm_answers.specs.Running.{Line, Taken, StopsAt}
use Rattle.fm_answers.specs.Halting.{Moved, Halted, StopsIn}
use Rattle.fm_answers.proofs.AnswerLists.{entries_append, answers_append}
use Rattle.fm_answers.proofs.Moving.{newlines_append}
use Rattle.fm_answers.proofs.Cuts.{Cuts}

-- the answers to the lines of a run, and then to those of the next
pub answers_on : (is_told : Bool) (k l n m : ℕ) (xs ys : List Line) → l ≡ k + length xs
    → m ≡ n + length (entries_of xs)
    → answers is_told (k + 1) n (xs ++ ys) ≡ answers is_told (k + 1) n xs
    ++ answers is_told (l + 1) m ys
answers_on is_told k l n m xs ys counted held =
    let count : k + 1 + length xs ≡ l + 1 = omega (arith, counted) in
    answers_append is_told (k + 1) n xs ys
    ∙ ap (λ i. answers is_told (k + 1) n xs ++ answers is_told i (n + length (entries_of xs)) ys)
    count
    ∙ ap (λ i. answers is_told (k + 1) n xs ++ answers is_told (l + 1) i ys) (sym held)

-- a run that stops at a line, after one that didn't
pub stops_on : {T : Type 0} (went : T → T → Taken) (next : T → ℕ)
    (goes_on : (a b c : T) (es fs : List Entry) (last : Option (Stop × Entry)) → went a b es None
    → went b c fs last → went a c (es ++ fs) last)
    (t u v : T) (p q r : Option (List ℕ)) (is_told : Bool) (k l : ℕ) (xs ys : List Line)
    (line : Line) (stop : Stop)
    → l ≡ k + length xs → next u ≡ next t + length (entries_of xs)
    → Appends p q (answers is_told (k + 1) (next t) xs) → went t u (entries_of xs) None
    → StopsAt (went u v) (Appends q r) (answers is_told (l + 1) (next u)) ys line stop
    → StopsAt (went t v) (Appends p r) (answers is_told (k + 1) (next t)) (xs ++ ys) line stop
stops_on went next goes_on t u v p q r is_told k l xs ys line Write counted held put took
    (m, past, part, last) =
    let first : List ℕ = answers is_told (k + 1) (next t) xs in
    let joined : (ls : List Line)
    → answers is_told (k + 1) (next t) (xs ++ ls) ≡ first
    ++ answers is_told (l + 1) (next u) ls =
    λ ls. answers_on is_told k l (next t) (next u) xs ls counted held in
    let whole : answers is_told (k + 1) (next t) ((xs ++ ys) ++ line ∷ []) ≡ first
    ++ answers is_told (l + 1) (next u) (ys ++ line ∷ []) =
    ap (answers is_told (k + 1) (next t)) (append_assoc xs ys (line ∷ []))
    ∙ joined (ys ++ line ∷ []) in (
      length first + m,
      omega (
        arith,
        past,
        ap length (joined ys),
        length-append first (answers is_told (l + 1) (next u) ys),
      ),
      subst (λ text. Appends p r text)
          (sym (ap (take (length first + m)) whole
          ∙ take-append-add first (answers is_told (l + 1) (next u) (ys ++ line ∷ [])) m))
          (Appends-trans p q r _ _ put part),
      subst (λ es. went t v es None)
          (sym (ap entries_of (append_assoc xs ys (line ∷ []))
          ∙ entries_append xs (ys ++ line ∷ []))) (goes_on t u v _ _ None took last),
    )
stops_on went next goes_on t u v p q r is_told k l xs ys line Memory counted held put took
    (part, last) = (
      subst (λ text. Appends p r text)
          (sym (answers_on is_told k l (next t) (next u) xs ys counted held))
          (Appends-trans p q r _ _ put part),
      elim last [
        | inl none ↦ inl (subst (λ es. went t v es None) (sym (entries_append xs ys))
            (goes_on t u v _ _ None took none))
        | inr one ↦ inr (subst (λ es. went t v es None)
            (sym (ap entries_of (append_assoc xs ys (line ∷ []))
            ∙ entries_append xs (ys ++ line ∷ [])))
            (goes_on t u v _ _ None took one))
      ],
    )
stops_on went next goes_on t u v p q r is_told k l xs ys line Disk counted held put took
    (part, (entry, only, last)) = (
      subst (λ text. Appends p r text)
          (sym (answers_on is_told k l (next t) (next u) xs ys counted held))
          (Appends-trans p q r _ _ put part),
      (
        entry,
        only,
        subst (λ es. went t v es (Some (Disk, entry))) (sym (entries_append xs ys))
            (goes_on t u v _ _ (Some (Disk, entry)) took last),
      ),
    )
stops_on went next goes_on t u v p q r is_told k l xs ys line (Full kind) counted held put took
    (part, (entry, only, last)) = (
      subst (λ text. Appends p r text)
          (sym (answers_on is_told k l (next t) (next u) xs ys counted held))
          (Appends-trans p q r _ _ put part),
      (
        entry,
        only,
        subst (λ es. went t v es (Some (Full kind, entry))) (sym (entries_append xs ys))
            (goes_on t u v _ _ (Some (Full kind, entry)) took last),
      ),
    )
stops_on went next goes_on t u v p q r is_told k l xs ys line _ counted held put took stops =
    absurd stops

-- a run over one piece, and then one that stops at a line of the next
unfoldable pub moved_halts : {T : Type 0} (went : T → T → Taken) (next : T → ℕ)
    (goes_on : (a b c : T) (es fs : List Entry) (last : Option (Stop × Entry)) → went a b es None
    → went b c fs last → went a c (es ++ fs) last)
    (numbers : (a b : T) (es : List Entry) → went a b es None → next b ≡ next a + length es)
    (t u v : T) (p q r : Option (List ℕ)) (is_told : Bool) (xs ys : List ℕ) (a b : Line) (k l : ℕ)
    (stop : Stop)
    → Moved (went t u) (Appends p q) is_told (next t) xs a b k l
    → Halted (went u v) (Appends q r) is_told (next u) ys b l stop
    → Halted (went t v) (Appends p r) is_told (next t) (xs ++ ys) a k stop
moved_halts went next goes_on numbers t u v p q r is_told xs ys a b k l stop first then = record {
  front = xs ++ then.front;
  back = then.back;
  split = ap (λ s. xs ++ s) then.split ∙ sym (append_assoc xs then.front then.back);
  lines = first.lines ++ then.lines;
  line = then.line;
  kept = then.kept;
  onward = λ more.
      ap (lines_from a) (append_assoc xs then.front more)
      ∙ first.onward (then.front ++ more)
      ∙ ap (λ ls. first.lines ++ ls) (then.onward more)
      ∙ simp append_assoc;
  number =
      ap length (append_assoc first.lines then.lines (then.line ∷ []))
      ∙ length-append first.lines (then.lines ++ then.line ∷ [])
      ∙ ap (λ n. n + length (then.lines ++ then.line ∷ [])) first.number
      ∙ ap (λ n. count_by is_newline xs + n) then.number
      ∙ sym (newlines_append xs then.front);
  stops = stops_on went next goes_on t u v p q r is_told k l first.lines then.lines then.line stop
      first.counted
      (numbers t u (entries_of first.lines) first.took) first.put first.took then.stops;
}

-- a run over the bytes that end these lines
pub cut_moves : (taken : Taken) (puts : List ℕ → Type 0) (is_told : Bool) (next : ℕ)
    (piece : List ℕ) (pending kept : Line) (count new_count : ℕ) (lines : List Line)
    → Cuts pending kept piece lines → new_count ≡ count + length lines
    → puts (answers is_told (count + 1) next lines) → taken (entries_of lines) None
    → Moved taken puts is_told next piece pending kept count new_count
cut_moves taken puts is_told next piece pending kept count new_count lines cuts counted put took =
    record {
      lines = lines;
      onward = cuts.onward;
      number = cuts.number;
      counted = counted;
      put = put;
      took = took;
    }

-- a run that stops at the line that the first bytes of a piece end
pub cut_halts : (taken : Taken) (puts : List ℕ → Type 0) (is_told : Bool) (next : ℕ)
    (piece : List ℕ) (n : ℕ) (pending kept : Line) (count : ℕ) (lines : List Line) (stop : Stop)
    → Cuts pending kept (take n piece) lines
    → StopsIn taken puts (answers is_told (count + 1) next) lines stop
    → Halted taken puts is_told next piece pending count stop
cut_halts taken puts is_told next piece n pending kept count lines stop cuts (line, only, stops) =
    record {
      front = take n piece;
      back = drop n piece;
      split = sym (take-append-drop n piece);
      lines = [];
      line = line;
      kept = kept;
      onward = λ more. cuts.onward more ∙ ap (λ ls. ls ++ lines_from kept more) only;
      number = ap length (sym only) ∙ cuts.number;
      stops = stops;
    }

-- a run that stopped in a piece has stopped in what begins with it
pub halted_longer : (taken : Taken) (puts : List ℕ → Type 0) (is_told : Bool) (next : ℕ)
    (piece more : List ℕ) (pending : Line) (count : ℕ) (stop : Stop)
    → Halted taken puts is_told next piece pending count stop
    → Halted taken puts is_told next (piece ++ more) pending count stop
halted_longer taken puts is_told next piece more pending count stop halted = record {
  front = halted.front;
  back = halted.back ++ more;
  split = ap (λ s. s ++ more) halted.split ∙ append_assoc halted.front halted.back more;
  lines = halted.lines;
  line = halted.line;
  kept = halted.kept;
  onward = halted.onward;
  number = halted.number;
  stops = halted.stops;
}

-- the lines that end in these bytes, by how a run from the start cut them
pub ended_is : (read : List ℕ) (lines : List Line) (kept : Line)
    → ((more : List ℕ) → lines_from (Some []) (read ++ more) ≡ lines ++ lines_from kept more)
    → length lines ≡ count_by is_newline read → ended read ≡ lines
unfolding ended
ended_is read lines kept onward number =
    let all : lines_of read ≡ lines ++ lines_from kept [] =
    sym (ap lines_of (append-nil read)) ∙ sym (lines_from_afresh (read ++ [])) ∙ onward [] in
    ap (λ n. take n (lines_of read)) (sym number) ∙ ap (take (length lines)) all
    ∙ take-append_seam lines (lines_from kept [])
