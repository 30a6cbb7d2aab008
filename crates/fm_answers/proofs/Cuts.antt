-- What the part of a piece up to its first newline does to the lines of a stream.
use Rattle.std.proofs.Common.{◌≡◌, ◌↔◌, ℕ, suc, ◌<◌, ◌≤◌, ◌++◌, ◌∷◌, [], List, true, false, length}
use Rattle.std.proofs.Common.{map, Option, Some, None, refl, sym, ◌∙◌, ap, arith, append_assoc}
use Rattle.std.proofs.Common.{length-append, drop, take, get_or, get_or-take, count_by, IsNone}
use Rattle.std.proofs.Common.{IfSome, inl, inr}
use Rattle.std.proofs.lemmas.Bool.{cases_lt}
use Rattle.std.proofs.lemmas.List.{take_all, drop_all, take-append-drop, append_cancel_right}
use Rattle.std.proofs.lemmas.List.{length-take}
use Rattle.std.proofs.Math.Seq.{take-suc}
use Rattle.std.specs.List.{onto_first, slice_split, before_first, position_or_len}
use Rattle.std.proofs.lemmas.List.Splits.{slice_split_none, slice_split_at, length-slice_split}
use Rattle.std.proofs.lemmas.List.Splits.{slice_split-cons_yes, slice_split-cons_no}
use Rattle.std.proofs.lemmas.List.Sums.{fails_before_first, passes_at_first}
use Rattle.fm_line.proofs.Cutting.{after_first_ended, lines_from_afresh, lines_of_parts_cons}
use Rattle.fm_line.specs.Lines.{is_newline, HasNoNewline, kept_line, lines_of_parts, lines_of}
use Rattle.fm_line.specs.Lines.{lines_from, ended_lines, ended_line, taken_len}
use Rattle.fm_line.specs.declared.split.Whole.{Whole}
use Rattle.fm_answers.specs.Running.{Line}

parts_append : (xs parts : List (List ℕ)) → 0 < length parts
    → lines_of_parts (xs ++ parts) ≡ xs ++ lines_of_parts parts
parts_append [] parts some = refl
parts_append (x ∷ xs) parts some =
    let more : 0 < length (xs ++ parts) = omega (arith, length-append xs parts) in
    lines_of_parts_cons x (xs ++ parts) more ∙ ap (λ l. x ∷ l) (parts_append xs parts some)

onto_append : (x : ℕ) (xs ys : List (List ℕ)) → 0 < length xs
    → onto_first x (xs ++ ys) ≡ onto_first x xs ++ ys
onto_append x [] ys some = absurd (omega arith)
onto_append x (y ∷ xs) ys some = refl

some_parts : (xs : List ℕ) → 0 < length (slice_split is_newline xs)
some_parts xs = omega (arith, length-slice_split is_newline xs)

-- the parts of bytes with a newline between them are those of both sides
split_append : (xs ys : List ℕ) (b : ℕ) → is_newline b ≡ true
    → slice_split is_newline (xs ++ b ∷ ys) ≡ slice_split is_newline xs ++ slice_split is_newline ys
split_append [] ys b ends = slice_split-cons_yes is_newline b ys ends
split_append (x ∷ xs) ys b ends =
    elim (is_newline x) as
    (λ t. is_newline x ≡ t
    → slice_split is_newline (x ∷ (xs ++ b ∷ ys)) ≡ slice_split is_newline (x ∷ xs)
    ++ slice_split is_newline ys) [
      | true ↦ λ e. slice_split-cons_yes is_newline x (xs ++ b ∷ ys) e
          ∙ ap (λ l. [] ∷ l) (split_append xs ys b ends)
          ∙ ap (λ l. l ++ slice_split is_newline ys) (sym (slice_split-cons_yes is_newline x xs e))
      | false ↦ λ e.
          slice_split-cons_no is_newline x (xs ++ b ∷ ys) e
          ∙ ap (onto_first x) (split_append xs ys b ends)
          ∙ onto_append x (slice_split is_newline xs) (slice_split is_newline ys) (some_parts xs)
          ∙ ap (λ l. l ++ slice_split is_newline ys) (sym (slice_split-cons_no is_newline x xs e))
    ] refl

map_append : (f : List ℕ → Line) (xs ys : List (List ℕ)) → map f (xs ++ ys) ≡ map f xs ++ map f ys
map_append f [] ys = refl
map_append f (x ∷ xs) ys = ap (λ l. f x ∷ l) (map_append f xs ys)

-- the lines of bytes with a newline between them are some of the first side, and those of the
-- second
lines_append : (xs ys : List ℕ) (b : ℕ) → is_newline b ≡ true
    → lines_of (xs ++ b ∷ ys) ≡ map kept_line (slice_split is_newline xs) ++ lines_of ys
unfolding lines_of
lines_append xs ys b ends =
    ap (λ parts. map kept_line (lines_of_parts parts)) (split_append xs ys b ends)
    ∙ ap (map kept_line) (parts_append (slice_split is_newline xs) (slice_split is_newline ys)
    (some_parts ys))
    ∙ map_append kept_line (slice_split is_newline xs) (lines_of_parts (slice_split is_newline ys))

-- a piece in which the first newline is at its end, or past it, has none
no_newline : (xs : List ℕ) → length xs ≤ position_or_len is_newline xs → HasNoNewline xs
no_newline xs past k d below = fails_before_first is_newline xs k d (omega arith)

-- the first newline of bytes without one is at their end
past_end : (xs : List ℕ) → HasNoNewline xs → length xs ≤ position_or_len is_newline xs
past_end xs free =
    elim (cases_lt (position_or_len is_newline xs) (length xs)) [
      | inl below ↦
          let ends : is_newline (get_or xs (position_or_len is_newline xs) 0) ≡ true =
          passes_at_first is_newline xs 0 below in
          let other : is_newline (get_or xs (position_or_len is_newline xs) 0) ≡ false =
          free (position_or_len is_newline xs) 0 below in
          absurd (cc)
      | inr past ↦ past
    ]

-- bytes without a newline have none to count
none_counted : (xs : List ℕ) → HasNoNewline xs → count_by is_newline xs ≡ 0
none_counted xs free =
    omega (arith, length-slice_split is_newline xs, ap length (slice_split_none is_newline xs free))

-- bytes up to and with their first newline have one
one_counted : (xs : List ℕ) (b : ℕ) → HasNoNewline xs → is_newline b ≡ true
    → count_by is_newline (xs ++ b ∷ []) ≡ 1
one_counted xs b free ends =
    omega (
      arith,
      length-slice_split is_newline (xs ++ b ∷ []),
      ap length (slice_split_at is_newline xs b [] free ends),
    )

-- the lines that one newline ends, whatever follows it
ending : Line → List ℕ → List Line
ending None before = None ∷ []
ending (Some front) before = map kept_line (slice_split is_newline (front ++ before))

lines_ending : (pending : Line) (before more : List ℕ) (b : ℕ) → HasNoNewline before
    → is_newline b ≡ true
    → lines_from pending (before ++ b ∷ more) ≡ ending pending before ++ lines_of more
unfolding lines_from ending
lines_ending None before more b free ends =
    ap (λ l. None ∷ lines_of l) (after_first_ended before more b free ends)
lines_ending (Some front) before more b free ends =
    ap lines_of (sym (append_assoc front before (b ∷ more)))
    ∙ lines_append (front ++ before) more b ends

-- What a splitter's `take` says it did: it took n bytes of a piece, told of a line or of none, and
-- keeps `kept_now`.
pub record IsTaken (pending kept_now : Line) (piece : List ℕ) (n : ℕ) (ended : Option Whole)
    (line : List ℕ) : Type 0 where
  pub count : n ≡ taken_len piece
  pub none : IsNone ended ↔ HasNoNewline piece
  pub afresh : IfSome ended (λ _. kept_now ≡ Some [])
  pub lines : (more : List ℕ)
      → lines_from pending (piece ++ more) ≡ ended_lines ended line
      ++ lines_from kept_now (drop n piece ++ more)

-- What the bytes that were taken do by themselves: whatever follows them, the lines are those told
-- of and those that go on from what is kept.
pub record Cuts (pending kept_now : Line) (piece : List ℕ) (told_lines : List Line) : Type 0 where
  pub onward : (more : List ℕ)
      → lines_from pending (piece ++ more) ≡ told_lines ++ lines_from kept_now more
  pub number : length told_lines ≡ count_by is_newline piece

cuts_free : (pending kept_now : Line) (piece line : List ℕ) (n : ℕ)
    → IsTaken pending kept_now piece n None line → Cuts pending kept_now (take n piece) []
cuts_free pending kept_now piece line n taken =
    let free : HasNoNewline piece = taken.none.0 refl in
    let past : length piece ≤ position_or_len is_newline piece = past_end piece free in
    let whole : length piece ≤ n = omega (arith, taken.count) in
    let all : take n piece ≡ piece = take_all n piece whole in
    let rest : drop n piece ≡ [] = drop_all n piece whole in
    record {
      onward = λ more.
          ap (λ l. lines_from pending (l ++ more)) all
          ∙ taken.lines more
          ∙ ap (λ l. lines_from kept_now (l ++ more)) rest;
      number = sym (ap (count_by is_newline) all ∙ none_counted piece free);
    }

-- a piece in which a line ended has a newline
has_newline : (piece : List ℕ) → (HasNoNewline piece → true ≡ false)
    → position_or_len is_newline piece < length piece
has_newline piece some =
    elim (cases_lt (position_or_len is_newline piece) (length piece)) [
      | inl below ↦ below
      | inr past ↦ let no : true ≡ false = some (no_newline piece past) in absurd (cc)
    ]

-- what stands before the first newline has none
free_before : (piece : List ℕ) → HasNoNewline (before_first is_newline piece)
free_before piece k d below =
    let early : k < position_or_len is_newline piece =
    omega (arith, below, length-take (position_or_len is_newline piece) piece) in
    ap is_newline (get_or-take (position_or_len is_newline piece) piece k d early)
    ∙ fails_before_first is_newline piece k d early

cuts_ended : (pending kept_now : Line) (piece line : List ℕ) (n : ℕ) (whole : Whole)
    → IsTaken pending kept_now piece n (Some whole) line
    → Cuts pending kept_now (take n piece) (ended_line whole line ∷ [])
cuts_ended pending kept_now piece line n whole taken =
    let place : ℕ = position_or_len is_newline piece in
    let below : place < length piece = has_newline piece taken.none.1 in
    let before : List ℕ = before_first is_newline piece in
    let b : ℕ = get_or piece place 0 in
    let ends : is_newline b ≡ true = passes_at_first is_newline piece 0 below in
    let free : HasNoNewline before = free_before piece in
    let count : n ≡ suc place = omega (arith, taken.count, below) in
    let front : take n piece ≡ before ++ (b ∷ []) = ap (λ m. take m piece) count
    ∙ take-suc piece place 0 below in
    let after : List ℕ = drop n piece in
    let parts : piece ≡ before ++ (b ∷ after) =
    sym (take-append-drop n piece) ∙ ap (λ l. l ++ after) front
    ∙ append_assoc before (b ∷ []) after in
    let now : kept_now ≡ Some [] = taken.afresh in
    let left : lines_from pending (piece ++ []) ≡ ending pending before ++ lines_of (after ++ []) =
    ap (λ l. lines_from pending (l ++ [])) parts
    ∙ ap (lines_from pending) (append_assoc before (b ∷ after) [])
    ∙ lines_ending pending before (after ++ []) b free ends in
    let right : lines_from pending (piece ++ []) ≡ (ended_line whole line ∷ [])
    ++ lines_of (after ++ []) =
    taken.lines [] ∙ ap (λ k. (ended_line whole line ∷ []) ++ lines_from k (after ++ [])) now
    ∙ ap (λ l. (ended_line whole line ∷ []) ++ l) (lines_from_afresh (after ++ [])) in
    let same : ending pending before ≡ ended_line whole line ∷ [] =
    append_cancel_right (ending pending before) (ended_line whole line ∷ [])
    (lines_of (after ++ []))
    (sym left ∙ right) in
    record {
      onward = λ more.
          ap (λ l. lines_from pending (l ++ more)) front
          ∙ ap (lines_from pending) (append_assoc before (b ∷ []) more)
          ∙ lines_ending pending before more b free ends
          ∙ ap (λ ls. ls ++ lines_of more) same
          ∙ ap (λ l. (ended_line whole line ∷ []) ++ l) (sym (lines_from_afresh more))
          ∙ ap (λ k. (ended_line whole line ∷ []) ++ lines_from k more) (sym now);
      number = sym (ap (count_by is_newline) front ∙ one_counted before b free ends);
    }

-- the bytes that `take` took end the lines that it told of, whatever follows them
pub taken_cuts : (pending kept_now : Line) (piece line : List ℕ) (n : ℕ) (ended : Option Whole)
    → IsTaken pending kept_now piece n ended line
    → Cuts pending kept_now (take n piece) (ended_lines ended line)
taken_cuts pending kept_now piece line n None taken = cuts_free pending kept_now piece line n taken
taken_cuts pending kept_now piece line n (Some whole) taken =
    cuts_ended pending kept_now piece line n whole taken
