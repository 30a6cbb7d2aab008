-- The lines of a stream do not depend on how it is cut into pieces.
use Rattle.std.proofs.Common.{◌≡◌, ◌==◌, ℕ, suc, not, ◌+◌, ◌<◌, ◌≤◌, ◌++◌, ◌∷◌, [], List, Bool}
use Rattle.std.proofs.Common.{true, false, cond, length, map, Option, Some, None, ◌≢◌, refl, sym}
use Rattle.std.proofs.Common.{◌∙◌, ap, arith, append_assoc, length-append, append-nil, drop, take}
use Rattle.std.proofs.Common.{get_or, nat_le}
use Rattle.std.specs.List.{slice_split, after_first, position_or_len, prefix_len, position}
use Rattle.std.proofs.lemmas.List.Splits.{slice_split_none, slice_split_at, length-slice_split}
use Rattle.std.proofs.lemmas.Bool.{le-leb, lt-leb, leb-false}
use Rattle.std.proofs.lemmas.List.Elements.{All-append, All-head, All-cons}
use Rattle.std.proofs.lemmas.Bool.Decides.{nat_tests}
use Rattle.fm_line.proofs.Places.{fails_before, passes_at, parts_at}
use Rattle.fm_line.specs.Lines.{line_limit, is_newline, HasNoNewline, kept_line, lines_of_parts}
use Rattle.fm_line.specs.Lines.{lines_of, lines_from, grown}

pub positive_eqb : (n : ℕ) → 0 < n → (n == 0) ≡ false
positive_eqb n some = grind (arith, nat_tests)

pub lines_of_parts_cons : (x : List ℕ) (parts : List (List ℕ)) → 0 < length parts
    → lines_of_parts (x ∷ parts) ≡ x ∷ lines_of_parts parts
lines_of_parts_cons x [] h = absurd (omega arith)
lines_of_parts_cons x (y ∷ more) h = refl

-- a line that ends in a newline stands before the lines of what follows
pub lines_of_ended : (line more : List ℕ) (b : ℕ) → HasNoNewline line → is_newline b ≡ true
    → lines_of (line ++ b ∷ more) ≡ kept_line line ∷ lines_of more
unfolding lines_of
lines_of_ended line more b free ends =
    let split : slice_split is_newline (line ++ b ∷ more) ≡ line ∷ slice_split is_newline more =
    slice_split_at is_newline line b more free ends in
    let some : 0 < length (slice_split is_newline more) =
    omega (arith, length-slice_split is_newline more) in
    ap (λ parts. map kept_line (lines_of_parts parts)) split
    ∙ ap (map kept_line) (lines_of_parts_cons line (slice_split is_newline more) some)

-- a last line without a newline, where it has bytes
pub lines_of_last : (line : List ℕ) → HasNoNewline line → 0 < length line
    → lines_of line ≡ kept_line line ∷ []
unfolding lines_of
lines_of_last line free some =
    ap (λ parts. map kept_line (lines_of_parts parts)) (slice_split_none is_newline line free)
    ∙ ap (λ t. map kept_line (cond t [] (line ∷ []))) (positive_eqb (length line) some)

pub kept_long : (line : List ℕ) → line_limit < length line → kept_line line ≡ None
kept_long line long = ap (λ b. cond b (Some line) None) (lt-leb (length line) line_limit long)

pub kept_short : (line : List ℕ) → length line ≤ line_limit → kept_line line ≡ Some line
kept_short line short = ap (λ b. cond b (Some line) None) (le-leb (length line) line_limit short)

pub free_append : (xs ys : List ℕ) → HasNoNewline xs → HasNoNewline ys → HasNoNewline (xs ++ ys)
free_append xs ys = All-append (λ b. is_newline b ≡ false) xs ys

pub after_first_yes : (b : ℕ) (more : List ℕ) → is_newline b ≡ true
    → after_first is_newline (b ∷ more) ≡ more
after_first_yes b more ends =
    let at : position_or_len is_newline (b ∷ more) ≡ 0 =
    ap (λ t. cond (not t) (1 + prefix_len (λ x. not (is_newline x)) more) 0) ends in
    ap (λ n. drop (n + 1) (b ∷ more)) at

pub after_first_no : (b : ℕ) (more : List ℕ) → is_newline b ≡ false
    → after_first is_newline (b ∷ more) ≡ after_first is_newline more
after_first_no b more other =
    let at : position_or_len is_newline (b ∷ more) ≡ 1 + position_or_len is_newline more =
    ap (λ t. cond (not t) (1 + prefix_len (λ x. not (is_newline x)) more) 0) other in
    let at' : position_or_len is_newline (b ∷ more) + 1
    ≡ suc (position_or_len is_newline more + 1) = omega (arith, at) in
    ap (λ n. drop n (b ∷ more)) at'

pub after_first_free : (xs ys : List ℕ) → HasNoNewline xs
    → after_first is_newline (xs ++ ys) ≡ after_first is_newline ys
after_first_free [] ys free = refl
after_first_free (x ∷ xs) ys free =
    after_first_no x (xs ++ ys) (All-head (λ b. is_newline b ≡ false) x xs free)
    ∙ after_first_free xs ys (λ k d h. free (suc k) d (omega arith))

pub after_first_ended : (xs ys : List ℕ) (b : ℕ) → HasNoNewline xs → is_newline b ≡ true
    → after_first is_newline (xs ++ b ∷ ys) ≡ ys
after_first_ended xs ys b free ends = after_first_free xs (b ∷ ys) free ∙ after_first_yes b ys ends

free_push : (line : List ℕ) (b : ℕ) → HasNoNewline line → is_newline b ≡ false
    → HasNoNewline (line ++ b ∷ [])
free_push line b free other =
    free_append line (b ∷ []) free
    (All-cons (λ b. is_newline b ≡ false) b [] other (λ k d h. absurd (omega arith)))

lines_of_nil : lines_of [] ≡ []
unfolding lines_of
lines_of_nil = refl

-- a line past the limit is a line without bytes, whatever more of it comes
pub lines_of_long : (line more : List ℕ) → HasNoNewline line → line_limit < length line
    → lines_of (line ++ more) ≡ None ∷ lines_of (after_first is_newline more)
lines_of_long line [] free long =
    ap lines_of (append-nil line) ∙ lines_of_last line free (omega arith)
    ∙ ap (λ o. o ∷ []) (kept_long line long) ∙ ap (λ l. None ∷ l) (sym lines_of_nil)
lines_of_long line (m ∷ more) free long =
    elim (is_newline m) as
    (λ t. is_newline m ≡ t
    → lines_of (line ++ m ∷ more) ≡ None ∷ lines_of (after_first is_newline (m ∷ more))) [
      | true ↦ λ e. lines_of_ended line more m free e
          ∙ ap (λ o. o ∷ lines_of more) (kept_long line long)
          ∙ ap (λ l. None ∷ lines_of l) (sym (after_first_yes m more e))
      | false ↦ λ e.
          let longer : line_limit < length (line ++ m ∷ []) =
          omega (arith, long, length-append line (m ∷ [])) in
          ap lines_of (sym (append_assoc line (m ∷ []) more))
          ∙ lines_of_long (line ++ m ∷ []) more (free_push line m free e) longer
          ∙ ap (λ l. None ∷ lines_of l) (sym (after_first_no m more e))
    ] refl

-- the line in progress has no newline, and what is kept of it is within the limit
abbrev pub IsInProgress : Option (List ℕ) → Type 0
IsInProgress (Some front) = HasNoNewline front × (length front ≤ line_limit)
IsInProgress None = Unit {0}

kept_cases : (line more : List ℕ) → HasNoNewline line
    → lines_of (line ++ more) ≡ lines_from (kept_line line) more
unfolding lines_from
kept_cases line more free =
    elim (nat_le (length line) line_limit) as (λ t. nat_le (length line) line_limit ≡ t
    → lines_of (line ++ more) ≡ lines_from (cond t (Some line) None) more) [
      | true ↦ λ e. refl
      | false ↦ λ e. lines_of_long line more free (leb-false (length line) line_limit e)
    ] refl

-- a piece without newline grows the line in progress
pub cut_free : (pending : Option (List ℕ)) (piece more : List ℕ) → IsInProgress pending
    → HasNoNewline piece
    → lines_from pending (piece ++ more) ≡ lines_from (grown pending piece) more
unfolding lines_from
cut_free (Some front) piece more free other =
    ap lines_of (sym (append_assoc front piece more))
    ∙ kept_cases (front ++ piece) more (free_append front piece free.0 other)
cut_free None piece more free other =
    ap (λ l. None ∷ lines_of l) (after_first_free piece more other)

-- a piece up to and with a newline ends the line in progress
pub cut_ended : (pending : Option (List ℕ)) (before after : List ℕ) (b : ℕ) → IsInProgress pending
    → HasNoNewline before → is_newline b ≡ true
    → lines_from pending (before ++ b ∷ after) ≡ grown pending before ∷ lines_of after
unfolding lines_from
cut_ended (Some front) before after b free other ends =
    ap lines_of (sym (append_assoc front before (b ∷ after)))
    ∙ lines_of_ended (front ++ before) after b (free_append front before free.0 other) ends
cut_ended None before after b free other ends =
    ap (λ l. None ∷ lines_of l) (after_first_ended before after b other ends)

-- at the end of the stream the line in progress is its last line, if it has bytes
pub cut_last : (pending : Option (List ℕ)) → IsInProgress pending → pending ≢ Some []
    → lines_from pending [] ≡ pending ∷ []
unfolding lines_from
cut_last (Some []) free some = absurd (some refl)
cut_last (Some (x ∷ xs)) (free, short) some =
    ap lines_of (append-nil (x ∷ xs)) ∙ lines_of_last (x ∷ xs) free (omega arith)
    ∙ ap (λ o. o ∷ []) (kept_short (x ∷ xs) short)
cut_last None free some = ap (λ l. None ∷ l) lines_of_nil

pub lines_from_start : lines_from (Some []) [] ≡ []
unfolding lines_from
lines_from_start = lines_of_nil

-- what the fields of a splitter say of the line in progress
pub view_in_progress : (b : Bool) (items : List ℕ) → HasNoNewline items → length items ≤ line_limit
    → IsInProgress (cond b None (Some items))
view_in_progress true items free short = tt
view_in_progress false items free short = (free, short)

-- a piece with a newline ends the line in progress, and what stands after it is the start of the
-- next
pub cut_at : (pending : Option (List ℕ)) (piece more : List ℕ) (at : ℕ) → IsInProgress pending
    → position is_newline piece ≡ Some at
    → lines_from pending (piece ++ more)
    ≡ grown pending (take at piece) ∷ lines_of (drop (at + 1) piece ++ more)
cut_at pending piece more at free found =
    ap (λ l. lines_from pending (l ++ more)) (parts_at is_newline piece at found)
    ∙ ap (lines_from pending)
    (append_assoc (take at piece) (get_or piece at 0 ∷ drop (at + 1) piece) more)
    ∙ cut_ended pending (take at piece) (drop (at + 1) piece ++ more) (get_or piece at 0) free
    (fails_before is_newline piece at found) (passes_at is_newline piece at found)

pub lines_from_afresh : (bytes : List ℕ) → lines_from (Some []) bytes ≡ lines_of bytes
unfolding lines_from
lines_from_afresh bytes = refl
