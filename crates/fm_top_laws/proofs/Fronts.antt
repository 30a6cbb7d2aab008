-- The lines that end in a front of some bytes are the first of their lines.
use Rattle.std.proofs.Common.{◌≡◌, ℕ, suc, ◌+◌, ◌++◌, ◌∷◌, [], List, Bool}
use Rattle.std.proofs.Common.{true, false, cond, length, refl, sym, take}
use Rattle.std.proofs.Common.{◌∙◌, ap, arith, append_assoc, append-nil, count_by}
use Rattle.std.proofs.Math.Seq.{take-append_seam}
use Rattle.std.proofs.lemmas.List.Sums.{sum_by-cons}
use Rattle.std.proofs.lemmas.List.Elements.{All-append, All-cons}
use Rattle.fm_answers.specs.Ended.{ended}
use Rattle.fm_answers.specs.Running.{Line}
use Rattle.fm_line.proofs.Cutting.{lines_of_ended}
use Rattle.fm_line.specs.Lines.{HasNoNewline, is_newline, kept_line, lines_of}

-- Bytes behind some of a line cut the stream: whatever follows them, these lines end in them, and
-- the last bytes are of the next.
record Ends (held front : List ℕ) : Type 0 where
  pub lines : List Line
  pub last : List ℕ
  pub onward : (more : List ℕ)
      → lines_of (held ++ (front ++ more)) ≡ lines ++ lines_of (last ++ more)
  pub number : length lines ≡ count_by is_newline front

counted_yes : (b : ℕ) (front : List ℕ) → is_newline b ≡ true
    → count_by is_newline (b ∷ front) ≡ suc (count_by is_newline front)
counted_yes b front ends =
    sum_by-cons (λ x. cond (is_newline x) 1 0) b front
    ∙ ap (λ (t : Bool). cond t 1 0 + count_by is_newline front) ends
    ∙ omega arith

counted_no : (b : ℕ) (front : List ℕ) → is_newline b ≡ false
    → count_by is_newline (b ∷ front) ≡ count_by is_newline front
counted_no b front other =
    sum_by-cons (λ x. cond (is_newline x) 1 0) b front
    ∙ ap (λ (t : Bool). cond t 1 0 + count_by is_newline front) other
    ∙ omega arith

none_free : HasNoNewline []
none_free k d below = absurd (omega arith)

one_free : (b : ℕ) → is_newline b ≡ false → HasNoNewline (b ∷ [])
one_free b other = All-cons (λ x. is_newline x ≡ false) b [] other none_free

ends_of : (held front : List ℕ) → HasNoNewline held → Ends held front
ends_of held [] free = record { lines = []; last = held; onward = λ more. refl; number = refl }
ends_of held (b ∷ front) free =
    elim (is_newline b) as (λ t. is_newline b ≡ t → Ends held (b ∷ front)) [
      | true ↦ λ e.
          let more = ends_of [] front none_free in
          record {
            lines = kept_line held ∷ more.lines;
            last = more.last;
            onward = λ l. lines_of_ended held (front ++ l) b free e
                ∙ ap (λ ls. kept_line held ∷ ls) (more.onward l);
            number = ap suc more.number ∙ sym (counted_yes b front e);
          }
      | false ↦ λ e.
          let more = ends_of (held ++ b ∷ []) front
          (All-append (λ x. is_newline x ≡ false) held (b ∷ []) free (one_free b e)) in
          record {
            lines = more.lines;
            last = more.last;
            onward = λ l. ap lines_of (sym (append_assoc held (b ∷ []) (front ++ l)))
                ∙ more.onward l;
            number = more.number ∙ sym (counted_no b front e);
          }
    ] refl

-- the lines that end in a front are those that it cuts
ended_lines_are : (front : List ℕ) (e : Ends [] front) → ended front ≡ e.lines
unfolding ended
ended_lines_are front e =
    ap (λ (n : ℕ). take n (lines_of front)) (sym e.number)
    ∙ ap (take (length e.lines)) (sym (ap lines_of (append-nil front)) ∙ e.onward [])
    ∙ take-append_seam e.lines (lines_of (e.last ++ []))

-- the lines of bytes are those that end in a front of them, and more
pub ended_first : (front more : List ℕ)
    → (others : List Line) × (lines_of (front ++ more) ≡ ended front ++ others)
ended_first front more =
    let e = ends_of [] front none_free in (
      lines_of (e.last ++ more),
      e.onward more ∙ ap (λ ls. ls ++ lines_of (e.last ++ more)) (sym (ended_lines_are front e)),
    )
