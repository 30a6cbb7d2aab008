-- Runs over pieces of the input that come one after the other.
use Rattle.std.proofs.Common.{◌≡◌, ℕ, ◌+◌, ◌++◌, [], List, Bool, length, Option, None, refl, sym}
use Rattle.std.proofs.Common.{◌∙◌, ap, subst, arith, append_assoc, length-append, count_by}
use Rattle.std.proofs.lemmas.List.Sums.{sum_by-append}
use Rattle.std.specs.Io.KnownBytes.{Appends}
use Rattle.std.proofs.KnownBytes.{Appends-nil, Appends-trans}
use Rattle.fm_entry.specs.declared.entry.Entry.{Entry}
use Rattle.fm_line.specs.Lines.{is_newline, lines_from}
use Rattle.fm_answers.specs.declared.stops.Stop.{Stop}
use Rattle.fm_answers.specs.Answers.{answers, entries_of}
use Rattle.fm_answers.specs.Running.{Line, Taken}
use Rattle.fm_answers.specs.Halting.{Moved}
use Rattle.fm_answers.proofs.AnswerLists.{entries_none, entries_append, answers_none}
use Rattle.fm_answers.proofs.AnswerLists.{answers_append}

-- newlines of bytes that come one after the other
pub newlines_append : (xs ys : List ℕ)
    → count_by is_newline (xs ++ ys) ≡ count_by is_newline xs + count_by is_newline ys
newlines_append xs ys = sum_by-append _ xs ys

-- a run over nothing
pub moved_nil : {T : Type 0} (went : T → T → Taken) (stays : (a : T) → went a a [] None)
    (t : T) (next : ℕ) (put : Option (List ℕ)) (is_told : Bool) (pending : Line) (count : ℕ)
    → Moved (went t t) (Appends put put) is_told next [] pending pending count count
moved_nil went stays t next put is_told pending count = record {
  lines = [];
  onward = λ more. refl;
  number = refl;
  counted = omega arith;
  put = subst (λ text. Appends put put text) (sym (answers_none is_told (count + 1) next))
      (Appends-nil put);
  took = subst (λ es. went t t es None) (sym entries_none) (stays t);
}

-- a run over one piece and then over the next
pub moved_trans : {T : Type 0} (went : T → T → Taken) (next : T → ℕ)
    (goes_on : (a b c : T) (es fs : List Entry) (last : Option (Stop × Entry)) → went a b es None
    → went b c fs last → went a c (es ++ fs) last)
    (numbers : (a b : T) (es : List Entry) → went a b es None → next b ≡ next a + length es)
    (t u v : T) (p q r : Option (List ℕ)) (is_told : Bool) (xs ys : List ℕ) (a b c : Line)
    (k l m : ℕ)
    → Moved (went t u) (Appends p q) is_told (next t) xs a b k l
    → Moved (went u v) (Appends q r) is_told (next u) ys b c l m
    → Moved (went t v) (Appends p r) is_told (next t) (xs ++ ys) a c k m
moved_trans went next goes_on numbers t u v p q r is_told xs ys a b c k l m first then =
    let count : l + 1 ≡ k + 1 + length first.lines = omega (arith, first.counted) in
    let held : next u ≡ next t + length (entries_of first.lines) =
    numbers t u (entries_of first.lines) first.took in
    let text : answers is_told (l + 1) (next u) then.lines
    ≡ answers is_told (k + 1 + length first.lines) (next t + length (entries_of first.lines))
    then.lines =
    ap (λ n. answers is_told n (next u) then.lines) count
    ∙ ap (λ n. answers is_told (k + 1 + length first.lines) n then.lines) held in
    let whole : answers is_told (k + 1) (next t) first.lines
    ++ answers is_told (l + 1) (next u) then.lines
    ≡ answers is_told (k + 1) (next t) (first.lines ++ then.lines) =
    ap (λ s. answers is_told (k + 1) (next t) first.lines ++ s) text
    ∙ sym (answers_append is_told (k + 1) (next t) first.lines then.lines) in
    record {
      lines = first.lines ++ then.lines;
      onward = λ more.
          ap (lines_from a) (append_assoc xs ys more)
          ∙ first.onward (ys ++ more)
          ∙ ap (λ ls. first.lines ++ ls) (then.onward more)
          ∙ sym (append_assoc first.lines then.lines (lines_from c more));
      number = length-append first.lines then.lines
          ∙ ap (λ n. n + length then.lines) first.number
          ∙ ap (λ n. count_by is_newline xs + n) then.number
          ∙ sym (newlines_append xs ys);
      counted = omega (arith, first.counted, then.counted, length-append first.lines then.lines);
      put = subst (λ s. Appends p r s) whole (Appends-trans p q r _ _ first.put then.put);
      took = subst (λ es. went t v es None) (sym (entries_append first.lines then.lines))
          (goes_on t u v _ _ None first.took then.took);
    }
