-- The words of a line, cut off one by one.
use Rattle.std.proofs.Common.{◌≡◌, ℕ, ◌+◌, ◌<◌, ◌∷◌, [], List, length, position, Some, None, refl}
use Rattle.std.proofs.Common.{ap, ◌∙◌, arith, take, drop, get_or, ◌-◌, Err}
use Rattle.std.specs.List.{slice_split}
use Rattle.std.proofs.lemmas.List.Splits.{slice_split_none, slice_split_at, length-slice_split}
use Rattle.fm_line.proofs.Places.{fails_all, fails_before, passes_at, parts_at}
use Rattle.fm_line.specs.Forms.{is_space, words, words_entry}
use Rattle.fm_line.specs.declared.fault.LineFault.TheVariants.{Shape}

-- a line without a space is one word
pub words_none : (line : List ℕ) → position is_space line ≡ None → words line ≡ line ∷ []
unfolding words
words_none line none = slice_split_none is_space line (fails_all is_space line none)

-- the first word ends at the first space
pub words_at : (line : List ℕ) (at : ℕ) → position is_space line ≡ Some at
    → words line ≡ take at line ∷ words (drop (at + 1) line)
unfolding words
words_at line at found =
    ap (slice_split is_space) (parts_at is_space line at found)
    ∙ slice_split_at is_space (take at line) (get_or line at 0) (drop (at + 1) line)
    (fails_before is_space line at found) (passes_at is_space line at found)

-- a line has a word
words_some : (line : List ℕ) → 0 < length (words line)
unfolding words
words_some line = omega (arith, length-slice_split is_space line)

five_words : (a b c d : List ℕ) (more : List (List ℕ)) → 0 < length more
    → words_entry (a ∷ b ∷ c ∷ d ∷ more) ≡ Err Shape
five_words a b c d [] some = absurd (omega arith)
five_words a b c d (e ∷ more) some = refl

-- a fifth word, and all that follows, is too much
pub words_past : (a b c d line : List ℕ) → words_entry (a ∷ b ∷ c ∷ d ∷ words line) ≡ Err Shape
words_past a b c d line = five_words a b c d (words line) (words_some line)
