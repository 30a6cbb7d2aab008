-- What is left of a text that is read word by word.
use Rattle.std.specs.Prelude.{ℕ, Bool, false, not, ◌&&◌, ◌==◌, ◌+◌, List, [], ◌∷◌, Option, Some}
use Rattle.std.specs.Prelude.{None, if◌then◌else◌}
use Rattle.fm_topo.specs.Line.{parted_words}

-- where the first word ends: at the first space outside quotes, or at the end
abbrev pub word_end : Bool → List ℕ → ℕ
word_end quoted [] = 0
word_end quoted (b ∷ bytes) =
    if (b == 32 && not quoted) then 0 else 1 + word_end (if b == 34 then not quoted else quoted)
    bytes

-- the words of what is left, of which there are none where nothing is left
abbrev pub words_left : Option (List ℕ) → List (List ℕ)
words_left None = []
words_left (Some rest) = parted_words false rest
