-- What is put down of a stream, piece by piece.
use Rattle.std.proofs.Common.{◌≡◌, ℕ, ◌<◌, ◌≤◌, ◌++◌, ◌∷◌, List, [], Option, length}
use Rattle.std.proofs.Common.{sym, ap, ◌∙◌, append_assoc, arith}
use Rattle.fm_line.specs.Lines.{ended_line, taken_len}
use Rattle.fm_line.specs.declared.split.Whole.{Whole}

-- a line that ended is put down, and the rest is what was left
pub line_put : (found new rest before : List (Option (List ℕ))) (whole : Whole) (line : List ℕ)
    → new ≡ found ++ ended_line whole line ∷ [] → before ≡ ended_line whole line ∷ rest
    → found ++ before ≡ new ++ rest
line_put found new rest before whole line put is =
    ap (λ (xs : List (Option (List ℕ))). found ++ xs) is
    ∙ sym (append_assoc found (ended_line whole line ∷ []) rest)
    ∙ ap (λ (xs : List (Option (List ℕ))). xs ++ rest) (sym put)

-- a piece that has bytes loses some
pub some_taken : (rest : List ℕ) → 0 < length rest → 0 < taken_len rest
some_taken rest some = omega arith

pub few_taken : (rest : List ℕ) → taken_len rest ≤ length rest
few_taken rest = omega arith
