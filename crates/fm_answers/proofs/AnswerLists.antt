-- Answers and entries of lines, line by line.
use Rattle.std.proofs.Common.{◌≡◌, ℕ, ◌+◌, ◌++◌, ◌∷◌, [], List, Bool, length, refl, sym, ◌∙◌, ap}
use Rattle.std.proofs.Common.{arith, append_assoc, length-append, append-nil}
use Rattle.fm_answers.specs.Answers.{answer, answers, entries_in, entries_of}
use Rattle.fm_answers.specs.Running.{Line}

pub entries_none : entries_of [] ≡ []
unfolding entries_of
entries_none = refl

-- the entries of one line
pub entries_one : (line : Line) → entries_of (line ∷ []) ≡ entries_in line
unfolding entries_of
entries_one line = append-nil (entries_in line)

-- the entries of lines that come one after the other
pub entries_append : (xs ys : List Line) → entries_of (xs ++ ys) ≡ entries_of xs ++ entries_of ys
unfolding entries_of
entries_append [] ys = refl
entries_append (x ∷ xs) ys = ap (λ es. entries_in x ++ es) (entries_append xs ys)
    ∙ sym (append_assoc (entries_in x) (entries_of xs) (entries_of ys))

pub answers_none : (is_told : Bool) (number next : ℕ) → answers is_told number next [] ≡ []
unfolding answers
answers_none is_told number next = refl

-- the answer to one line
pub answers_one : (is_told : Bool) (number next : ℕ) (line : Line)
    → answers is_told number next (line ∷ []) ≡ answer is_told number next line
unfolding answers
answers_one is_told number next line = append-nil (answer is_told number next line)

-- the answers to lines that come one after the other
pub answers_append : (is_told : Bool) (number next : ℕ) (xs ys : List Line)
    → answers is_told number next (xs ++ ys) ≡ answers is_told number next xs
    ++ answers is_told (number + length xs) (next + length (entries_of xs)) ys
unfolding answers entries_of
answers_append is_told number next [] ys = grind arith
answers_append is_told number next (x ∷ xs) ys =
    let head : List ℕ = answer is_told number next x in
    let after : ℕ = next + length (entries_in x) in
    let step : answers is_told (number + 1) after (xs ++ ys) ≡ answers is_told (number + 1) after xs
    ++ answers is_told (number + 1 + length xs) (after + length (entries_of xs)) ys =
    answers_append is_told (number + 1) after xs ys in
    let count : number + 1 + length xs ≡ number + length (x ∷ xs) = omega arith in
    let held : after + length (entries_of xs) ≡ next + length (entries_in x ++ entries_of xs) =
    omega (arith, length-append (entries_in x) (entries_of xs)) in
    ap (λ t. head ++ t) step
    ∙ ap (λ k. head ++ (answers is_told (number + 1) after xs
    ++ answers is_told k (after + length (entries_of xs)) ys)) count
    ∙ ap (λ n. head ++ (answers is_told (number + 1) after xs
    ++ answers is_told (number + length (x ∷ xs)) n ys)) held
    ∙ sym (append_assoc head (answers is_told (number + 1) after xs)
    (answers is_told (number + length (x ∷ xs)) (next + length (entries_in x ++ entries_of xs))
    ys))
