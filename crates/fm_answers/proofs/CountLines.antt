-- The lines of counts, one after the other.
use Rattle.std.proofs.Common.{◌≡◌, ℕ, ◌+◌, ◌++◌, ◌∷◌, [], List, refl, sym, ◌∙◌, ap, append_assoc}
use Rattle.std.proofs.Common.{append-nil, ◌<◌, length, take, get_or, add-one}
use Rattle.std.proofs.Math.Seq.{take-suc}
use Rattle.fm_core.specs.declared.class_count.ClassCount.{ClassCount}
use Rattle.fm_answers.specs.Replaying.{count_line, count_lines}

pub lines_none : count_lines [] ≡ []
unfolding count_lines
lines_none = refl

pub lines_push : (xs : List ClassCount) (x : ClassCount)
    → count_lines (xs ++ x ∷ []) ≡ count_lines xs ++ count_line x
unfolding count_lines
lines_push [] x = append-nil (count_line x)
lines_push (y ∷ xs) x = ap (λ l. count_line y ++ l) (lines_push xs x)
    ∙ sym (append_assoc (count_line y) (count_lines xs) (count_line x))

-- one more line
pub lines_more : (xs : List ClassCount) (i : ℕ) (x : ClassCount) → i < length xs → x ≡ get_or xs i x
    → count_lines (take (i + 1) xs) ≡ count_lines (take i xs) ++ count_line x
lines_more xs i x inside is =
    let next : take (i + 1) xs ≡ take i xs ++ x ∷ [] =
    rw add-one (take-suc xs i x inside ∙ ap (λ y. take i xs ++ y ∷ []) (sym is)) in
    ap count_lines next ∙ lines_push (take i xs) x

-- a text that grew by a line
pub text_more : (start now new : List ℕ) (xs : List ClassCount) (i : ℕ) (x : ClassCount)
    → i < length xs → x ≡ get_or xs i x
    → now ≡ start ++ count_lines (take i xs) → new ≡ now ++ count_line x
    → new ≡ start ++ count_lines (take (i + 1) xs)
text_more start now new xs i x inside is was grew =
    grew ∙ ap (λ t. t ++ count_line x) was
    ∙ append_assoc start (count_lines (take i xs)) (count_line x)
    ∙ ap (λ t. start ++ t) (sym (lines_more xs i x inside is))
