-- Open cases as they are kept, one after the other.
use Rattle.std.proofs.Common.{◌≡◌, ℕ, zero, suc, ◌+◌, ◌<◌, List, [], ◌∷◌, ◌++◌, length, map, refl}
use Rattle.std.proofs.Common.{ap}
use Rattle.std.proofs.Common.{◌∙◌, arith, Option, Some, None, get_or, take}
use Rattle.std.specs.List.{All, cons_option}
use Rattle.std.proofs.lemmas.List.{take_more, map-append}
use Rattle.dx_case.specs.declared.case.Case.{Case}
use Rattle.dx_case.specs.Cases.{open_of}
use Rattle.dx_restore.specs.Saving.{IsShortCase}
use Rattle.dx_turn.specs.declared.tracked.Tracked.{Tracked}
use Rattle.dx_turn.specs.Tracking.{cases_before}

first_kept : (o : Option Case) (xs ys : List Case)
    → cons_option o (xs ++ ys) ≡ cons_option o xs ++ ys
first_kept None xs ys = refl
first_kept (Some c) xs ys = refl

-- what is kept of two lists is kept of each
pub kept_append : (xs ys : List Tracked)
    → cases_before (xs ++ ys) ≡ cases_before xs ++ cases_before ys
kept_append [] ys = refl
kept_append (x ∷ xs) ys =
    ap (cons_option x.kept) (kept_append xs ys) ∙ first_kept x.kept (cases_before xs)
    (cases_before ys)

-- one more case
pub kept_more : (ts : List Tracked) (i : ℕ) (t : Tracked) → i < length ts
    → map open_of (cases_before (take (i + 1) ts))
    ≡ map open_of (cases_before (take i ts)) ++ map open_of (cons_option (get_or ts i t).kept [])
kept_more ts i t low =
    let xs = cases_before (take i ts) in
    let ys = cases_before (get_or ts i t ∷ []) in
    ap (λ (us : List Tracked). map open_of (cases_before us)) (take_more ts i t low)
    ∙ ap (map open_of) (kept_append (take i ts) (get_or ts i t ∷ []))
    ∙ map-append open_of xs ys

all_first : (o : Option Case) (xs : List Case) → All IsShortCase (cons_option o xs)
    → All IsShortCase (cons_option o [])
all_first None xs h k d low = absurd (omega arith)
all_first (Some c) xs h zero d low = h zero d (omega arith)
all_first (Some c) xs h (suc k) d low = absurd (omega arith)

all_rest : (o : Option Case) (xs : List Case) → All IsShortCase (cons_option o xs)
    → All IsShortCase xs
all_rest None xs h = h
all_rest (Some c) xs h = λ k d low. h (suc k) d (omega arith)

-- the case at a place is short where all are
pub short_at : (ts : List Tracked) (i : ℕ) (t : Tracked) → i < length ts
    → All IsShortCase (cases_before ts) → All IsShortCase (cons_option (get_or ts i t).kept [])
short_at [] i t low h = absurd (omega arith)
short_at (x ∷ xs) zero t low h = all_first x.kept (cases_before xs) h
short_at (x ∷ xs) (suc i) t low h =
    short_at xs i t (omega arith) (all_rest x.kept (cases_before xs) h)
