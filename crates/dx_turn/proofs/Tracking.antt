-- Open cases as a turn changes them, in lists.
use Rattle.std.proofs.Common.{◌≡◌, ℕ, zero, suc, ◌+◌, ◌<◌, ◌⊎◌, Bool, true, false, List, []}
use Rattle.std.proofs.Common.{◌∷◌, ◌++◌, length, map, refl, sym, ap, ◌∙◌, arith, Option, Some, None}
use Rattle.std.proofs.Common.{inl, inr, append_assoc, get_or, take, drop, if◌then◌else◌}
use Rattle.std.proofs.Math.ListN.{set}
use Rattle.std.specs.List.{All, cons_option}
use Rattle.dx_case.specs.declared.case.Case.{Case}
use Rattle.dx_case.specs.Cases.{open_of}
use Rattle.dx_turn.specs.declared.tracked.Tracked.{Tracked}
use Rattle.dx_turn.specs.Tracking.{first_case, now_of, cases_before, opens_of, opens_in}

-- there is a case now, or none
now_by : (b : Bool) (o p : Option Case)
    → ((if b then [] else first_case o p) ≡ [])
    ⊎ ((c : Case) × ((if b then [] else first_case o p) ≡ c ∷ []))
now_by true o p = inl refl
now_by false (Some c) p = inr (c, refl)
now_by false None (Some c) = inr (c, refl)
now_by false None None = inl refl

pub now_cases : (t : Tracked) → (now_of t ≡ []) ⊎ ((c : Case) × (now_of t ≡ c ∷ []))
now_cases t = now_by t.decided t.changed t.kept

-- lists
pub opens_append : (xs ys : List Tracked) → opens_in (xs ++ ys) ≡ opens_in xs ++ opens_in ys
opens_append [] ys = refl
opens_append (x ∷ xs) ys =
    ap (λ cs. opens_of x ++ cs) (opens_append xs ys)
    ∙ sym (append_assoc (opens_of x) (opens_in xs) (opens_in ys))

-- a change of one leaves what was there before
pub kept_set : (ts : List Tracked) (at : ℕ) (d t : Tracked) → at < length ts
    → t.kept ≡ (get_or ts at d).kept → cases_before (set ts at t) ≡ cases_before ts
kept_set [] at d t low h = absurd (omega arith)
kept_set (x ∷ xs) zero d t low h = ap (λ (o : Option Case). cons_option o (cases_before xs)) h
kept_set (x ∷ xs) (suc at) d t low h =
    ap (λ (cs : List Case). cons_option x.kept cs) (kept_set xs at d t (omega arith) h)

-- the list around one
pub split_at : (ts : List Tracked) (at : ℕ) (d : Tracked) → at < length ts
    → opens_in ts
    ≡ opens_in (take at ts) ++ (opens_of (get_or ts at d) ++ opens_in (drop (at + 1) ts))
split_at [] at d low = absurd (omega arith)
split_at (x ∷ xs) zero d low = refl
split_at (x ∷ xs) (suc at) d low =
    let next : suc at + 1 ≡ suc (at + 1) = omega arith in
    ap (λ cs. opens_of x ++ cs) (split_at xs at d (omega arith))
    ∙ sym (append_assoc (opens_of x) (opens_in (take at xs))
    (opens_of (get_or xs at d) ++ opens_in (drop (at + 1) xs)))
    ∙ ap (λ n. (opens_of x ++ opens_in (take at xs))
    ++ (opens_of (get_or xs at d) ++ opens_in (drop n (x ∷ xs)))) (sym next)

pub split_set : (ts : List Tracked) (at : ℕ) (t : Tracked) → at < length ts
    → opens_in (set ts at t)
    ≡ opens_in (take at ts) ++ (opens_of t ++ opens_in (drop (at + 1) ts))
split_set [] at t low = absurd (omega arith)
split_set (x ∷ xs) zero t low = refl
split_set (x ∷ xs) (suc at) t low =
    let next : suc at + 1 ≡ suc (at + 1) = omega arith in
    ap (λ cs. opens_of x ++ cs) (split_set xs at t (omega arith))
    ∙ sym (append_assoc (opens_of x) (opens_in (take at xs))
    (opens_of t ++ opens_in (drop (at + 1) xs)))
    ∙ ap (λ n. (opens_of x ++ opens_in (take at xs))
    ++ (opens_of t ++ opens_in (drop n (x ∷ xs)))) (sym next)

-- what a case that is tracked is, as an open case
pub opens_one : (t : Tracked) (c : Case) → now_of t ≡ c ∷ [] → opens_of t ≡ open_of c ∷ []
opens_one t c h = ap (map open_of) h

pub opens_none : (t : Tracked) → now_of t ≡ [] → opens_of t ≡ []
opens_none t h = ap (map open_of) h

-- cases that are tracked, with one more, or another in the place of one
pub kept_push : (ts : List Tracked) (t : Tracked) → t.kept ≡ None
    → cases_before (ts ++ t ∷ []) ≡ cases_before ts
kept_push [] t h = ap (λ (o : Option Case). cons_option o []) h
kept_push (x ∷ xs) t h = ap (λ (cs : List Case). cons_option x.kept cs) (kept_push xs t h)

pub all_set : (P : Tracked → Type 0) (ts : List Tracked) (at : ℕ) (t : Tracked) → All P ts → P t
    → All P (set ts at t)
all_set P [] at t h p k d low = absurd (omega arith)
all_set P (x ∷ xs) zero t h p zero d low = p
all_set P (x ∷ xs) zero t h p (suc k) d low = h (suc k) d (omega arith)
all_set P (x ∷ xs) (suc at) t h p zero d low = h zero d (omega arith)
all_set P (x ∷ xs) (suc at) t h p (suc k) d low =
    all_set P xs at t (λ j e l. h (suc j) e (omega arith)) p k d (omega arith)

pub all_push : (P : Tracked → Type 0) (ts : List Tracked) (t : Tracked) → All P ts → P t
    → All P (ts ++ t ∷ [])
all_push P [] t h p zero d low = p
all_push P [] t h p (suc k) d low = absurd (omega arith)
all_push P (x ∷ xs) t h p zero d low = h zero d (omega arith)
all_push P (x ∷ xs) t h p (suc k) d low =
    all_push P xs t (λ j e l. h (suc j) e (omega arith)) p k d (omega arith)
