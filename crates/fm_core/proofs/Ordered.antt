-- Records in order: what one more keeps, the parts below and from a number, and records of one
-- module.
use Rattle.std.proofs.Common.{◌≡◌, ◌≢◌, ℕ, ◌+◌, ◌<◌, ◌≤◌, max, Bool, true, false, nat_lt, nat_le}
use Rattle.std.proofs.Common.{◌==◌, List, [], ◌∷◌, ◌++◌, refl, sym, ◌∙◌, ap, append-nil, arith}
use Rattle.std.specs.List.{AllByRecursion}
use Rattle.fm_entry.specs.declared.spoken.Spoken.{Spoken}
use Rattle.fm_entry.specs.declared.list_event.ListEvent.{ListEvent}
use Rattle.fm_core.specs.Folds.{records_at}
use Rattle.fm_core.specs.Records.{of_module, numbered_from, numbered_before, IsAscending, past_all}
use Rattle.fm_core.proofs.Lists.{all_append, all_map, filter_all, filter_none}
use Rattle.fm_core.proofs.Tests.{lt_true, lt_false, true_lt, false_lt, le_true, le_false, eq_true}
use Rattle.fm_core.proofs.Tests.{eq_false}
use Rattle.fm_core.proofs.Along.{IsWithin}

-- each record has a number below n
abbrev pub AllBelow : ℕ → List Spoken → Type 0
AllBelow n rs = AllByRecursion (λ r. r.number < n) rs

-- each record has a number of n or more
abbrev pub AllFrom : ℕ → List Spoken → Type 0
AllFrom n rs = AllByRecursion (λ r. n ≤ r.number) rs

pub within_below : (own low high : ℕ) (rs : List Spoken) → AllByRecursion (IsWithin own low high) rs
    → AllBelow high rs
within_below own low high rs a =
    all_map (IsWithin own low high) (λ r. r.number < high) rs (λ r h. h.below) a

pub within_from : (own low high : ℕ) (rs : List Spoken) → AllByRecursion (IsWithin own low high) rs
    → AllFrom low rs
within_from own low high rs a =
    all_map (IsWithin own low high) (λ r. low ≤ r.number) rs (λ r h. h.above) a

pub below_weaker : (n k : ℕ) (rs : List Spoken) → n ≤ k → AllBelow n rs → AllBelow k rs
below_weaker n k rs h a = all_map (λ r. r.number < n) (λ r. r.number < k) rs (λ r b. omega arith) a

-- a greater number at the end
pub ascending_push : (r : Spoken) (rs : List Spoken) → AllBelow r.number rs → IsAscending rs
    → IsAscending (rs ++ r ∷ [])
ascending_push r [] a s = (tt, tt)
ascending_push r (x ∷ rs) a s =
    (all_append (λ y. x.number < y.number) rs (r ∷ []) s.0 (a.0, tt), ascending_push r rs a.1 s.1)

-- what is said at a number that is past all comes in order
pub ascending_said : (own n : ℕ) (ws : List ListEvent) (rs : List Spoken) → AllBelow n rs
    → IsAscending rs → IsAscending (rs ++ records_at own n ws)
ascending_said own n [] rs a s = rw (append-nil rs) s
ascending_said own n (w ∷ ws) rs a s =
    ascending_push (record { «module» = own; number = n; events = w ∷ ws }) rs a s

-- all from n are kept by `numbered_from`, and none by `numbered_before`
pub from_all : (n : ℕ) (rs : List Spoken) → AllFrom n rs → numbered_from n rs ≡ rs
from_all n rs a = filter_all (λ r. nat_le n r.number) rs
    (all_map (λ r. n ≤ r.number) (λ r. nat_le n r.number ≡ true) rs (λ r h. le_true n r.number h) a)

pub before_none : (n : ℕ) (rs : List Spoken) → AllFrom n rs → numbered_before n rs ≡ []
before_none n rs a = filter_none (λ r. nat_lt r.number n) rs
    (all_map (λ r. n ≤ r.number) (λ r. nat_lt r.number n ≡ false) rs (λ r h. lt_false r.number n h)
    a)

pub before_all : (n : ℕ) (rs : List Spoken) → AllBelow n rs → numbered_before n rs ≡ rs
before_all n rs a = filter_all (λ r. nat_lt r.number n) rs
    (all_map (λ r. r.number < n) (λ r. nat_lt r.number n ≡ true) rs (λ r h. lt_true r.number n h) a)

pub from_none : (n : ℕ) (rs : List Spoken) → AllBelow n rs → numbered_from n rs ≡ []
from_none n rs a = filter_none (λ r. nat_le n r.number) rs
    (all_map (λ r. r.number < n) (λ r. nat_le n r.number ≡ false) rs (λ r h. le_false n r.number h)
    a)

split_step : (n : ℕ) (r : Spoken) (rs : List Spoken) → AllByRecursion (λ x. r.number < x.number) rs
    → numbered_before n rs ++ numbered_from n rs ≡ rs → (b : Bool) → nat_lt r.number n ≡ b
    → numbered_before n (r ∷ rs) ++ numbered_from n (r ∷ rs) ≡ r ∷ rs
split_step n r rs a h true e =
    let f : nat_le n r.number ≡ false = le_false n r.number (true_lt r.number n e) in
    simp (e, f) (ap (λ xs. r ∷ xs) h)
split_step n r rs a h false e =
    let f : nat_le n r.number ≡ true = le_true n r.number (false_lt r.number n e) in
    let low : n ≤ r.number = false_lt r.number n e in
    let all : AllFrom n rs =
    all_map (λ x. r.number < x.number) (λ x. n ≤ x.number) rs (λ x g. omega arith) a in
    let none : numbered_before n rs ≡ [] = before_none n rs all in
    let whole : numbered_from n rs ≡ rs = from_all n rs all in
    simp (e, f) (ap (λ xs. xs ++ r ∷ numbered_from n rs) none ∙ ap (λ xs. r ∷ xs) whole)

-- ascending records are those below a number, and then those from it on
pub split_at : (n : ℕ) (rs : List Spoken) → IsAscending rs
    → numbered_before n rs ++ numbered_from n rs ≡ rs
split_at n [] s = refl
split_at n (r ∷ rs) s = split_step n r rs s.0 (split_at n rs s.1) (nat_lt r.number n) refl

-- records of one module are kept by `of_module` at it, and dropped at another
pub of_own : (own low high : ℕ) (rs : List Spoken) → AllByRecursion (IsWithin own low high) rs
    → of_module own rs ≡ rs
of_own own low high rs a =
    filter_all (λ r. r.«module» == own) rs
    (all_map (IsWithin own low high) (λ r. (r.«module» == own) ≡ true) rs
    (λ r h. eq_true r.«module» own h.module_is) a)

other_module : (own j low high : ℕ) → j ≢ own → (r : Spoken) → IsWithin own low high r
    → (r.«module» == j) ≡ false
other_module own j low high ne r h = eq_false r.«module» j (λ e. ne (sym e ∙ h.module_is))

pub of_other : (own j low high : ℕ) (rs : List Spoken) → j ≢ own
    → AllByRecursion (IsWithin own low high) rs → of_module j rs ≡ []
of_other own j low high rs ne a =
    filter_none (λ r. r.«module» == j) rs
    (all_map (IsWithin own low high) (λ r. (r.«module» == j) ≡ false) rs
    (other_module own j low high ne) a)

-- no record is both from n and below it
pub none_between : (n : ℕ) (rs : List Spoken) → AllFrom n rs → AllBelow n rs → rs ≡ []
none_between n [] a b = refl
none_between n (r ∷ rs) a b =
    absurd (let low : n ≤ r.number = a.0 in let high : r.number < n = b.0 in let no : ⊥ =
    omega arith in no)

-- `past_all` is past all
pub past_all_below : (n c : ℕ) (rs : List Spoken) → past_all n rs ≤ c → AllBelow c rs
past_all_below n c [] h = tt
past_all_below n c (r ∷ rs) h = (
  let here : max (r.number + 1) (past_all n rs) ≤ c = h in omega arith,
  past_all_below n c rs (let here : max (r.number + 1) (past_all n rs) ≤ c = h in omega arith),
)

pub past_all_from : (n : ℕ) (rs : List Spoken) → n ≤ past_all n rs
past_all_from n [] = omega arith
past_all_from n (r ∷ rs) = omega (arith, past_all_from n rs)

-- and no more than a number that is past all
pub past_all_least : (n c : ℕ) (rs : List Spoken) → n ≤ c → AllBelow c rs → past_all n rs ≤ c
past_all_least n c [] h a = h
past_all_least n c (r ∷ rs) h a = let here : r.number < c = a.0 in
    omega (arith, past_all_least n c rs h a.1)
