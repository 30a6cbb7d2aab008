-- Lists of records: those of one module, those from a number on, those before it, and their order.
use Rattle.std.specs.Prelude.{ℕ, ◌+◌, ◌<◌, max, ◌==◌, nat_lt, nat_le, List, [], ◌∷◌, filter}
use Rattle.std.specs.List.{AllByRecursion}
use Rattle.fm_entry.specs.declared.spoken.Spoken.{Spoken}

-- the records of the module with this number
abbrev pub of_module : ℕ → List Spoken → List Spoken
of_module i records = filter (λ r. r.«module» == i) records

-- the records whose numbers are n and up
abbrev pub numbered_from : ℕ → List Spoken → List Spoken
numbered_from n records = filter (λ r. nat_le n r.number) records

-- the records whose numbers are below n
abbrev pub numbered_before : ℕ → List Spoken → List Spoken
numbered_before n records = filter (λ r. nat_lt r.number n) records

-- the numbers ascend strictly
abbrev pub IsAscending : List Spoken → Type 0
IsAscending [] = Unit {0}
IsAscending (r ∷ rs) = AllByRecursion (λ x. r.number < x.number) rs × IsAscending rs

-- one past the greatest number of the records, or n where that is greater
abbrev pub past_all : ℕ → List Spoken → ℕ
past_all n [] = n
past_all n (r ∷ rs) = max (r.number + 1) (past_all n rs)
