-- Where a class stands among counts, or would stand.
use Rattle.std.specs.Prelude.{ℕ, suc, ◌+◌, Bool, true, false, cond, nat_eq, List, [], ◌∷◌, insert}
use Rattle.std.specs.Prelude.{slice_get, slice_set, Option, Some, None, Result, Ok, Err}
use Rattle.std.specs.Ordering.{is_lt}
use lib.Pointwise.{pointwise}
use Rattle.fm_core.specs.declared.class_count.ClassCount.{ClassCount}
use Rattle.fm_core.specs.Counts.{order}

abbrev pub place_step : Bool → ℕ → ℕ
place_step true more = suc more
place_step false more = 0

-- how many of the first counts are of classes before a class
abbrev pub class_place : List ℕ → List ClassCount → ℕ
class_place class [] = 0
class_place class (x ∷ xs) = place_step (is_lt (order x class)) (class_place class xs)

-- whether a count is of a class
abbrev pub is_of : List ℕ → ClassCount → Bool
is_of class x = pointwise nat_eq x.class class

abbrev pub is_standing : List ℕ → Option ClassCount → Bool
is_standing class None = false
is_standing class (Some x) = is_of class x

-- the count of a class, if it is the one at its place
abbrev pub standing_count : List ℕ → Option ClassCount → ℕ
standing_count class None = 0
standing_count class (Some x) = cond (is_of class x) x.count 0

-- where a class stands, or else would stand
abbrev pub place_in : List ℕ → List ClassCount → Result ℕ ℕ
place_in class xs = cond (is_standing class (slice_get xs (class_place class xs)))
    (Ok (class_place class xs)) (Err (class_place class xs))

abbrev pub count_or_none : Option ClassCount → ℕ
count_or_none None = 0
count_or_none (Some x) = x.count

-- the count that stands at a place, or none
abbrev pub count_found : Result ℕ ℕ → List ClassCount → ℕ
count_found (Ok i) xs = count_or_none (slice_get xs i)
count_found (Err i) xs = 0

-- the counts with one report more, by what stands at the place of its class
abbrev pub counted_at : List ℕ → List ClassCount → ℕ → Option ClassCount → List ClassCount
counted_at class xs i None = insert xs i (record { class = class; count = 1 })
counted_at class xs i (Some x) =
    cond (is_of class x) (slice_set xs i (record x { count = x.count + 1 }))
    (insert xs i (record { class = class; count = 1 }))
