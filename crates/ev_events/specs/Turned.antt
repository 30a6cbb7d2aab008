-- The vertical iterators in another order, and bindings of them.
use Rattle.std.specs.Prelude.{ℕ, List, [], map, fold, slice_get, slice_index}
use Rattle.ev_words.specs.Iterators.{same_name}
use Rattle.ev_events.specs.Names.{with_any, with_name}
use Rattle.ev_events.specs.Slots.{first_place}

-- names with those of others that have these numbers, and with all others, each that is none of
-- them
abbrev pub with_numbered : List (List ℕ) → List (List ℕ) → List ℕ → List (List ℕ)
with_numbered names vs numbers = fold (λ ws n. with_any ws (slice_get vs n)) names numbers

abbrev pub with_names : List (List ℕ) → List (List ℕ) → List (List ℕ)
with_names names vs = fold with_name names vs

-- the same names, those of these numbers first
abbrev pub turned_names : List (List ℕ) → List ℕ → List (List ℕ)
turned_names vs numbers = with_names (with_numbered [] vs numbers) vs

-- the number that each name has among others
abbrev pub places_among : List (List ℕ) → List (List ℕ) → List ℕ
places_among others names = map (λ v. first_place (same_name v) others) names

-- the instances of a binding at these places
abbrev pub instances_at : List ℕ → List ℕ → List ℕ
instances_at places b = map (slice_index b) places
