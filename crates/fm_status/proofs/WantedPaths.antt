-- The paths that rows want: met row by row, each put once, and then sorted.
use Rattle.std.proofs.Common.{◌≡◌, ◌⊎◌, inl, inr, ℕ, Bool, true, false, List, [], ◌∷◌, ◌++◌}
use Rattle.std.proofs.Common.{subst, sym, ◌∙◌, nat_eq, arith, if◌then◌else◌}
use Rattle.std.specs.Prelude.{flat_map, ◌↔◌}
use Rattle.std.specs.List.{Contains, list_any}
use Rattle.std.specs.List.Sorted.{IsSorted, IsStrictlySortedBy, IsPermutation}
use Rattle.std.specs.List.Retain.{IsFiltered, DiffersFromLast}
use Rattle.std.specs.Cmp.Lexicographic.{pointwise, nat_list_eq_equiv, bytes_decides}
use Rattle.std.proofs.lemmas.List.Elements.{Contains-append_left, Contains-append_right}
use Rattle.std.proofs.lemmas.List.Elements.{Contains-push, Contains-push_cases}
use Rattle.std.proofs.lemmas.List.Elements.{Contains-append_cases}
use Rattle.std.proofs.lemmas.List.Filters.{dedup_is}
use Rattle.std.proofs.lemmas.List.Kept.{IsStrictlySortedBy-dedup, Contains-dedup}
use Rattle.std.proofs.lemmas.List.Kept.{Contains-from_dedup}
use Rattle.std.proofs.lemmas.List.Sorted.{Contains-permutation, IsPermutation-sym}
use Rattle.indexmap.specs.IndexSet.{insert_all, insert_key}
use Rattle.indexmap.proofs.CallerLemmas.{Contains-insert_key}
use Rattle.fm_name.specs.Order.{path_cmp}
use Rattle.fm_name.specs.OrderLaws.{path_cmp_total, path_cmp_ties}
use Rattle.fm_entry.specs.declared.list_event.ListEvent.{ListEvent}
use Rattle.fm_status.specs.Wanted.{row_paths, wanted_paths, IsWantedOf}

-- ---- paths that are put where they do not stand yet

put_stays : (b : Bool) (ks : List (List ℕ)) (k p : List ℕ) → Contains ks p
    → Contains (if b then ks else ks ++ k ∷ []) p
put_stays true ks k p c = c
put_stays false ks k p c = Contains-append_left ks (k ∷ []) p c

put_cases : (b : Bool) (ks : List (List ℕ)) (k p : List ℕ)
    → Contains (if b then ks else ks ++ k ∷ []) p → Contains ks p ⊎ (k ≡ p)
put_cases true ks k p c = inl c
put_cases false ks k p c = Contains-push_cases ks k p c

none_there : {A : Type 0} (p : List ℕ) → Contains [] p → A
none_there p c = absurd (omega (arith, c.1))

first_there : (k : List ℕ) (ks : List (List ℕ)) (p : List ℕ) → k ≡ p → Contains (k ∷ ks) p
first_there k ks p e =
    subst (Contains (k ∷ ks)) e (Contains-append_left (k ∷ []) ks k (Contains-push [] k))

alone : (k p : List ℕ) → Contains [] p ⊎ (k ≡ p) → k ≡ p
alone k p (inl c) = none_there p c
alone k p (inr e) = e

all_stay : (paths ks : List (List ℕ)) (p : List ℕ) → Contains ks p
    → Contains (insert_all (pointwise nat_eq) ks paths) p
all_stay [] ks p c = c
all_stay (k ∷ paths) ks p c =
    all_stay paths (insert_key (pointwise nat_eq) ks k) p
    (put_stays (list_any (pointwise nat_eq k) ks) ks k p c)

met_by : (k : List ℕ) (paths ks : List (List ℕ)) (p : List ℕ)
    → Contains (k ∷ []) p ⊎ Contains paths p
    → ((new : List (List ℕ)) → Contains paths p
    → Contains (insert_all (pointwise nat_eq) new paths) p)
    → Contains (insert_all (pointwise nat_eq) ks (k ∷ paths)) p
met_by k paths ks p (inl c) rest =
    let new = insert_key (pointwise nat_eq) ks k in
    all_stay paths new p (subst (Contains new) (alone k p (Contains-push_cases [] k p c))
    (Contains-insert_key (pointwise nat_eq) (λ x y e. (bytes_decides x y).0 e) ks k))
met_by k paths ks p (inr c) rest = rest (insert_key (pointwise nat_eq) ks k) c

all_met : (paths ks : List (List ℕ)) (p : List ℕ) → Contains paths p
    → Contains (insert_all (pointwise nat_eq) ks paths) p
all_met [] ks p c = none_there p c
all_met (k ∷ paths) ks p c =
    met_by k paths ks p (Contains-append_cases (k ∷ []) paths p c) (λ new h. all_met paths new p h)

from_put : (k : List ℕ) (paths ks : List (List ℕ)) (p : List ℕ) → Contains ks p ⊎ (k ≡ p)
    → Contains ks p ⊎ Contains (k ∷ paths) p
from_put k paths ks p (inl c) = inl c
from_put k paths ks p (inr e) = inr (first_there k paths p e)

from_by : (k : List ℕ) (paths ks : List (List ℕ)) (p : List ℕ)
    → Contains (insert_key (pointwise nat_eq) ks k) p ⊎ Contains paths p
    → Contains ks p ⊎ Contains (k ∷ paths) p
from_by k paths ks p (inl c) =
    from_put k paths ks p (put_cases (list_any (pointwise nat_eq k) ks) ks k p c)
from_by k paths ks p (inr c) = inr (Contains-append_right (k ∷ []) paths p c)

from_all : (paths ks : List (List ℕ)) (p : List ℕ)
    → Contains (insert_all (pointwise nat_eq) ks paths) p → Contains ks p ⊎ Contains paths p
from_all [] ks p c = inl c
from_all (k ∷ paths) ks p c =
    from_by k paths ks p (from_all paths (insert_key (pointwise nat_eq) ks k) p c)

of_none : (paths : List (List ℕ)) (p : List ℕ) → Contains [] p ⊎ Contains paths p
    → Contains paths p
of_none paths p (inl c) = none_there p c
of_none paths p (inr c) = c

-- ---- the paths of all rows

-- what is left of paths that were sorted and then kept once each
record IsOnce (paths once : List (List ℕ)) : Type 0 where
  ascend : IsStrictlySortedBy path_cmp once
  same : (path : List ℕ) → Contains once path ↔ Contains paths path

once_each : (paths sorted once : List (List ℕ)) → IsPermutation paths sorted
    → IsSorted path_cmp sorted → IsFiltered (DiffersFromLast (pointwise nat_eq)) [] sorted once
    → IsOnce paths once
once_each paths sorted once moved order kept =
    let is = dedup_is (pointwise nat_eq) sorted once kept in
    record {
      ascend = rw is (IsStrictlySortedBy-dedup path_cmp_total path_cmp_ties sorted order);
      same = λ p. (
        (λ h. Contains-permutation sorted paths p (IsPermutation-sym paths sorted moved)
            (Contains-from_dedup (pointwise nat_eq) sorted p (rw is at h))),
        (λ h. rw is (Contains-dedup nat_list_eq_equiv (λ x y e. (bytes_decides x y).0 e) sorted p
            (Contains-permutation paths sorted p moved h))),
      );
    }

pub sorted_ascend : (paths sorted once : List (List ℕ)) → IsPermutation paths sorted
    → IsSorted path_cmp sorted → IsFiltered (DiffersFromLast (pointwise nat_eq)) [] sorted once
    → IsStrictlySortedBy path_cmp once
sorted_ascend paths sorted once moved order kept =
    (once_each paths sorted once moved order kept).ascend

-- paths that were met row by row, and then sorted, are those that the rows want
pub wanted_is : (rows : List ListEvent) (met paths sorted once : List (List ℕ))
    → met ≡ insert_all (pointwise nat_eq) [] (flat_map row_paths rows) → paths ≡ met
    → IsPermutation paths sorted → IsSorted path_cmp sorted
    → IsFiltered (DiffersFromLast (pointwise nat_eq)) [] sorted once → IsWantedOf rows once
unfolding wanted_paths
wanted_is rows met paths sorted once e f moved order kept =
    let o = once_each paths sorted once moved order kept in
    let all = flat_map row_paths rows in
    let is : paths ≡ insert_all (pointwise nat_eq) [] all = f ∙ e in
    record {
      ascend = o.ascend;
      same = λ p. (
        (λ h. of_none all p (from_all all [] p (subst (λ z. Contains z p) is ((o.same p).0 h)))),
        (λ h. (o.same p).1 (subst (λ z. Contains z p) (sym is) (all_met all [] p h))),
      );
    }
