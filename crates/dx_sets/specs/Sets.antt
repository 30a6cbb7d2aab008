-- What is kept while a set shrinks.
use Rattle.std.specs.Prelude.{◌≡◌, ◌+◌, ◌++◌, ◌∷◌, [], ℕ, zero, suc, Bool, false}
use Rattle.std.specs.Prelude.{cond, List, length, slice_set}
use Rattle.std.specs.List.{count_by, sum_by}
use Rattle.ev_incidence.specs.Sets.{has_mark, occurs, IsSubset}

-- The set, by marks; what has left it and is not yet looked at; for each instance how many causes
-- and effects are in the set or not yet looked at; for each node how many instances give it.
pub record SetsValue : Type 0 where
  pub marks : List Bool
  pub pending : List ℕ
  pub causes_left : List ℕ
  pub effects_left : List ℕ
  pub support : List ℕ

-- a node leaves the set, if it is there
abbrev pub removed : SetsValue → ℕ → SetsValue
removed s e = cond (has_mark s.marks e)
    (record {
      marks = slice_set s.marks e false;
      pending = s.pending ++ e ∷ [];
      causes_left =
          s.causes_left;
      effects_left = s.effects_left;
      support = s.support;
    }) s

-- how many of these are in the set, or have left it and are not yet looked at
abbrev pub weight : SetsValue → List ℕ → ℕ
weight s xs = count_by (has_mark s.marks) xs + sum_by (λ v. occurs v xs) s.pending

-- f 0 and so on, n of them, added up
abbrev pub sum_below : ℕ → (ℕ → ℕ) → ℕ
sum_below zero f = 0
sum_below (suc n) f = sum_below n f + f n

-- the same of the nodes in the set, and those not yet looked at
abbrev pub sum_held : SetsValue → (ℕ → ℕ) → ℕ
sum_held s f =
    sum_below (length s.marks) (λ e. cond (has_mark s.marks e) (f e) 0) + sum_by f s.pending

-- what leaving does: the set shrinks, and what leaves is to be looked at
pub record Moves (s t : SetsValue) : Type 0 where
  pub shrinks : IsSubset (has_mark t.marks) (has_mark s.marks)
  pub size : length t.marks ≡ length s.marks
  pub weights : (xs : List ℕ) → weight t xs ≡ weight s xs
  pub sums : (f : ℕ → ℕ) → sum_held t f ≡ sum_held s f
