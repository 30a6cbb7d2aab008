-- Where an item comes in among items in order.
use Rattle.std.specs.Prelude.{◌≡◌, ◌<◌, ◌≤◌, ℕ, Bool, true, false, List, length, slice_index_or}

-- the items before the place are before the item, and those from there on are not
pub record IsInsertPlace {A : Type 0} (before : A → A → Bool) (x : A) (xs : List A) (at : ℕ) :
    Type 0
  where
    pub inside : at ≤ length xs
    pub low : (k : ℕ) (d : A) → k < at → before (slice_index_or xs k d) x ≡ true
    pub high : (k : ℕ) (d : A) → at ≤ k → k < length xs → before (slice_index_or xs k d) x ≡ false
