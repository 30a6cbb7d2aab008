-- The iterators of a propagation statement, and the names that are none.
use Rattle.std.specs.Prelude.{◌≡◌, ℕ, Bool, false, not, ◌||◌, List, length, nat_lt, nat_eq}
use Rattle.std.specs.List.{list_any}
use Rattle.std.specs.Cmp.Lexicographic.{pointwise}
use Rattle.ev_tree.specs.declared.tree.At.{At}
use Rattle.ev_tree.specs.declared.tree.At.TheVariants as ats
use Rattle.ev_tree.specs.declared.tree.Operand.{Operand}
use Rattle.ev_tree.specs.declared.tree.Operand.TheVariants as operands
use Rattle.ev_tree.specs.declared.tree.Part.{Part}
use Rattle.ev_tree.specs.declared.tree.SidePattern.{SidePattern}
use Rattle.ev_words.specs.Operands.{operands_at}

-- the two names are the same
abbrev pub same_name : List ℕ → List ℕ → Bool
same_name a b = pointwise nat_eq a b

-- a part named so with this behind its name has the vertical iterator v
abbrev pub goes_down_at : List ℕ → List ℕ → At → Bool
goes_down_at v name ats.Bare = same_name v name
goes_down_at v name (ats.Down w) = same_name v w
goes_down_at v name _ = false

abbrev pub goes_down : List ℕ → Part → Bool
goes_down v p = goes_down_at v p.name p.at

-- what stands behind a name is the horizontal iterator v
abbrev pub goes_across_at : List ℕ → At → Bool
goes_across_at v (ats.Across w) = same_name v w
goes_across_at v _ = false

abbrev pub goes_across : List ℕ → Part → Bool
goes_across v p = goes_across_at v p.at

-- v is a vertical iterator of the pattern, of the statement with these sides
abbrev pub is_down : List ℕ → SidePattern → Bool
is_down v p = list_any (goes_down v) p.parts

abbrev pub is_vertical : List SidePattern → List SidePattern → List ℕ → Bool
is_vertical left right v = list_any (is_down v) left || list_any (is_down v) right

-- v is a horizontal iterator of the pattern
abbrev pub is_horizontal : SidePattern → List ℕ → Bool
is_horizontal p v = list_any (goes_across v) p.parts

-- a name of over 32 bytes
abbrev pub is_long : List ℕ → Bool
is_long name = nat_lt 32 (length name)

-- an operand of a condition is a name that is too long or no iterator: it passes neither the test
-- of vertical iterators nor that of horizontal ones
abbrev pub is_free : (List ℕ → Bool) → (List ℕ → Bool) → Operand → Bool
is_free down across (operands.Name v) = is_long v || not (down v || across v)
is_free down across _ = false

-- an iterator is too long, or both horizontal and vertical
abbrev pub is_mixed_at : (List ℕ → Bool) → At → Bool
is_mixed_at down (ats.Down v) = is_long v
is_mixed_at down (ats.Across v) = is_long v || down v
is_mixed_at down _ = false

abbrev pub is_mixed : (List ℕ → Bool) → Part → Bool
is_mixed down p = is_long p.name || is_mixed_at down p.at

-- some name of the pattern is one of these, where that is the test of vertical iterators
abbrev pub has_odd_name : (List ℕ → Bool) → SidePattern → Bool
has_odd_name down p =
    list_any (is_free down (is_horizontal p)) (operands_at p) || list_any (is_mixed down) p.parts

-- a set of names, as its test, comes to have those of another too
abbrev pub Adds : (List ℕ → Bool) → (List ℕ → Bool) → (List ℕ → Bool) → Type 0
Adds old new added = (v : List ℕ) → new v ≡ (old v || added v)
