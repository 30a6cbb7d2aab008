-- When a state is refused for its bytes.
use Rattle.std.specs.Prelude.{◌≡◌, ◌≢◌, ℕ, ◌<◌, ◌^◌, IsTrue, List, ◌++◌, length, flat_map}
use Rattle.std.specs.List.{AllByRecursion}
use Rattle.fm_core.specs.declared.module.LoadFault.{LoadFault}
use Rattle.fm_core.specs.declared.module.LoadFault.TheVariants.{Bad, NoMemory}
use Rattle.fm_core.specs.declared.class_count.ClassCount.{ClassCount}
use Rattle.fm_core.specs.Counts.{is_count, are_counts, count_bytes, counts_bytes}

-- the fault is that of the bytes
abbrev pub IsBad : LoadFault → Type 0
IsBad Bad = Unit {0}
IsBad NoMemory = ⊥

-- a count of a class of reports that is at least 1 and fits eight bytes
pub record IsKept (x : ClassCount) : Type 0 where
  pub counted : IsTrue (is_count x)
  pub fits : x.count < 2 ^ 64

-- the bytes begin with no count
abbrev pub NoCount : List ℕ → Type 0
NoCount bytes = (x : ClassCount) (rest : List ℕ) → IsKept x → bytes ≢ count_bytes x ++ rest

-- the bytes are not those of so many counts
abbrev pub NoneRead : ℕ → List ℕ → Type 0
NoneRead many bytes = (xs : List ClassCount) → length xs ≡ many → AllByRecursion IsKept xs
    → bytes ≢ flat_map count_bytes xs

-- the bytes are the save of no counts
abbrev pub NoCounts : List ℕ → Type 0
NoCounts bytes = (xs : List ClassCount) → IsTrue (are_counts xs) → counts_bytes xs ≢ bytes
