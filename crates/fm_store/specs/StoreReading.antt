-- What a store that stands for a book tells of its logs.
use Rattle.std.specs.Prelude.{◌≡◌, ℕ, ◌+◌, List, ◌++◌, length}
use Rattle.fm_core.specs.Book.{Book}
use Rattle.fm_entry.specs.declared.entry.Entry.{Entry}
use Rattle.fm_logs.specs.declared.fault.StoreFault.{StoreFault}
use Rattle.fm_logs.specs.declared.fault.StoreFault.TheVariants.{Damaged}

-- the fault is no damage
abbrev pub IsNoDamage : StoreFault → Type 0
IsNoDamage (Damaged disk place) = ⊥
IsNoDamage _ = Unit {0}

-- these are the entries from this number on: older ones up to the base of the book, and those of
-- the book
pub record HasLogged (first : ℕ) (k : Book) (found : List Entry) : Type 0 where
  pub older : List Entry
  pub begins : first + length older ≡ k.base
  pub found_are : found ≡ older ++ k.entries
