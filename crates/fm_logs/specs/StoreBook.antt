-- The book of a store: the core's book with the list of configurations and the number in force at
-- the base.
use Rattle.std.specs.Prelude.{◌≡◌, ℕ, ◌<◌, ◌≤◌, List, [], ◌∷◌, length, slice_get, Some}
use Rattle.std.specs.Option.{ForSome}
use Rattle.fm_core.specs.Book.{Book, ModuleState, IsLawful, accepted, floored}
use Rattle.fm_core.specs.Meaning.{conf_of}
use Rattle.fm_entry.specs.declared.entry.Entry.{Entry}
use Rattle.fm_entry.specs.declared.entry.Entry.TheVariants.{Reload}
use Rattle.fm_saved.specs.declared.conf.Conf.{Conf}

pub record StoreBook : Type 0 where
  pub book : Book
  pub confs : List Conf
  pub in_force : ℕ

-- the number in force after entries: that of the last Reload among them, else the one before
abbrev pub force_along : ℕ → List Entry → ℕ
force_along n [] = n
force_along n (Reload conf moment ∷ es) = force_along conf es
force_along n (_ ∷ es) = force_along n es

-- the number now in force
abbrev pub force_now : StoreBook → ℕ
force_now k = force_along k.in_force k.book.entries

-- each Reload names a number above the one in force before it, and below so many
abbrev pub ReloadsRise : ℕ → ℕ → List Entry → Type 0
ReloadsRise known n [] = Unit {0}
ReloadsRise known n (Reload conf moment ∷ es) =
    (n < conf) × (conf < known) × ReloadsRise known conf es
ReloadsRise known n (_ ∷ es) = ReloadsRise known n es

-- two configurations of one namespace and one number of rule files
pub record AreOfOneStore (one other : Conf) : Type 0 where
  pub same_namespace : one.namespace ≡ other.namespace
  pub same_count : length one.rules ≡ length other.rules

-- all are of one store
abbrev pub AreConfs : List Conf → Type 0
AreConfs confs = (first : Conf) (i : ℕ) (conf : Conf) → slice_get confs 0 ≡ Some first
    → slice_get confs i ≡ Some conf → AreOfOneStore first conf

-- the state of each module that has a configuration has the one of this number
abbrev pub HaveConf : ℕ → List ModuleState → Type 0
HaveConf n modules = (i : ℕ) (p : ModuleState) → slice_get modules i ≡ Some p
    → ForSome (conf_of p.meaning p.state) (λ conf. conf ≡ n)

-- the book is lawful, with its configurations
pub record IsLawfulStore (k : StoreBook) : Type 0 where
  pub some_confs : 1 ≤ length k.confs
  pub few_confs : length k.confs ≤ 16
  pub confs_are : AreConfs k.confs
  pub known : k.in_force < length k.confs
  pub of_conf : HaveConf k.in_force k.book.modules
  pub reloads : ReloadsRise (length k.confs) k.in_force k.book.entries
  pub lawful : IsLawful k.book

-- the same with another core's book
abbrev pub with_book : StoreBook → Book → StoreBook
with_book k book = record k { book = book }

-- an entry is accepted
abbrev pub store_accepted : StoreBook → Entry → StoreBook
store_accepted k e = with_book k (accepted k.book e)

-- each module falls to its floor, as it does where a store is opened again
abbrev pub store_floored : StoreBook → StoreBook
store_floored k = with_book k (floored k.book)
