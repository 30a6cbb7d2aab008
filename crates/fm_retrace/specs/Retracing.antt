-- Modules that take the entries from the base on again, as far as the records of a log tell that
-- they had come.
use Rattle.std.specs.Prelude.{◌≡◌, ℕ, ◌+◌, ◌-◌, ◌≤◌, max, List, [], ◌∷◌, length, map, take}
use Rattle.std.specs.Prelude.{drop, slice_get, Some}
use Rattle.std.specs.List.{AllByRecursion}
use Rattle.fm_core.specs.Book.{Book, ModuleState, IsLawful, floored, state_at}
use Rattle.fm_core.specs.Folds.{words_along}
use Rattle.fm_core.specs.Hands.{HandOf}
use Rattle.fm_core.specs.Meaning.{Meaning, State}
use Rattle.fm_core.specs.Records.{of_module, numbered_from, past_all}
use Rattle.fm_core.specs.declared.module.Module.{Ghosts}
use Rattle.fm_entry.specs.declared.entry.Entry.{Entry}
use Rattle.fm_entry.specs.declared.spoken.Spoken.{Spoken}
use Rattle.fm_retrace.specs.declared.retraced.Retraced.{Retraced}

-- The modules of the book say just these records along its entries, up to their floors: with these
-- records, and each module at its floor, the book is lawful.
abbrev pub SayRecords : Book → List Spoken → Type 0
SayRecords k records = IsLawful (floored (record k { records = records }))

-- the entries whose numbers are `low` and up, and below `high`, of those from the base on
abbrev pub entries_between : ℕ → ℕ → ℕ → List Entry → List Entry
entries_between base low high entries = take (high - low) (drop (low - base) entries)

-- What a module of this meaning says next is just the record, where it last spoke below the number
-- `past`, and `s` is its state at its floor, which is there or at the base. The record's number is
-- not below that, there is such an entry or it is from before the base, and along the entries up to
-- it the module says nothing else from the base on.
pub record SaysNext (base : ℕ) (entries : List Entry) (m : Meaning) (s : State) (past : ℕ)
    (next : Spoken) : Type 0 where
  pub rises : past ≤ next.number
  pub inside : max base (next.number + 1) ≤ base + length entries
  pub says : words_along m s (max base past)
      (entries_between base (max base past) (max base (next.number + 1)) entries)
      ≡ numbered_from base (next ∷ [])

-- The object has come to the floor of module i of a book with these records: `past` is one past the
-- last number that it spoke at, or 0.
pub record HasRetraced {M : Type 0} (g : Ghosts M) (k : Book) (records : List Spoken) (i : ℕ)
    (p : ModuleState) (own : Retraced M) : Type 0 where
  pub meaning_is : g.meaning own.object ≡ p.meaning
  pub past_is : own.past ≡ past_all 0 (of_module i records)
  pub state_is : g.state own.object ≡ state_at k p (max k.base own.past)

-- each has
pub record HaveRetraced {M : Type 0} (g : Ghosts M) (k : Book) (records : List Spoken)
    (modules : List (Retraced M)) : Type 0 where
  pub as_many : length modules ≡ length k.modules
  pub each : (i : ℕ) (p : ModuleState) (own : Retraced M) → slice_get k.modules i ≡ Some p
      → slice_get modules i ≡ Some own → HasRetraced g k records i p own

-- the book has these entries from this base on
pub record IsBookOf (base : ℕ) (entries : List Entry) (k : Book) : Type 0 where
  pub base_is : k.base ≡ base
  pub entries_are : k.entries ≡ entries

-- the meanings of the objects
abbrev pub meanings_of : {M : Type 0} → Ghosts M → List (Retraced M) → List Meaning
meanings_of g modules = map (λ own. g.meaning own.object) modules

-- each meaning is that of the module with the number of its place
abbrev pub AreNumbered : List Meaning → Type 0
AreNumbered meanings = (i : ℕ) (m : Meaning) → slice_get meanings i ≡ Some m → m.own ≡ i

-- no module has spoken past this number
abbrev pub AreWithin : {M : Type 0} → ℕ → List (Retraced M) → Type 0
AreWithin end modules = AllByRecursion (λ own. own.past ≤ end) modules

-- how far each module has come
abbrev pub cursors_of : {M : Type 0} → ℕ → List (Retraced M) → List ℕ
cursors_of base modules = map (λ own. max base own.past) modules

-- the hands of the modules, numbered from n
abbrev pub hands_from : {M : Type 0} → ℕ → ℕ → List (Retraced M) → List (HandOf M)
hands_from base n [] = []
hands_from base n (own ∷ modules) =
    record { number = n; cursor = max base own.past; object = own.object }
    ∷ hands_from base (n + 1) modules
