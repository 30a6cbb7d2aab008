-- The core as contracts see it: what shows of its hands, and the book that it stands for.
use Rattle.std.specs.Prelude.{◌≡◌, ℕ, ◌+◌, ◌-◌, ◌<◌, ◌≤◌, ◌^◌, List, ◌++◌, map, length, All}
use Rattle.std.specs.Prelude.{slice_get, slice_set, Some}
use Rattle.std.specs.Option.{ForSome}
use Rattle.fm_entry.specs.declared.entry.Entry.{Entry}
use Rattle.fm_entry.specs.declared.spoken.Spoken.{Spoken}
use Rattle.fm_entry.specs.Entries.{IsSpelled}
use Rattle.fm_core.specs.declared.module.Module.{Ghosts}
use Rattle.fm_core.specs.Meaning.{says_of}
use Rattle.fm_core.specs.Hands.{HandOf, Shown, shown, stepped}
use Rattle.fm_core.specs.Folds.{records_at}
use Rattle.fm_core.specs.Book.{ModuleState, Book, next_number, state_at, floor_of, IsLawful}
use Rattle.fm_core.specs.Book.{with_entries}
use Rattle.fm_core.specs.Records.{of_module}
use Rattle.fm_core.specs.Drained.{Ended, drained}

-- a core: the number of its first entry, a hand of each module there, the entries accepted since,
-- the hands as they have come on, and what was spoken
pub record CoreOf (M : Type 0) : Type 0 where
  pub base : ℕ
  pub kept : List (HandOf M)
  pub entries : List Entry
  pub hands : List (HandOf M)
  pub records : List Spoken

-- the entries of a core have spellings, and there are no more than numbers below 2^46 allow
pub record AreFew (base : ℕ) (entries : List Entry) : Type 0 where
  pub spelled : All IsSpelled entries
  pub few : length entries ≤ 2 ^ 46 - base

-- what shows of a core: all but how the objects are made inside
pub record Seen : Type 0 where
  pub base : ℕ
  pub kept : List Shown
  pub entries : List Entry
  pub hands : List Shown
  pub records : List Spoken

abbrev pub seen : {M : Type 0} → Ghosts M → CoreOf M → Seen
seen g c =
    record {
      base = c.base;
      kept = map (shown g) c.kept;
      entries = c.entries;
      hands = map (shown g) c.hands;
      records = c.records;
    }

-- a hand at the base, as a module of the book
abbrev pub module_state : Shown → ModuleState
module_state h = record { meaning = h.meaning; state = h.state }

-- the book that a core stands for
abbrev pub book_of : Seen → Book
book_of c =
    record {
      base = c.base;
      moment = 0;
      modules = map module_state c.kept;
      entries = c.entries;
      cursors = map (λ h. h.cursor) c.hands;
      records = c.records;
    }

abbrev pub stands_for : {M : Type 0} → Ghosts M → CoreOf M → Book
stands_for g c = book_of (seen g c)

-- A hand follows a book as its module i, the one at the place i: it bears that number, which is the
-- module's own, and is made alike, its cursor lies between the base and the end, and its state is
-- that of the entries below the cursor.
pub record Follows (k : Book) (i : ℕ) (p : ModuleState) (h : Shown) : Type 0 where
  pub number_is : h.number ≡ i
  pub own_is : p.meaning.own ≡ i
  pub meaning_is : h.meaning ≡ p.meaning
  pub from_base : k.base ≤ h.cursor
  pub to_end : h.cursor ≤ next_number k
  pub folds : h.state ≡ state_at k p h.cursor

-- a hand follows a book as its module i, if it has one
abbrev pub FollowsAs : Book → ℕ → Shown → Type 0
FollowsAs k i h = (p : ModuleState) → slice_get k.modules i ≡ Some p → Follows k i p h

-- a hand follows a book, which has a module of its number
abbrev pub FollowsBook : Book → Shown → Type 0
FollowsBook k h = (p : ModuleState) × (slice_get k.modules h.number ≡ Some p)
    × Follows k h.number p h

-- A hand follows a book on: also after more entries, and where it takes the entry at its cursor.
pub record FollowsOn (k : Book) (h : Shown) : Type 0 where
  pub longer : (es : List Entry) → FollowsBook (with_entries k es) h
  pub steps : (e : Entry) → slice_get k.entries (h.cursor - k.base) ≡ Some e
      → FollowsBook k (stepped h e)

-- a core in order: its book is lawful, and each hand follows it
pub record IsCore (c : Seen) : Type 0 where
  pub lawful : IsLawful (book_of c)
  pub follows : (i : ℕ) (h : Shown) → slice_get c.hands i ≡ Some h → FollowsAs (book_of c) i h

-- A hand that may be put in place of that of module i: it follows the book as that module, has
-- taken every entry at which the module spoke, and no more than the module's own hand has taken.
pub record MayFall (c : Seen) (i : ℕ) (h : Shown) : Type 0 where
  pub follows : FollowsAs (book_of c) i h
  pub above : floor_of (book_of c) i ≤ h.cursor
  pub below : ForSome (slice_get c.hands i) (λ own. h.cursor ≤ own.cursor)

-- a hand of module i that has taken nothing past the base
pub record IsFresh (base i : ℕ) (h : Shown) : Type 0 where
  pub number_is : h.number ≡ i
  pub own_is : h.meaning.own ≡ i
  pub cursor_is : h.cursor ≡ base

-- hands at the base that are numbered from 0
abbrev pub AreFresh : ℕ → List Shown → Type 0
AreFresh base hands = (i : ℕ) (h : Shown) → slice_get hands i ≡ Some h → IsFresh base i h

-- what a hand speaks as it takes an entry: no record or one
abbrev pub speech : Shown → Entry → List Spoken
speech h e = records_at h.number h.cursor (says_of h.meaning h.state h.cursor e)

-- the core after its hand i took an entry
abbrev pub with_step : Seen → ℕ → Shown → Entry → Seen
with_step c i h e =
    record c { hands = slice_set c.hands i (stepped h e); records = c.records ++ speech h e }

-- One core became another by work alone: it is in order, has the same entries and modules, drains
-- to the same, also after more entries, and what was spoken since stands behind the records.
pub record OnlyWorked (old new : Seen) : Type 0 where
  pub lawful : IsCore new
  pub base_same : new.base ≡ old.base
  pub entries_same : new.entries ≡ old.entries
  pub modules_same : (book_of new).modules ≡ (book_of old).modules
  pub as_many_same : length new.hands ≡ length old.hands
  pub drains_same : (more : List Entry)
      → drained (with_entries (book_of new) more) ≡ drained (with_entries (book_of old) more)
  pub records_grow : (said : List Spoken) × (new.records ≡ old.records ++ said)

-- what each module of a core has come to: the state of its hand, and what was spoken of it
abbrev pub modules_now : Seen → List Ended
modules_now c = map (λ h. record { state = h.state; words = of_module h.number c.records }) c.hands

-- the cursor of module i is c
abbrev pub HasComeTo : Seen → ℕ → ℕ → Type 0
HasComeTo c i n = slice_get (book_of c).cursors i ≡ Some n

-- each of the first k modules has taken the first n entries
abbrev pub FirstPassed : Seen → ℕ → ℕ → Type 0
FirstPassed c k n = (j d : ℕ) → j < k → slice_get (book_of c).cursors j ≡ Some d → c.base + n ≤ d

-- each module has taken the first n entries
abbrev pub HavePassed : Seen → ℕ → Type 0
HavePassed c n = (j d : ℕ) → slice_get (book_of c).cursors j ≡ Some d → c.base + n ≤ d

-- where each module had taken the first n entries, and there is one more, each has taken that too
abbrev pub ComeOn : Seen → Seen → Type 0
ComeOn old new = (n : ℕ) → n < length old.entries → HavePassed old n → HavePassed new (n + 1)
