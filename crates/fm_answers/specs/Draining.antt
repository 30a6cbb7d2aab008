-- A core of two counters, and how it is drained.
use Rattle.std.specs.Prelude.{◌≡◌, ℕ, ◌+◌, [], map, length}
use Rattle.fm_core.specs.Book.{Book}
use Rattle.fm_core.specs.Counter.{CounterOf, counters}
use Rattle.fm_core.specs.Hands.{HandOf}
use Rattle.fm_core.specs.Seen.{CoreOf, seen, stands_for, IsCore}

-- the book that a core of counters stands for
abbrev pub core_book : CoreOf CounterOf → Book
core_book c = stands_for counters c

-- a core of counters whose book is lawful and whose hands follow it
abbrev pub IsInOrder : CoreOf CounterOf → Type 0
IsInOrder c = IsCore (seen counters c)

-- a hand of a counter, at a place
abbrev pub hand_at : ℕ → CounterOf → HandOf CounterOf
hand_at place counter = record { number = counter.number; cursor = place; object = counter }

-- a hand of a counter that is put at a place
abbrev pub moved_to : ℕ → HandOf CounterOf → HandOf CounterOf
moved_to place hand = hand_at place hand.object

-- A core begins where another ends: with the two counters as they are there, before any entry.
pub record IsNext (core next : CoreOf CounterOf) : Type 0 where
  pub base_is : next.base ≡ core.base + length core.entries
  pub kept_is : next.kept ≡ map (moved_to (core.base + length core.entries)) core.hands
  pub hands_is : next.hands ≡ map (moved_to (core.base + length core.entries)) core.hands
  pub entries_none : next.entries ≡ []
  pub records_none : next.records ≡ []
