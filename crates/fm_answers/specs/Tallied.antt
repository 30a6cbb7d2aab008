-- What becomes of a tally that takes entries.
use Rattle.std.specs.Prelude.{◌≡◌, ℕ, ◌+◌, ◌*◌, ◌≤◌, ◌^◌, List, [], ◌++◌, length, Option, None}
use Rattle.std.specs.Prelude.{Some}
use Rattle.fm_core.specs.Book.{with_entries}
use Rattle.fm_core.specs.Drained.{Drained, drained}
use Rattle.fm_core.specs.declared.class_count.ClassCount.{ClassCount}
use Rattle.fm_entry.specs.declared.entry.Entry.{Entry}
use Rattle.fm_journal.specs.declared.fault.FullKind.TheVariants.{Numbers}
use Rattle.fm_answers.specs.Draining.{core_book, IsInOrder}
use Rattle.fm_answers.specs.Replaying.{spoken_by, first_counts, summary_text}
use Rattle.fm_answers.specs.declared.stops.Stop.{Stop}
use Rattle.fm_answers.specs.declared.stops.Stop.TheVariants.{Full}
use Rattle.fm_answers.specs.declared.tally.Tally.{Tally}

-- what two counters come to: how many entries there were, how many records they spoke, and what the
-- first counted
pub record Sum : Type 0 where
  pub entries : ℕ
  pub spoken : ℕ
  pub counts : List ClassCount

-- that of a drained book, before which so many records were spoken
abbrev pub sum_of : ℕ → Drained → Sum
sum_of before d = record {
  entries = d.count;
  spoken = before + spoken_by d.modules;
  counts =
      first_counts d.modules;
}

-- what is put of it
abbrev pub sum_text : Sum → List ℕ
sum_text s = summary_text s.entries s.spoken s.counts

-- what a tally comes to after these further entries
abbrev pub sum_with : Tally → List Entry → Sum
sum_with t more = sum_of t.spoken (drained (with_entries (core_book t.core) more))

-- how many entries a tally has taken
abbrev pub entry_count : Tally → ℕ
entry_count t = t.core.base + length t.core.entries

-- why an entry was refused: there are 2^46
abbrev pub TallyLast : ℕ → Option (Stop × Entry) → Type 0
TallyLast count None = Unit {0}
TallyLast count (Some (Full Numbers, entry)) = 2 ^ 46 ≤ count
TallyLast count _ = ⊥

-- These entries were taken, and then perhaps one was refused: whatever entries follow, the tally
-- comes to what it would have come to from before with these in front of them.
pub record Tallied (old new : Tally) (entries : List Entry) (last : Option (Stop × Entry)) : Type 0
  where
    pub same : (more : List Entry) → sum_with new more ≡ sum_with old (entries ++ more)
    pub refused : TallyLast (entry_count new) last

-- A tally in order: its core is, with two modules, there are no more entries than have numbers, and
-- no more than two records were spoken at each.
pub record IsTally (t : Tally) : Type 0 where
  pub order : IsInOrder t.core
  pub two : length t.core.hands ≡ 2
  pub numbered : entry_count t ≤ 2 ^ 46
  pub few : (sum_with t []).spoken ≤ 2 * entry_count t
