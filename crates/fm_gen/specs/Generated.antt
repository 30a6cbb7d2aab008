-- The entries that a number generates: the recurrence of its draws, and the reports and the tick
-- that are made of them.
use Rattle.std.specs.Prelude.{◌≡◌, ℕ, ◌+◌, ◌*◌, ◌/◌, ◌%◌, ◌^◌, zero, suc, Bool, true}
use Rattle.std.specs.Prelude.{◌&&◌, nat_le, IsTrue, List, [], ◌∷◌, ◌++◌, length, codes, flat_map}
use Rattle.std.specs.Prelude.{slice_get, Option, Some, None}
use Rattle.std.specs.List.{list_all}
use Rattle.fm_name.specs.Category.{is_ereport}
use Rattle.fm_name.specs.declared.events.EventName.{EventName}
use Rattle.fm_nv.specs.Data.{no_pairs}
use Rattle.fm_entry.specs.Entries.{moment_of}
use Rattle.fm_entry.specs.declared.entry.Entry.{Entry}
use Rattle.fm_entry.specs.declared.entry.Entry.TheVariants.{Report, Tick}
use Rattle.fm_line.specs.Printed.{line_text}

-- the state of the generator after a draw
unfoldable pub drawn : ℕ → ℕ
drawn x = (x * 6364136223846793005 + 1442695040888963407) % 2 ^ 64

-- the number that a draw gives: the high bits of the state that it leaves
abbrev pub draw_of : ℕ → ℕ
draw_of x = x / 2 ^ 33

-- the event that a number picks among some reports
abbrev pub picked : List EventName → ℕ → Option EventName
picked reports n = slice_get reports (n % length reports)

-- the report of an event at a moment, without a payload
abbrev pub report_of : Option EventName → ℕ → List Entry
report_of (Some event) moment = Report event.class event.path moment no_pairs ∷ []
report_of None moment = []

-- The entries of some turns, from a state and a moment on. In each turn the first draw picks the
-- event, and the second draw, modulo two seconds, is added to the moment. After the last turn comes
-- a tick, 2 ^ 50 nanoseconds later.
unfoldable pub entries_from : List EventName → ℕ → ℕ → ℕ → List Entry
entries_from reports zero x moment = Tick (moment + 2 ^ 50) ∷ []
entries_from reports (suc turns) x moment =
    let after = drawn (drawn x) in
    let later = moment + draw_of after % 2000000000 in
    report_of (picked reports (draw_of (drawn x))) later
    ++ entries_from reports turns after later

-- there are 1,200 turns, and none where there is nothing to report
abbrev pub turns_of : List EventName → ℕ
turns_of [] = 0
turns_of (event ∷ events) = 1200

-- the entries that a number generates, from a moment on
abbrev pub generated : ℕ → ℕ → List EventName → List Entry
generated seed start reports = entries_from reports (turns_of reports) seed start

-- events that detectors report
abbrev pub are_ereports : List EventName → Bool
are_ereports reports = list_all (λ event. is_ereport event.class) reports

-- moments that do not fall, from one moment on
abbrev pub rises_from : ℕ → List Entry → Bool
rises_from moment [] = true
rises_from moment (entry ∷ entries) =
    nat_le moment (moment_of entry) && rises_from (moment_of entry) entries

-- What is generated: a report in each turn and the tick, at moments that do not fall.
pub record IsGenerated (seed start : ℕ) (reports : List EventName) : Type 0 where
  pub as_many : length (generated seed start reports) ≡ turns_of reports + 1
  pub rises : IsTrue (rises_from start (generated seed start reports))

-- the lines of entries, each with its newline
unfoldable pub lines_text : List Entry → List ℕ
lines_text entries = flat_map (λ entry. line_text entry ++ codes "\n") entries
