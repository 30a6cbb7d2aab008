-- The lines of entries: which are kept, and the text of each.
use Rattle.std.specs.Prelude.{ℕ, ◌+◌, ◌==◌, ◌&&◌, Bool, true, false, List, [], ◌∷◌, ◌++◌}
use Rattle.std.specs.Prelude.{Option, Some, None, codes, decimal, if◌then◌else◌}
use Rattle.fm_name.specs.Pattern.{pattern_matches}
use Rattle.fm_nv.specs.Data as nv
use Rattle.fm_text.specs.Time.{time_text}
use Rattle.fm_entry.specs.CaseText.{case_text}
use Rattle.fm_entry.specs.Entries.{moment_of}
use Rattle.fm_entry.specs.declared.entry.Entry.{Entry}
use Rattle.fm_entry.specs.declared.entry.Entry.TheVariants.{Report, Tick, Repaired, Replaced}
use Rattle.fm_entry.specs.declared.entry.Entry.TheVariants.{Acquit, Reload}
use Rattle.fm_line.specs.Printed.{payload_text}
use Rattle.fm_dump.specs.Kept.{is_between}
use Rattle.fm_status.specs.Lines.{event_text}
use Rattle.fm_dump.specs.declared.options.DumpOptions.{DumpOptions}

-- of a pattern, the reports whose class it matches, and no other entry
abbrev pub has_class : Option (List ℕ) → Entry → Bool
has_class None entry = true
has_class (Some pattern) (Report class path moment payload) = pattern_matches pattern class
has_class (Some pattern) _ = false

-- the options keep an entry
abbrev pub keeps_entry : DumpOptions → Entry → Bool
keeps_entry options entry =
    is_between options.from options.to (moment_of entry) && has_class options.class entry

-- what stands behind the moment
abbrev pub entry_words : Entry → List ℕ
entry_words (Report class path moment payload) = event_text class path
entry_words (Tick moment) = codes "tick"
entry_words (Repaired path moment) = codes "repaired " ++ path
entry_words (Replaced path moment) = codes "replaced " ++ path
entry_words (Acquit case moment) = codes "acquit " ++ case_text case
entry_words (Reload conf moment) = codes "reload " ++ decimal conf

-- the line of an entry: its number, its moment, and what it is
abbrev pub entry_line : ℕ → Entry → List ℕ
entry_line number entry = decimal number ++ (codes " " ++ (time_text (moment_of entry)
    ++ (codes " " ++ (entry_words entry ++ 10 ∷ []))))

-- the line of a payload that is not empty
abbrev pub payload_line : Entry → List ℕ
payload_line (Report class path moment payload) =
    if nv.count payload == 0 then [] else codes "  payload " ++ (payload_text payload ++ 10 ∷ [])
payload_line _ = []

-- what is written of an entry, with its payload where the options ask for it
abbrev pub entry_lines : Bool → ℕ → Entry → List ℕ
entry_lines full number entry =
    entry_line number entry ++ (if full then payload_line entry else [])

-- what is written of an entry, where the options keep it
abbrev pub kept_entry : DumpOptions → ℕ → Entry → List ℕ
kept_entry options number entry =
    if keeps_entry options entry then entry_lines options.full number entry else []

-- what is written of entries, of which the first has this number
unfoldable pub errors_text : DumpOptions → ℕ → List Entry → List ℕ
errors_text options number [] = []
errors_text options number (entry ∷ entries) =
    kept_entry options number entry ++ errors_text options (number + 1) entries
