-- The lines of words about cases: which are kept, and the text of each.
use Rattle.std.specs.Prelude.{ℕ, ◌&&◌, Bool, true, List, [], ◌++◌, flat_map, Option, Some, None}
use Rattle.std.specs.Prelude.{codes, if◌then◌else◌}
use Rattle.std.specs.Str.{bytes_eq}
use Rattle.uuid.specs.Text.{hyphenated_text, lower}
use Rattle.fm_name.specs.Pattern.{pattern_matches}
use Rattle.fm_name.specs.declared.events.EventName.{EventName}
use Rattle.fm_text.specs.Time.{time_text}
use Rattle.fm_entry.specs.CaseText.{case_text}
use Rattle.fm_entry.specs.declared.case_name.CaseName.{CaseName}
use Rattle.fm_entry.specs.declared.list_event.ListEvent.{ListEvent}
use Rattle.fm_entry.specs.declared.list_event.ListKind.{ListKind}
use Rattle.fm_entry.specs.declared.list_event.ListKind.TheVariants as kind
use Rattle.fm_entry.specs.declared.spoken.Spoken.{Spoken}
use Rattle.fm_status.specs.Lines.{event_text, suspect_line}
use Rattle.fm_status.specs.Names.{case_uuid}
use Rattle.fm_dump.specs.Kept.{is_between}
use Rattle.fm_dump.specs.declared.options.DumpOptions.{DumpOptions}

-- the class of a word, by its kind
abbrev pub kind_class : ListKind → List ℕ
kind_class kind.Suspect = codes "list.suspect"
kind_class kind.Undiagnosable = codes "list.undiagnosable"
kind_class kind.Upset = codes "list.upset"
kind_class kind.Updated = codes "list.updated"
kind_class kind.Repaired = codes "list.repaired"

-- of a pattern, the words whose class it matches
abbrev pub matches_kind : Option (List ℕ) → ListKind → Bool
matches_kind None kind = true
matches_kind (Some pattern) kind = pattern_matches pattern (kind_class kind)

-- of a UUID, the words about the case that has it
abbrev pub is_about : Option (List ℕ) → List ℕ → CaseName → Bool
is_about None namespace case = true
is_about (Some uuid) namespace case = bytes_eq (case_uuid namespace case) uuid

-- the options keep a word
abbrev pub keeps_word : DumpOptions → List ℕ → ListEvent → Bool
keeps_word options namespace word = is_between options.from options.to word.moment
    && (matches_kind options.class word.kind && is_about options.case namespace word.case)

-- the UUID of a case behind a space
abbrev pub uuid_part : List ℕ → CaseName → List ℕ
uuid_part namespace case = codes " " ++ hyphenated_text lower (case_uuid namespace case)

-- a class and a case at the end of a line
abbrev pub case_part : ListKind → CaseName → List ℕ
case_part kind case =
    codes " " ++ (kind_class kind ++ (codes " " ++ (case_text case ++ codes "\n")))

-- the line of a word: its moment, its case's UUID, its class and its case
unfoldable pub word_line : List ℕ → ListEvent → List ℕ
word_line namespace word =
    time_text word.moment ++ (uuid_part namespace word.case ++ case_part word.kind word.case)

-- the line of an event that was observed
unfoldable pub observed_line : EventName → List ℕ
observed_line event = codes "  observed " ++ (event_text event.class event.path ++ codes "\n")

-- what was observed, and who is suspected
abbrev pub word_parts : ListEvent → List ℕ
word_parts word = flat_map observed_line word.observed ++ flat_map suspect_line word.suspects

-- what is written of a word, with its parts where the options ask for them
abbrev pub word_lines : Bool → List ℕ → ListEvent → List ℕ
word_lines full namespace word =
    word_line namespace word ++ (if full then word_parts word else [])

-- what is written of a word, where the options keep it
abbrev pub kept_lines : DumpOptions → List ℕ → ListEvent → List ℕ
kept_lines options namespace word =
    if keeps_word options namespace word then word_lines options.full namespace word else []

-- what is written of a record
abbrev pub spoken_text : DumpOptions → List ℕ → Spoken → List ℕ
spoken_text options namespace spoken = flat_map (kept_lines options namespace) spoken.events

-- what is written of records, in their order
abbrev pub faults_text : DumpOptions → List ℕ → List Spoken → List ℕ
faults_text options namespace spoken = flat_map (spoken_text options namespace) spoken
