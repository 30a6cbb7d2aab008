-- The bytes that spell a record of words spoken.
use Rattle.std.specs.Prelude.{ℕ, ◌+◌, ◌∷◌, ◌++◌, [], Bool, nat_lt, List, length, if◌then◌else◌}
use Rattle.fm_bytes.specs.Numbers.{u32_bytes, u64_bytes, short_text, counted_bytes}
use Rattle.fm_name.specs.declared.events.EventName.{EventName}
use Rattle.fm_entry.specs.declared.broken.Broken.{Broken}
use Rattle.fm_entry.specs.declared.list_event.ListKind.{ListKind}
use Rattle.fm_entry.specs.declared.list_event.ListKind.TheVariants.{Suspect as SuspectKind}
use Rattle.fm_entry.specs.declared.list_event.ListKind.TheVariants.{Undiagnosable, Upset, Updated}
use Rattle.fm_entry.specs.declared.list_event.ListKind.TheVariants.{Repaired as RepairedKind}
use Rattle.fm_entry.specs.declared.suspect.Mark.{Mark}
use Rattle.fm_entry.specs.declared.suspect.Mark.TheVariants.{Present, Repaired, Replaced, Acquitted}
use Rattle.fm_entry.specs.declared.suspect.Suspect.{Suspect}
use Rattle.fm_entry.specs.declared.list_event.ListEvent.{ListEvent}
use Rattle.fm_entry.specs.declared.spoken.Spoken.{Spoken}

-- the number of a word's kind
abbrev pub kind_byte : ListKind → ℕ
kind_byte SuspectKind = 1
kind_byte Undiagnosable = 2
kind_byte Upset = 3
kind_byte Updated = 4
kind_byte RepairedKind = 5

-- the byte of a suspect's mark
abbrev pub mark_byte : Mark → ℕ
mark_byte Present = 0
mark_byte Repaired = 1
mark_byte Replaced = 2
mark_byte Acquitted = 3

-- an event: its class and its path
abbrev pub event_bytes : EventName → List ℕ
event_bytes event = short_text event.class ++ short_text event.path

-- a suspect: its class, its path, the certainty, whether it is to be retired, and the mark
abbrev pub suspect_bytes : Suspect → List ℕ
suspect_bytes suspect =
    short_text suspect.class
    ++ (short_text suspect.path
    ++ (suspect.certainty ∷ []
    ++ ((if suspect.retire then 1 else 0) ∷ [] ++ mark_byte suspect.mark ∷ [])))

-- a broken link: the instance and the effect
abbrev pub link_bytes : Broken → List ℕ
link_bytes link = u32_bytes link.instance ++ u32_bytes link.effect

-- some links are there
abbrev pub has_links : List Broken → Bool
has_links links = nat_lt 0 (length links)

-- the links of a word, where it has any
abbrev pub broken_bytes : List Broken → List ℕ
broken_bytes links = if has_links links then counted_bytes 4 link_bytes links else []

-- the first byte of a word: the number of its kind, and 8 more where it has broken links
abbrev pub head_byte : ListKind → Bool → ℕ
head_byte kind marked = if marked then 8 + kind_byte kind else kind_byte kind

-- a word: its first byte, the module and the number of its case, the moment, the configuration, the
-- events, the suspects, and the broken links
abbrev pub word_bytes : ListEvent → List ℕ
word_bytes word =
    head_byte word.kind (has_links word.broken) ∷ []
    ++ (u32_bytes word.case.module
    ++ (u64_bytes word.case.case
    ++ (u64_bytes word.moment
    ++ (u32_bytes word.conf
    ++ (counted_bytes 4 event_bytes word.observed
    ++ (counted_bytes 4 suspect_bytes word.suspects ++ broken_bytes word.broken))))))

-- a record: the module, the number, and the words
abbrev pub spoken_bytes : Spoken → List ℕ
spoken_bytes spoken =
    u32_bytes spoken.module ++ (u64_bytes spoken.number ++ counted_bytes 4 word_bytes spoken.events)
