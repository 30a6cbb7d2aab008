-- What the front of some bytes reads as: words about cases, and records of them.
use Rattle.std.specs.Prelude.{ℕ, ◌^◌, ◌-◌, ◌==◌, ◌&&◌, Bool, true, false, nat_lt, nat_le, List, []}
use Rattle.std.specs.Prelude.{length, Option, Some, None, option_map, if◌then◌else◌}
use Rattle.fm_name.specs.declared.events.EventName.{EventName}
use Rattle.fm_bytes.specs.Reading.{Read, after, made, number_from, flag_from, counted_from}
use Rattle.fm_bytes.specs.Reading.{both_from, where_from, coded_from}
use Rattle.fm_entry.specs.Words.{links_ascend}
use Rattle.fm_entry.specs.WordBytes.{has_links}
use Rattle.fm_entry.specs.Reading.{class_from, path_from, moment_from, module_from, case_from}
use Rattle.fm_entry.specs.declared.broken.Broken.{Broken}
use Rattle.fm_entry.specs.declared.list_event.ListKind.{ListKind}
use Rattle.fm_entry.specs.declared.list_event.ListKind.TheVariants.{Suspect as SuspectKind, Upset}
use Rattle.fm_entry.specs.declared.list_event.ListKind.TheVariants.{Undiagnosable, Updated}
use Rattle.fm_entry.specs.declared.list_event.ListKind.TheVariants.{Repaired as RepairedKind}
use Rattle.fm_entry.specs.declared.suspect.Mark.{Mark}
use Rattle.fm_entry.specs.declared.suspect.Mark.TheVariants.{Present, Repaired as RepairedMark}
use Rattle.fm_entry.specs.declared.suspect.Mark.TheVariants.{Replaced as ReplacedMark, Acquitted}
use Rattle.fm_entry.specs.declared.suspect.Suspect.{Suspect}
use Rattle.fm_entry.specs.declared.list_event.ListEvent.{ListEvent}
use Rattle.fm_entry.specs.declared.spoken.Spoken.{Spoken}

-- one value, and another behind it that is read as the first tells
abbrev pub then_from : {A B : Type 0} → (List ℕ → Read A) → (A → List ℕ → Read B) → List ℕ
    → Read (A × B)
then_from first second bytes =
    after (first bytes) (λ x rest. after (second x rest) (λ y more. Some ((x, y), more)))

-- the kind that a number stands for
abbrev pub list_kind_of : ℕ → Option ListKind
list_kind_of n =
    if n == 1 then Some SuspectKind
    else (if n == 2 then Some Undiagnosable
    else (if n == 3 then Some Upset
    else (if n == 4 then Some Updated
    else (if n == 5 then Some RepairedKind
    else None))))

-- the mark that a number stands for
abbrev pub mark_of : ℕ → Option Mark
mark_of n =
    if n == 0 then Some Present
    else (if n == 1 then Some RepairedMark
    else (if n == 2 then Some ReplacedMark
    else (if n == 3 then Some Acquitted
    else None)))

-- the kind that the first byte of a word stands for, and whether broken links follow
abbrev pub head_of : ℕ → Option (ListKind × Bool)
head_of n =
    if nat_lt 8 n then option_map (λ kind. (kind, true)) (list_kind_of (n - 8))
    else option_map (λ kind. (kind, false)) (list_kind_of n)

-- the first byte of a word
unfoldable pub head_from : List ℕ → Read (ListKind × Bool)
head_from bytes = coded_from head_of bytes

-- a suspect's mark
unfoldable pub mark_from : List ℕ → Read Mark
mark_from bytes = coded_from mark_of bytes

-- an event
unfoldable pub event_from : List ℕ → Read EventName
event_from bytes = made (λ f. record { class = f.0; path = f.1 })
    (both_from class_from path_from bytes)

-- a certainty, in percent
unfoldable pub certainty_from : List ℕ → Read ℕ
certainty_from bytes = where_from (λ n. nat_le n 100) (number_from 1) bytes

-- a suspect
unfoldable pub suspect_from : List ℕ → Read Suspect
suspect_from bytes =
    made (λ f. record {
      class = f.0;
      path = f.1.0;
      certainty = f.1.1.0;
      retire = f.1.1.1.0;
      mark =
          f.1.1.1.1;
    })
    (both_from class_from
    (both_from path_from (both_from certainty_from (both_from flag_from mark_from))) bytes)

-- the number of the record's module, once more
unfoldable pub own_from : ℕ → List ℕ → Read ℕ
own_from own bytes = where_from (λ n. n == own) (number_from 4) bytes

-- a broken link
unfoldable pub link_from : List ℕ → Read Broken
link_from bytes =
    made (λ f. record { instance = f.0; effect = f.1 })
    (both_from (number_from 4) (number_from 4) bytes)

-- broken links, one or more, in order
unfoldable pub links_from : List ℕ → Read (List Broken)
links_from bytes =
    where_from (λ links. has_links links && links_ascend links) (counted_from 4 link_from) bytes

-- the broken links of a word that has some, or none
unfoldable pub broken_from : Bool → List ℕ → Read (List Broken)
broken_from marked bytes = if marked then links_from bytes else Some ([], bytes)

-- what follows the first byte of a word of a module
abbrev pub word_body_from : ℕ → Bool → List ℕ
    → Read (ℕ × (ℕ × (ℕ × (ℕ × (List EventName × (List Suspect × List Broken))))))
word_body_from own marked bytes =
    both_from (own_from own)
    (both_from case_from
    (both_from moment_from
    (both_from (number_from 4)
    (both_from (counted_from 4 event_from)
    (both_from (counted_from 4 suspect_from) (broken_from marked)))))) bytes

-- a word of a module
unfoldable pub word_from : ℕ → List ℕ → Read ListEvent
word_from own bytes =
    made (λ f. record {
      kind = f.0.0;
      case = record { «module» = f.1.0; case = f.1.1.0 };
      moment = f.1.1.1.0;
      conf = f.1.1.1.1.0;
      observed = f.1.1.1.1.1.0;
      suspects = f.1.1.1.1.1.1.0;
      broken = f.1.1.1.1.1.1.1;
    }) (then_from head_from (λ head. word_body_from own head.1) bytes)

-- the words of a module, one or more
abbrev pub words_from : ℕ → List ℕ → Read (List ListEvent)
words_from own bytes =
    where_from (λ words. nat_lt 0 (length words)) (counted_from 4 (word_from own)) bytes

-- a number of a record
unfoldable pub record_number_from : List ℕ → Read ℕ
record_number_from bytes = where_from (λ n. nat_lt n (2 ^ 46)) (number_from 8) bytes

-- a record of words spoken
unfoldable pub spoken_from : List ℕ → Read Spoken
spoken_from bytes =
    made (λ f. record { «module» = f.0; number = f.1.0; events = f.1.1 })
    (then_from module_from (λ own. both_from record_number_from (words_from own)) bytes)
