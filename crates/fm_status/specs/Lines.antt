-- Pieces of lines that printed texts share: events, and suspects.
use Rattle.std.specs.Prelude.{ℕ, ◌-◌, Bool, true, false, List, [], ◌++◌, length, replicate, codes}
use Rattle.std.specs.Prelude.{decimal}
use Rattle.fm_entry.specs.declared.suspect.Suspect.{Suspect}
use Rattle.fm_entry.specs.declared.suspect.Mark.{Mark}
use Rattle.fm_entry.specs.declared.suspect.Mark.TheVariants as mark

-- an event: its class and its path
abbrev pub event_text : List ℕ → List ℕ → List ℕ
event_text class path = class ++ (codes " " ++ path)

-- digits at the right of three places
abbrev pub in_three_places : List ℕ → List ℕ
in_three_places digits = replicate (3 - length digits) 32 ++ digits

-- what became of a suspect
abbrev pub mark_text : Mark → List ℕ
mark_text mark.Present = codes "present"
mark_text mark.Repaired = codes "repaired"
mark_text mark.Replaced = codes "replaced"
mark_text mark.Acquitted = codes "acquitted"

-- what stands where the resource is to be retired
abbrev pub retire_text : Bool → List ℕ
retire_text true = codes " retire"
retire_text false = []

-- a certainty at the head of a line
abbrev pub certainty_part : ℕ → List ℕ
certainty_part certainty =
    codes "  " ++ (in_three_places (decimal certainty) ++ codes "% ")

-- a mark at the end of a line, and whether the resource is to be retired
abbrev pub mark_part : Mark → Bool → List ℕ
mark_part mark retire = codes " " ++ (mark_text mark ++ (retire_text retire ++ codes "\n"))

-- the line of a suspect: its certainty, its event, its mark, and whether it is to be retired
unfoldable pub suspect_line : Suspect → List ℕ
suspect_line suspect =
    certainty_part suspect.certainty
    ++ (event_text suspect.class suspect.path ++ mark_part suspect.mark suspect.retire)
