-- Repairs, replacements and acquittals: the marks that suspects of solved cases get.
use Rattle.std.specs.Prelude.{ℕ, ◌++◌, ◌&&◌, ◌==◌, Bool, bytes_eq, List, [], ◌∷◌, map}
use Rattle.std.specs.Prelude.{if◌then◌else◌}
use Rattle.std.specs.List.{list_any}
use Rattle.fm_name.specs.Order.{is_under}
use Rattle.fm_entry.specs.declared.case_name.CaseName.{CaseName}
use Rattle.fm_entry.specs.declared.suspect.Mark.{Mark}
use Rattle.fm_entry.specs.declared.suspect.Suspect.{Suspect}
use Rattle.fm_entry.specs.declared.list_event.ListKind.{ListKind}
use Rattle.fm_entry.specs.declared.list_event.ListKind.TheVariants.{Updated}
use Rattle.fm_entry.specs.declared.list_event.ListKind.TheVariants.{Repaired as RepairedWord}
use Rattle.fm_entry.specs.declared.list_event.ListEvent.{ListEvent}
use Rattle.dx_state.specs.LawfulState.{is_present_suspect}
use Rattle.dx_step.specs.Turns.{Turn}

-- which suspects of a word a repair speaks of
abbrev pub Chosen : Type 0
Chosen = ListEvent → Suspect → Bool

-- those whose resource is at the path
abbrev pub is_at : List ℕ → Chosen
is_at path w s = bytes_eq s.path path

-- those whose resource is at the path or under it
abbrev pub is_at_or_under : List ℕ → Chosen
is_at_or_under path w s = is_under s.path path

-- those of a case of the module
abbrev pub is_of_case : CaseName → Chosen
is_of_case name w s = (w.case.module == name.module) && (w.case.case == name.case)

-- the suspect gets a mark: it is chosen, and still present
abbrev pub gets_mark : (Suspect → Bool) → Suspect → Bool
gets_mark chosen s = is_present_suspect s && chosen s

abbrev pub with_mark : (Suspect → Bool) → Mark → Suspect → Suspect
with_mark chosen mark s = if gets_mark chosen s then record s { mark = mark } else s

abbrev pub mark_all : (Suspect → Bool) → Mark → List Suspect → List Suspect
mark_all chosen mark ss = map (with_mark chosen mark) ss

-- some suspect is present
abbrev pub has_present : List Suspect → Bool
has_present ss = list_any is_present_suspect ss

abbrev pub kind_after : List Suspect → ListKind
kind_after ss = if has_present ss then Updated else RepairedWord

-- the word on a case of which some suspects got a mark at a time
abbrev pub word_after : ℕ → ListEvent → List Suspect → ListEvent
word_after time w ss = record w { kind = kind_after ss; moment = time; suspects = ss }

abbrev pub marked_word : ℕ → Chosen → Mark → ListEvent → ListEvent
marked_word time chosen mark w = word_after time w (mark_all (chosen w) mark w.suspects)

-- some suspect of the word gets a mark
abbrev pub is_marked_by : Chosen → ListEvent → Bool
is_marked_by chosen w = list_any (gets_mark (chosen w)) w.suspects

-- the last words of solved cases after a mark: a case of which no suspect is present any more is
-- repaired, and leaves
abbrev pub kept_if : Bool → ListEvent → List ListEvent
kept_if there w = if there then w ∷ [] else []

abbrev pub last_words : ℕ → Chosen → Mark → List ListEvent → List ListEvent
last_words time chosen mark [] = []
last_words time chosen mark (w ∷ ws) =
    (if is_marked_by chosen w
    then kept_if (has_present (marked_word time chosen mark w).suspects)
    (marked_word time chosen mark w)
    else w ∷ [])
    ++ last_words time chosen mark ws

-- what is said of those of which some suspect got a mark
abbrev pub mark_words : ℕ → Chosen → Mark → List ListEvent → List ListEvent
mark_words time chosen mark [] = []
mark_words time chosen mark (w ∷ ws) =
    kept_if (is_marked_by chosen w) (marked_word time chosen mark w)
    ++ mark_words time chosen mark ws

-- the suspects chosen that are present get the mark
unfoldable pub mark : Chosen → Mark → Turn → Turn
mark chosen m t = record t {
  state = record t.state { solved = last_words t.state.time chosen m t.state.solved };
  words = t.words ++ mark_words t.state.time chosen m t.state.solved;
}
