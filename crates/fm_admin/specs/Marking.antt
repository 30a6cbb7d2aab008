-- What an operator's word on a repair comes to: an entry that marks a suspect of the drained book,
-- or none.
use Rattle.std.specs.Prelude.{◌≡◌, ℕ, ◌&&◌, ◌^◌, Bool, nat_lt, List, []}
use Rattle.std.specs.Prelude.{Option, Some, None, if◌then◌else◌}
use Rattle.std.specs.List.{list_any}
use Rattle.std.specs.Option.{option_map, option_and_then}
use Rattle.dx_step.specs.Repairs.{Chosen, is_at, is_at_or_under, is_marked_by, is_of_case}
use Rattle.fm_core.specs.Drained.{Drained}
use Rattle.fm_core.specs.Hands.{HandOf}
use Rattle.fm_core.specs.Meaning.{State, Diagnosing}
use Rattle.fm_core.specs.declared.module.Module.{Ghosts}
use Rattle.fm_entry.specs.declared.case_name.CaseName.{CaseName}
use Rattle.fm_entry.specs.declared.entry.Entry.{Entry}
use Rattle.fm_entry.specs.declared.entry.Entry.TheVariants as entry
use Rattle.fm_entry.specs.declared.list_event.ListEvent.{ListEvent}
use Rattle.fm_drain.specs.CaseStatus.{IsStatusOf}
use Rattle.fm_admin.specs.Rows.{row_with}
use Rattle.fm_command.specs.declared.request.Repair.{Repair}
use Rattle.fm_command.specs.declared.request.Repair.TheVariants.{Repaired, Replaced, Acquit}

-- the last words of the solved cases of a state
abbrev pub solved_of : State → List ListEvent
solved_of (Diagnosing s) = s.solved
solved_of _ = []

-- some suspect of a solved case of a state is present, and chosen
abbrev pub marks_in : Chosen → State → Bool
marks_in chosen state = list_any (is_marked_by chosen) (solved_of state)

-- of one of these hands' states
abbrev pub marks_hands : {M : Type 0} → Ghosts M → List (HandOf M) → Chosen → Bool
marks_hands m hands chosen = list_any (λ h. marks_in chosen (m.state h.object)) hands

-- of one of the states of a drained book
abbrev pub marks_drained : Drained → Chosen → Bool
marks_drained d chosen = list_any (λ e. marks_in chosen e.state) d.modules

-- the entry, where a suspect that is chosen is marked
abbrev pub where_marks : Chosen → (Chosen → Bool) → Entry → Option Entry
where_marks chosen marks e = if marks chosen then Some e else None

-- a case name has a spelling
abbrev pub is_case_name : CaseName → Bool
is_case_name name = nat_lt name.module 8 && nat_lt name.case (2 ^ 63)

-- the case of the first row that has this UUID
abbrev pub case_with : List ℕ → List ℕ → List ListEvent → Option CaseName
case_with namespace uuid rows = option_map (λ row. row.case) (row_with namespace uuid rows)

-- the acquittal of a case, where it marks one of its suspects
abbrev pub where_acquits : ℕ → (Chosen → Bool) → CaseName → Option Entry
where_acquits moment marks case =
    if is_case_name case then where_marks (is_of_case case) marks (entry.Acquit case moment)
    else None

-- The entry at a moment that says what the operator said, where it marks a suspect. An acquittal
-- is of the first row that has its UUID.
abbrev pub entry_by : List ℕ → ℕ → Repair → List ListEvent → (Chosen → Bool) → Option Entry
entry_by namespace moment (Repaired path) rows marks =
    where_marks (is_at path) marks (entry.Repaired path moment)
entry_by namespace moment (Replaced path) rows marks =
    where_marks (is_at_or_under path) marks (entry.Replaced path moment)
entry_by namespace moment (Acquit uuid) rows marks =
    option_and_then (λ case. where_acquits moment marks case) (case_with namespace uuid rows)

-- by a drained book
pub record IsEntryBy (namespace : List ℕ) (moment : ℕ) (repair : Repair) (d : Drained)
    (e : Option Entry) : Type 0 where
  pub rows : List ListEvent
  pub status : IsStatusOf d rows
  pub entry_is : e ≡ entry_by namespace moment repair rows (marks_drained d)
