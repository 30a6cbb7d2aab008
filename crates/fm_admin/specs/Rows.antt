-- The rows of a status by the UUIDs of their cases.
use Rattle.std.specs.Prelude.{ℕ, Bool, List, Option, bytes_eq}
use Rattle.std.specs.List.{find}
use Rattle.fm_entry.specs.declared.case_name.CaseName.{CaseName}
use Rattle.fm_entry.specs.declared.list_event.ListEvent.{ListEvent}
use Rattle.fm_status.specs.Names.{case_uuid}

-- the case of a row has this UUID
abbrev pub has_uuid : List ℕ → List ℕ → CaseName → Bool
has_uuid namespace uuid case = bytes_eq (case_uuid namespace case) uuid

-- the first row that has this UUID
abbrev pub row_with : List ℕ → List ℕ → List ListEvent → Option ListEvent
row_with namespace uuid rows = find (λ row. has_uuid namespace uuid row.case) rows
