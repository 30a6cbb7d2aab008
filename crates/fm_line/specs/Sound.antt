-- What a payload keeps that is read or printed.
use Rattle.std.specs.Prelude.{◌≡◌, ◌==◌, Some, false}
use Rattle.fm_nv.specs.Data.{count}
use Rattle.fm_nv.specs.Spelled.{IsSpelledList}
use Rattle.fm_entry.specs.declared.entry.Entry.{Entry}
use Rattle.fm_entry.specs.declared.entry.Entry.TheVariants.{Report}
use Rattle.fm_line.specs.Forms.{json_of}
use Rattle.fm_line.specs.Printed.{json_report, report_data}

-- the payload of a report has a spelling
abbrev pub HasSpelledPayload : Entry → Type 0
HasSpelledPayload (Report class path moment payload) = IsSpelledList payload
HasSpelledPayload _ = Unit {0}

-- the JSON form of a report with a payload reads as its object
abbrev pub ReadsAsJson : Entry → Type 0
ReadsAsJson (Report class path moment payload) =
    (count payload == 0) ≡ false
    → json_of (json_report class path moment payload) ≡ Some (report_data class path moment payload)
ReadsAsJson _ = Unit {0}
