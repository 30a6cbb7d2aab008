-- Which categories may stand where.
use Rattle.std.specs.Prelude.{Bool, true, false, not, Option, Some}
use Rattle.fm_name.specs.declared.classes.Category.{Category}
use Rattle.fm_name.specs.declared.classes.Category.TheVariants.{Ereport, Error, Fault, Defect}
use Rattle.fm_name.specs.declared.classes.Category.TheVariants.{Upset, Serd}

-- an event may be declared with it
abbrev pub is_event : Option Category → Bool
is_event (Some Ereport) = true
is_event (Some Error) = true
is_event (Some Fault) = true
is_event (Some Defect) = true
is_event (Some Upset) = true
is_event _ = false

-- a fault or a defect
abbrev pub is_fault : Option Category → Bool
is_fault (Some Fault) = true
is_fault (Some Defect) = true
is_fault _ = false

-- an upset
abbrev pub is_upset : Option Category → Bool
is_upset (Some Upset) = true
is_upset _ = false

-- a report
abbrev pub is_report : Option Category → Bool
is_report (Some Ereport) = true
is_report _ = false

-- an engine
abbrev pub is_serd : Option Category → Bool
is_serd (Some Serd) = true
is_serd _ = false

-- it may stand on that side of an arrow: a fault, a defect, an upset or an error on the left, an
-- error or a report on the right
abbrev pub is_side : Bool → Option Category → Bool
is_side left (Some Error) = true
is_side left (Some Ereport) = not left
is_side left (Some Fault) = left
is_side left (Some Defect) = left
is_side left (Some Upset) = left
is_side left _ = false
