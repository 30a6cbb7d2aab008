-- Open cases between two turns.
use Rattle.std.specs.Prelude.{Bool, true, false, not, ◌&&◌, Option, Some, None, if◌then◌else◌}
use Rattle.dx_case.specs.declared.case.Case.{Case}
use Rattle.dx_turn.specs.declared.tracked.Tracked.{Tracked}

-- a case that no turn has changed
abbrev pub still_of : Case → Tracked
still_of c = record { kept = Some c; changed = None; decided = false }

abbrev pub later_of : Option Case → Option Case → Option Case
later_of (Some c) o = Some c
later_of None o = o

-- as a turn has left the case
abbrev pub after_turn : Tracked → Tracked
after_turn t = record {
  kept = if t.decided then None else later_of t.changed t.kept;
  changed = None;
  decided = false;
}

-- as the case was before the turn
abbrev pub before_turn : Tracked → Tracked
before_turn t = record t { changed = None; decided = false }

abbrev pub is_some_case : Option Case → Bool
is_some_case None = false
is_some_case (Some c) = true

-- there is a case
abbrev pub has_kept : Tracked → Bool
has_kept t = is_some_case t.kept

-- it is a case that the turn has not changed
abbrev pub is_still : Tracked → Bool
is_still t = is_some_case t.kept && (not (is_some_case t.changed) && not t.decided)
