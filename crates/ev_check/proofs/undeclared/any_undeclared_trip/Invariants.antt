use Rattle.std.proofs.Common.{◌≡◌, take, false}
use Rattle.std.specs.List.{list_any}
use Rattle.ev_check.specs.Declarations.{is_undeclared_trip}
use Rattle.ev_check.proofs.undeclared.any_undeclared_trip.Given as goal

abbrev pub invariant-loop-attr : goal.invariant-loop-attr
invariant-loop-attr l = list_any (is_undeclared_trip l.events l.names) (take l.attr-index l.attrs)
    ≡ false
