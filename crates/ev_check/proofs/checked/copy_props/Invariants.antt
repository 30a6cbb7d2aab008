use Rattle.std.proofs.Common.{◌≡◌, take, map}
use Rattle.ev_check.specs.CheckedFile.{view_prop}
use Rattle.ev_check.proofs.checked.copy_props.Given as goal

abbrev pub invariant-loop-prop : goal.invariant-loop-prop
invariant-loop-prop l = map view_prop l.copies.items ≡ map view_prop (take l.prop-index l.props)
