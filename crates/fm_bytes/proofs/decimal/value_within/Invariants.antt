use Rattle.std.proofs.Common.{◌≡◌, ◌≤◌, drop}
use Rattle.std.specs.Str.Parse.{digits_value_after}
use Rattle.fm_bytes.proofs.decimal.value_within.Given as goal

abbrev pub invariant-loop-digit : goal.invariant-loop-digit
invariant-loop-digit l =
    (digits_value_after 10 0 l.digits
    ≡ digits_value_after 10 l.number (drop l.digit-index l.digits))
    × (l.number ≤ l.most)
