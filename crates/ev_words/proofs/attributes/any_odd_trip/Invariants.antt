use Rattle.std.proofs.Common.{◌≡◌, take, false}
use Rattle.std.specs.List.{list_any}
use Rattle.ev_words.specs.Attributes.{is_odd_trip}
use Rattle.ev_words.proofs.attributes.any_odd_trip.Given as goal

abbrev pub invariant-loop-attr : goal.invariant-loop-attr
invariant-loop-attr l = list_any is_odd_trip (take l.attr-index l.attrs) ≡ false
