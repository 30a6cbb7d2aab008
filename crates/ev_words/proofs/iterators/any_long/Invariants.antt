use Rattle.std.proofs.Common.{◌≡◌, take, false}
use Rattle.std.specs.List.{list_any}
use Rattle.ev_words.specs.Iterators.{is_long}
use Rattle.ev_words.proofs.iterators.any_long.Given as goal

abbrev pub invariant-loop-name : goal.invariant-loop-name
invariant-loop-name l = list_any is_long (take l.name-index l.names) ≡ false
