-- There are no more sources than names were passed.
use Rattle.std.proofs.Common.{◌≤◌, ◌≡◌, length}
use Rattle.fma.proofs.opened.Opener.rules.Given as goal

abbrev pub invariant-names : goal.invariant-names
invariant-names l = (length l.rules.items ≤ l.name-index) × (length l.name-items ≡ 8)
