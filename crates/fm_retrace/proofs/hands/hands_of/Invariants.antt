-- The hands and the cursors so far, before those of the modules that are left.
use Rattle.std.proofs.Common.{◌≡◌, ◌+◌, ◌++◌, ℕ, length, slice_get, Some}
use Rattle.fm_core.specs.Meaning.{Meaning}
use Rattle.fm_retrace.specs.Retracing.{cursors_of, hands_from, meanings_of}
use Rattle.fm_retrace.proofs.hands.hands_of.Given as goal

abbrev pub decreases-modules : goal.decreases-modules
decreases-modules g l = length l.rest.items

abbrev pub invariant-modules : goal.invariant-modules
invariant-modules g l = record {
  hands_are : l.hands.items ++ hands_from l.base (length l.hands.items) l.rest.items
      ≡ hands_from l.base 0 l.fn.modules.items;
  cursors_are : l.cursors.items ++ cursors_of l.base l.rest.items
      ≡ cursors_of l.base l.fn.modules.items;
  counted : length l.hands.items + length l.rest.items ≡ length l.fn.modules.items;
  numbered : (j : ℕ) (m : Meaning) → slice_get (meanings_of g.M.Module l.rest.items) j ≡ Some m
      → m.own ≡ length l.hands.items + j;
}
