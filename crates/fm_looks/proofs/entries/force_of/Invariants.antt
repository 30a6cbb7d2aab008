-- The number after what is left is that after all.
use Rattle.std.proofs.Common.{◌≡◌, drop}
use Rattle.fm_logs.specs.StoreBook.{force_along}
use Rattle.fm_looks.proofs.entries.force_of.Given as goal

abbrev pub invariant-entries : goal.invariant-entries
invariant-entries l =
    force_along l.force (drop l.entry-index l.entries) ≡ force_along l.at_base l.entries
