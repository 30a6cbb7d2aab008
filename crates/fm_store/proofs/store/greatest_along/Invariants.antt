-- The greatest of what is left is that of all.
use Rattle.std.proofs.Common.{◌≡◌, ◌<◌, ◌^◌, drop}
use Rattle.fm_core.specs.Book.{greatest_from}
use Rattle.fm_store.proofs.store.greatest_along.Given as goal

abbrev pub invariant-entries : goal.invariant-entries
invariant-entries l =
    (greatest_from l.greatest (drop l.entry-index l.entries) ≡ greatest_from l.moment l.entries)
    × (l.greatest < 2 ^ 62)
