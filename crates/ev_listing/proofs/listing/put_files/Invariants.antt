-- The files before the place that is reached were listed.
use Rattle.std.proofs.Common.{◌-◌, length}
use Rattle.ev_listing.proofs.Listed.{Listed}
use Rattle.ev_listing.proofs.listing.put_files.Given as goal

abbrev pub invariant-files : goal.invariant-files
invariant-files l = Listed l.bytes l.at l.number l.initial.out.items l.out.items

abbrev pub decreases-files : goal.decreases-files
decreases-files l = length l.bytes - l.at
