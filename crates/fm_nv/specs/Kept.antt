-- What a list keeps.
use Rattle.std.specs.Prelude.{Option, Some, None}
use Rattle.std.proofs.Common.{Box, Global}
use Rattle.fm_nv.specs.Data.{Pairs, no_pairs}
use Rattle.fm_nv.specs.declared.nv.Content.{Content}

-- the pairs of a list; where it keeps nothing there is none
abbrev pub pairs_kept : Option (Box Content Global) → Pairs
pairs_kept None = no_pairs
pairs_kept (Some b) = b.value
