-- The input gave the bytes that are kept.
use Rattle.std.proofs.Common.{◌+◌, ◌-◌, ◌^◌, length}
use Rattle.fm_sources.specs.Texts.{GivesSoFar}
use Rattle.fm_esc.proofs.input.read_whole.Given as goal

abbrev pub invariant-pieces : goal.invariant-pieces
invariant-pieces g l = GivesSoFar g.S.Source (2 ^ 40) l.initial.input l.input l.bytes.items

abbrev pub decreases-pieces : goal.decreases-pieces
decreases-pieces g l = 2 ^ 40 + 1 - length l.bytes.items
