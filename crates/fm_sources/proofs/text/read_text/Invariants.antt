use Rattle.std.proofs.Common.{◌+◌, ◌-◌, length}
use Rattle.fm_sources.specs.Texts.{GivesSoFar}
use Rattle.fm_sources.proofs.text.read_text.Given as goal

abbrev pub invariant-pieces : goal.invariant-pieces
invariant-pieces g l = GivesSoFar g.S.Source l.limit l.initial.source l.source l.text.items

abbrev pub decreases-pieces : goal.decreases-pieces
decreases-pieces g l = l.limit + 1 - length l.text.items
