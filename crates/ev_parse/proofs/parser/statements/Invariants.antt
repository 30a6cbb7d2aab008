use Rattle.std.proofs.Common.{length}
use Rattle.ev_parse.proofs.Walked.{Walked}
use Rattle.ev_parse.proofs.parser.statements.Given as goal

abbrev pub invariant-more : goal.invariant-more
invariant-more l = Walked l.text l.tokens l.items.items l.rest

abbrev pub decreases-more : goal.decreases-more
decreases-more l = length l.rest
