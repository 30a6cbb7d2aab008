use Rattle.std.proofs.Common.{length}
use Rattle.ev_lex.proofs.Reach.{Reached}
use Rattle.ev_lex.proofs.lexer.lex.Given as goal

abbrev pub invariant-pieces : goal.invariant-pieces
invariant-pieces l = Reached l.initial.rest l.line l.rest l.tokens.items l.at

abbrev pub decreases-pieces : goal.decreases-pieces
decreases-pieces l = length l.rest
