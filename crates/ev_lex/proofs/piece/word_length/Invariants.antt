use Rattle.std.proofs.Common.{◌≡◌, ◌+◌, length}
use Rattle.ev_lex.specs.Pieces.{word_length}
use Rattle.ev_lex.proofs.piece.word_length.Given as goal

-- the word ends n bytes further than it does in what follows
abbrev pub invariant-loop-rest : goal.invariant-loop-rest
invariant-loop-rest l = (l.n + word_length l.rest ≡ word_length l.initial.rest)
    × (l.n + length l.rest ≡ length l.initial.rest)

abbrev pub decreases-loop-rest : goal.decreases-loop-rest
decreases-loop-rest l = length l.rest
