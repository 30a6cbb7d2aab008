use Rattle.std.proofs.Common.{◌≡◌, ◌+◌, length}
use Rattle.std.specs.Option.{option_map}
use Rattle.ev_lex.specs.Pieces.{closing}
use Rattle.ev_lex.proofs.piece.closing.Given as goal

-- the end is n bytes further than it is in what follows
abbrev pub invariant-loop-rest : goal.invariant-loop-rest
invariant-loop-rest l = (option_map (λ k. l.n + k) (closing l.rest) ≡ closing l.initial.rest)
    × (l.n + length l.rest ≡ length l.initial.rest)

abbrev pub decreases-loop-rest : goal.decreases-loop-rest
decreases-loop-rest l = length l.rest
