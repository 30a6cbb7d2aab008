-- The lines so far, and those of what is left, are those of the whole.
use Rattle.std.proofs.Common.{◌≡◌, ◌++◌, ℕ, List, length}
use Rattle.fm_line.specs.Lines.{lines_from}
use Rattle.fm_line_laws.proofs.pieces.take_piece.Given as goal

abbrev pub invariant-rest : goal.invariant-rest
invariant-rest l =
    (more : List ℕ)
    → l.initial.lines.items ++ lines_from l.initial.splitter.pending (l.piece ++ more)
    ≡ l.lines.items ++ lines_from l.splitter.pending (l.rest ++ more)

abbrev pub decreases-rest : goal.decreases-rest
decreases-rest l = length l.rest
