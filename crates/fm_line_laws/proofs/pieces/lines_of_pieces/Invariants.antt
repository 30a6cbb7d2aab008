-- The lines so far, and those of the pieces that are left, are those of the stream.
use Rattle.std.proofs.Common.{◌≡◌, ◌++◌, drop, flat_map}
use Rattle.fm_line.specs.Lines.{lines_from, lines_of}
use Rattle.fm_line_laws.proofs.pieces.lines_of_pieces.Given as goal

abbrev pub invariant-pieces : goal.invariant-pieces
invariant-pieces l =
    lines_of (flat_map (λ piece. piece.now) l.pieces)
    ≡ l.lines.items
    ++ lines_from l.splitter.pending (flat_map (λ piece. piece.now) (drop l.piece-index l.pieces))
