-- What is copied was read from the place on.
use Rattle.std.proofs.Common.{length, take, sym, ◌∙◌, ap}
use Rattle.fm_journal.proofs.Places.{piece_range}
use Rattle.fm_journal.proofs.piece.Piece.read_rest.Goals as goal

pub returns-clause-bytes : goal.returns-clause-bytes
returns-clause-bytes g c = λ bytes told.
    let piece = c.reach.new.self in
    c.copy_from_slice.ensures.after
    ∙ ap (take (length c.args.into.now)) c.from.ensures
    ∙ sym (piece_range piece.start c.args.at (length c.args.into.now) bytes piece.held
    c.in_ok-reach.ensures.after c.in_ok-reach.ensures.before
    (c.in_ok-reach.ensures.read bytes told))
