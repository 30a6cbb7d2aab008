-- What was held stands before what is read then.
use Rattle.std.proofs.Common.{◌-◌, length, drop, ◌∙◌, arith, length-drop}
use Rattle.std.proofs.Math.Nat.{min-le_left, min-le_right}
use Rattle.std.proofs.lemmas.Result.{on_ok_weaker}
use Rattle.fm_journal.proofs.Copying.{copied}
use Rattle.fm_journal.proofs.Places.{piece_range}
use Rattle.fm_journal.proofs.piece.Piece.copy.Goals as goal

pub returns-clause-bytes : goal.returns-clause-bytes
returns-clause-bytes g c =
    let piece = c.reach.new.self in
    let count = c.copy_held-count.result in
    let room = length c.args.into.now in
    let left = length piece.held - (c.args.at - piece.start) in
    let few = min-le_right left room in
    let enough = min-le_left left room in
    on_ok_weaker c.read_rest.result (λ read bytes told.
    copied c.args.at count bytes c.args.into.now (drop (c.args.at - piece.start) piece.held)
    c.copy_held-count.new.into (omega (arith, few, c.copy_held-count.ensures.count))
    (omega (
      arith,
      enough,
      c.copy_held-count.ensures.count,
      length-drop (c.args.at - piece.start) piece.held,
    ))
    c.copy_held-count.ensures.bytes c.read_rest.new.into
    (piece_range piece.start c.args.at count bytes piece.held c.in_ok-reach.ensures.after
    (omega (
      arith,
      enough,
      c.copy_held-count.ensures.count,
      c.in_ok-reach.ensures.before,
      c.in_ok-reach.ensures.after,
    ))
    (c.in_ok-reach.ensures.read bytes told))
    (read bytes (c.in_ok-reach.ensures.still.same ∙ told)))
    c.read_rest.ensures.bytes
