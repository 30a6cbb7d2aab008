-- What is looked at was read from the place on.
use Rattle.std.proofs.Common.{◌-◌, take, sym, ◌∙◌, ap, arith}
use Rattle.std.proofs.Math.Nat.{min-le_right}
use Rattle.std.proofs.lemmas.List.{length-take-le}
use Rattle.fm_journal.proofs.Places.{piece_range, prefix_front}
use Rattle.fm_journal.proofs.look.look_at.Goals as goal

pub returns-clause-shows : goal.returns-clause-shows
returns-clause-shows g c = λ bytes told.
    let piece = c.reach.new.self in
    let le = c.requires.told bytes told in
    let few = min-le_right 6 (c.args.size - c.args.at) in
    c.look_in.ensures.shows (take c.args.size bytes) (sym (length-take-le c.args.size bytes le))
    (prefix_front bytes c.from.result.now c.args.at c.min-count.result c.args.size
    (piece_range piece.start c.args.at c.min-count.result bytes piece.held
    c.in_ok-reach.ensures.after c.in_ok-reach.ensures.before
    (c.in_ok-reach.ensures.read bytes told)
    ∙ ap (take c.min-count.result) (sym c.from.ensures))
    (omega (arith, c.min-count.ensures, few)) le)
