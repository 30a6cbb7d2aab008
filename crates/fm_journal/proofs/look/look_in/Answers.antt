-- What the bytes from a gate on tell of it.
use Rattle.std.proofs.Common.{◌-◌, ◌≤◌, length, min, ◌∙◌, arith}
use Rattle.std.proofs.Math.Nat.{le-min}
use Rattle.fm_journal.proofs.Looking.{shows_short, gate_in, length_in}
use Rattle.fm_journal.proofs.look.look_in.Goals as goal

pub returns-then-size-at-lt-FRONT-clause-shows : goal.returns-then-size-at-lt-FRONT-clause-shows
returns-then-size-at-lt-FRONT-clause-shows c =
    let front = c.args.front.now in
    let low : 1 ≤ min 6 (c.args.size - c.args.at) = le-min (omega arith) (omega arith) in
    let some : 1 ≤ length front = omega (arith, low) in
    λ bytes long is. shows_short bytes c.args.at
    (gate_in bytes front c.args.at 1 is some c.if-front-ne-OPEN.false) (omega arith)

pub returns-clause-shows : goal.returns-clause-shows
returns-clause-shows c =
    let front = c.args.front.now in
    let low : 6 ≤ min 6 (c.args.size - c.args.at) = le-min (omega arith) (omega arith) in
    let some : 6 ≤ length front = omega (arith, low) in
    λ bytes long is. c.record_of.ensures.shows bytes long
    (gate_in bytes front c.args.at 1 is (omega arith) c.if-front-ne-OPEN.false)
    (length_in bytes front _ c.args.at is (omega arith)
    (c.word_of.ensures ∙ c.copy_from_slice.ensures.after))
