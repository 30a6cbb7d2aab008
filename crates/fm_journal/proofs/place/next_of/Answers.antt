-- The list ends at the gate at `end`, so the bytes up to it tell what stands at a place.
use Rattle.std.proofs.Common.{◌+◌, ◌-◌, take, sym, arith}
use Rattle.std.proofs.Math.Nat.{min-le_right}
use Rattle.std.proofs.lemmas.List.{length-take-le}
use Rattle.fm_journal.proofs.Places.{prefix_front, shut_no_record, past_no_record}
use Rattle.fm_journal.proofs.place.next_of.Goals as goal

pub returns-in-Record-clause-shows : goal.returns-in-Record-clause-shows
returns-in-Record-clause-shows g c = λ bytes told.
    let below = c.requires.inside bytes told in
    let few = min-le_right 6 (c.args.end + 1 - c.args.at) in
    c.in-Record.ensures.shows (take (c.args.end + 1) bytes)
    (sym (length-take-le (c.args.end + 1) bytes (omega (arith, below))))
    (prefix_front bytes c.in_ok-front.front c.args.at c.min-count.result (c.args.end + 1)
    (c.in_ok-front.ensures.front bytes told) (omega (arith, c.min-count.ensures, few))
    (omega (arith, below)))

pub returns-in-Shut-clause-shows : goal.returns-in-Shut-clause-shows
returns-in-Shut-clause-shows g c = λ bytes told.
    let below = c.requires.inside bytes told in
    let few = min-le_right 6 (c.args.end + 1 - c.args.at) in
    let shows = c.in-Shut.ensures.shows (take (c.args.end + 1) bytes)
    (sym (length-take-le (c.args.end + 1) bytes (omega (arith, below))))
    (prefix_front bytes c.in_ok-front.front c.args.at c.min-count.result (c.args.end + 1)
    (c.in_ok-front.ensures.front bytes told) (omega (arith, c.min-count.ensures, few))
    (omega (arith, below))) in
    shut_no_record (take (c.args.end + 1) bytes) c.args.at shows.0 shows.1 shows.2 shows.3

pub returns-in-Bad-clause-shows : goal.returns-in-Bad-clause-shows
returns-in-Bad-clause-shows g c = λ bytes told payload gate rest any there.
    let below = c.requires.inside bytes told in
    let few = min-le_right 6 (c.args.end + 1 - c.args.at) in
    let shows = c.in-Bad.ensures.shows (take (c.args.end + 1) bytes)
    (sym (length-take-le (c.args.end + 1) bytes (omega (arith, below))))
    (prefix_front bytes c.in_ok-front.front c.args.at c.min-count.result (c.args.end + 1)
    (c.in_ok-front.ensures.front bytes told) (omega (arith, c.min-count.ensures, few))
    (omega (arith, below))) in
    shows.2 payload gate rest there

pub returns-then-at-end-clause-shows : goal.returns-then-at-end-clause-shows
returns-then-at-end-clause-shows g c = λ bytes told.
    past_no_record (take (c.args.end + 1) bytes) c.args.at (omega (
      arith,
      length-take-le (c.args.end + 1) bytes (omega (arith, c.requires.inside bytes told)),
    ))
