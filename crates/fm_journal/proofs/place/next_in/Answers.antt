-- Behind a closed gate no record stands.
use Rattle.std.proofs.Common.{◌+◌, take, subst}
use Rattle.fm_journal.specs.Look.{Shows}
use Rattle.fm_journal.specs.declared.look.Look.{Look}
use Rattle.fm_journal.proofs.Places.{shut_no_record}
use Rattle.fm_journal.proofs.place.next_in.Goals as goal

pub returns-in-Shut-clause-shows : goal.returns-in-Shut-clause-shows
returns-in-Shut-clause-shows g c = λ bytes told.
    let front = take (c.args.end + 1) bytes in
    let shows = subst (λ (l : Look). Shows front c.args.at l) c.in-Shut.is
    (c.in_ok-next.ensures.shows bytes told) in
    shut_no_record front c.args.at shows.0 shows.1 shows.2 shows.3
