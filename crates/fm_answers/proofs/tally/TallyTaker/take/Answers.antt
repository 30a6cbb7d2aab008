use Rattle.std.proofs.Common.{◌≡◌, ◌+◌, ◌<◌, ◌^◌, [], refl, arith}
use Rattle.fm_answers.specs.Tallied.{entry_count}
use Rattle.fm_answers.specs.TallyLaws.{tallied_numbers}
use Rattle.fm_answers.proofs.Tallies.{accepted_same, accepted_ready}
use Rattle.fm_answers.proofs.tally.TallyTaker.take.Goals as goal

pub returns-clause-ready : goal.returns-clause-ready
returns-clause-ready c =
    let same : entry_count c.make_room.new.self ≡ entry_count c.args.self.now + 0 =
    tallied_numbers c.args.self.now c.make_room.new.self [] c.make_room.ensures.same in
    let room : entry_count c.make_room.new.self < 2 ^ 46 =
    omega (arith, same, c.len.ensures, c.if-len-ge-MAX_ENTRIES.false) in
    accepted_ready c.make_room.new.self _ c.args.entry c.in_ok-make_room.ensures.ready room
    c.accept.ensures.lawful c.in_ok-number.ensures.ok
    (accepted_same c.make_room.new.self _ c.args.entry c.in_ok-number.ensures.accepted refl)
