-- A record of so many words has too many bytes.
use Rattle.std.proofs.Common.{◌<◌, ◌≤◌, ◌^◌, List, length, refl, subst, arith}
use Rattle.fm_entry.specs.declared.list_event.ListEvent.{ListEvent}
use Rattle.fm_entry.specs.WordBytes.{spoken_bytes}
use Rattle.fm_drain.proofs.Lengths.{record_long}
use Rattle.fm_drain.proofs.steps.words_frame.Goals as goal

pub returns-then-words-gt-MAX_PAYLOAD-clause-err : goal.returns-then-words-gt-MAX_PAYLOAD-clause-err
returns-then-words-gt-MAX_PAYLOAD-clause-err c =
    let many : 2 ^ 28 < length c.args.spoken.now.events =
    subst (λ (ws : List ListEvent). 2 ^ 28 < length ws) c.as_slice-words.ensures
    c.if-words-gt-MAX_PAYLOAD.true in
    let long : length c.args.spoken.now.events ≤ length (spoken_bytes c.args.spoken.now) =
    record_long c.args.spoken.now in
    (refl, omega (arith, many, long))
