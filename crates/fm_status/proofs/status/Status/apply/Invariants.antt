use Rattle.std.proofs.Common.{◌≡◌, take}
use Rattle.fm_status.specs.Rows.{put_rows}
use Rattle.fm_status.proofs.status.Status.apply.Given as goal

abbrev pub invariant-words : goal.invariant-words
invariant-words l = l.self ≡ put_rows l.initial.self (take l.word-index l.word-items)
