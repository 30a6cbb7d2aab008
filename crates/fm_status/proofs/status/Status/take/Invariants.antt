-- With the words that are left the rows come to what they come to with all of them.
use Rattle.std.proofs.Common.{◌≡◌}
use Rattle.std.specs.Vec.Iter.{into_iter_items}
use Rattle.fm_status.specs.Rows.{put_rows}
use Rattle.fm_status.proofs.status.Status.take.Given as goal

abbrev pub invariant-words : goal.invariant-words
invariant-words l = put_rows l.self (into_iter_items l.word-iterator)
    ≡ put_rows l.initial.self (into_iter_items l.initial.word-iterator)
