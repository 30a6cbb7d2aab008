-- What is written, and the spelling of what is left, is the whole; and what is left has a spelling.
use Rattle.std.proofs.Common.{◌≡◌, ◌+◌, ◌*◌, ◌++◌, drop, IsTrue}
use Rattle.fm_nv.specs.Data.{from, depth, data_depth, lists_depth, lists_of}
use Rattle.fm_nv.specs.Spelled.{body_bytes, pairs_fit, lists_bytes}
use Rattle.fm_nv.specs.View.{datum}
use Rattle.fm_nv.proofs.write.+writing.Given as goal

abbrev pub invariant-put_pairs-pairs : goal.invariant-put_pairs-pairs
invariant-put_pairs-pairs l =
    (l.out.items ++ body_bytes (from l.at l.nv) ≡ l.initial.out.items ++ body_bytes l.nv)
    × IsTrue (pairs_fit (from l.at l.nv))

abbrev pub invariant-put_each-items : goal.invariant-put_each-items
invariant-put_each-items l =
    l.out.items ++ lists_bytes (lists_of (drop l.list-index l.list-items)) ≡ l.initial.out.items
    ++ lists_bytes (lists_of l.list-items)

abbrev pub decreases-put_list : goal.decreases-put_list
decreases-put_list l = 6 * depth l.nv.now + 1

abbrev pub decreases-put_pairs : goal.decreases-put_pairs
decreases-put_pairs l = 6 * depth l.nv.now

abbrev pub decreases-put_pair : goal.decreases-put_pair
decreases-put_pair l = 6 * data_depth (datum l.value.now) + 5

abbrev pub decreases-put_value : goal.decreases-put_value
decreases-put_value l = 6 * data_depth (datum l.value.now) + 4

abbrev pub decreases-put_nested : goal.decreases-put_nested
decreases-put_nested l = 6 * depth l.list.now + 2

abbrev pub decreases-put_lists : goal.decreases-put_lists
decreases-put_lists l = 6 * lists_depth (lists_of l.lists.now) + 3

abbrev pub decreases-put_each : goal.decreases-put_each
decreases-put_each l = 6 * lists_depth (lists_of l.lists.now) + 2
