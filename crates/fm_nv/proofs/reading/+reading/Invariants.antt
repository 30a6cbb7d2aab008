-- What was read so far, and what is left, is all. A list takes one step down for each list that it
-- stands in.
use Rattle.std.proofs.Common.{◌≡◌, ◌+◌, ◌-◌, ◌*◌}
use Rattle.fm_bytes.specs.Reading.{items_from}
use Rattle.fm_nv.specs.Reading.{list_from, pair_from, to_pairs}
use Rattle.fm_nv.specs.Data.{count}
use Rattle.fm_bytes.proofs.ReadLoops.{behind}
use Rattle.fm_nv.proofs.reading.+reading.Given as goal

abbrev pub invariant-read_each_pair-pairs : goal.invariant-read_each_pair-pairs
invariant-read_each_pair-pairs l =
    (items_from (pair_from (list_from l.deep)) l.count l.initial.input
    ≡ behind (to_pairs l.content)
    (items_from (pair_from (list_from l.deep)) (l.count - l.at) l.input))
    × (count l.content ≡ l.at)

abbrev pub invariant-read_each_list-items : goal.invariant-read_each_list-items
invariant-read_each_list-items l =
    items_from (list_from l.deep) l.count l.initial.input
    ≡ behind l.items.items (items_from (list_from l.deep) (l.count - l.at) l.input)

abbrev pub decreases-read_list : goal.decreases-read_list
decreases-read_list l = 10 * l.deep

abbrev pub decreases-read_pairs : goal.decreases-read_pairs
decreases-read_pairs l = 10 * l.deep + 7

abbrev pub decreases-read_each_pair : goal.decreases-read_each_pair
decreases-read_each_pair l = 10 * l.deep + 6

abbrev pub decreases-read_pair : goal.decreases-read_pair
decreases-read_pair l = 10 * l.deep + 5

abbrev pub decreases-read_value : goal.decreases-read_value
decreases-read_value l = 10 * l.deep + 4

abbrev pub decreases-read_tagged : goal.decreases-read_tagged
decreases-read_tagged l = 10 * l.deep + 3

abbrev pub decreases-read_nested : goal.decreases-read_nested
decreases-read_nested l = 10 * l.deep + 2

abbrev pub decreases-read_lists : goal.decreases-read_lists
decreases-read_lists l = 10 * l.deep + 2

abbrev pub decreases-read_each_list : goal.decreases-read_each_list
decreases-read_each_list l = 10 * l.deep + 1
