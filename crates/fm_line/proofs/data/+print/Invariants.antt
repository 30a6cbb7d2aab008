use Rattle.std.proofs.Common.{◌≡◌, ◌+◌, ◌*◌, map, take}
use Rattle.serde_json.specs.Data.{no_members}
use Rattle.serde_json.specs.View.{view, members_view}
use Rattle.fm_nv.specs.Data.{depth, data_depth, lists_depth, lists_of, from}
use Rattle.fm_nv.specs.View.{datum}
use Rattle.fm_line.specs.Printed.{payload_data, members_onto}
use Rattle.fm_line.proofs.data.+print.Given as goal

abbrev pub invariant-list_json-loop-at : goal.invariant-list_json-loop-at
invariant-list_json-loop-at l =
    members_onto no_members l.list
    ≡ members_onto (members_view l.members.entries) (from l.at l.list)

abbrev pub invariant-lists_json-loop-list : goal.invariant-lists_json-loop-list
invariant-lists_json-loop-list l =
    map view l.items.items ≡ map payload_data (take l.list-index l.lists)

abbrev pub decreases-list_json : goal.decreases-list_json
decreases-list_json l = 3 * depth l.list.now

abbrev pub decreases-value_json : goal.decreases-value_json
decreases-value_json l = 3 * data_depth (datum l.value.now) + 2

abbrev pub decreases-lists_json : goal.decreases-lists_json
decreases-lists_json l = 3 * lists_depth (lists_of l.lists.now) + 1
