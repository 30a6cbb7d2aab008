use Rattle.std.proofs.Common.{◌≡◌, drop}
use Rattle.serde_json.specs.View.{items_view, members_view}
use Rattle.fm_nv.specs.Data.{no_pairs}
use Rattle.fm_line.specs.Payload.{lists_from, pairs_onto, after_found}
use Rattle.fm_line.proofs.payload.+convert.Given as goal

abbrev pub invariant-lists_from-loop-item : goal.invariant-lists_from-loop-item
invariant-lists_from-loop-item l =
    lists_from (items_view l.items.items)
    ≡ after_found l.found.items (lists_from (items_view (drop l.item-index l.items.items)))

abbrev pub invariant-pairs_from-loop-name : goal.invariant-pairs_from-loop-name
invariant-pairs_from-loop-name l =
    ((goal.iterator-pairs_from-loop-name).can_next l.name-iterator
    × (goal.iterator-pairs_from-loop-name).is_finite l.name-iterator)
    × (pairs_onto no_pairs (members_view l.members.entries)
    ≡ pairs_onto l.list (members_view l.name-iterator))
