use Rattle.std.proofs.Common.{◌≡◌, drop}
use Rattle.serde_json.specs.View.{items_view}
use Rattle.fm_line.specs.Payload.{unsigneds_of, after_found}
use Rattle.fm_line.proofs.payload.unsigneds_from.Given as goal

abbrev pub invariant-loop-item : goal.invariant-loop-item
invariant-loop-item l =
    unsigneds_of (items_view l.items.items)
    ≡ after_found l.found.items (unsigneds_of (items_view (drop l.item-index l.items.items)))
