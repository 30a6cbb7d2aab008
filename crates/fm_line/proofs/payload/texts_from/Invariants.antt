use Rattle.std.proofs.Common.{◌≡◌, drop}
use Rattle.serde_json.specs.View.{items_view}
use Rattle.fm_line.specs.Payload.{texts_of, after_found}
use Rattle.fm_line.proofs.payload.texts_from.Given as goal

abbrev pub invariant-loop-item : goal.invariant-loop-item
invariant-loop-item l =
    texts_of (items_view l.items.items)
    ≡ after_found l.found.items (texts_of (items_view (drop l.item-index l.items.items)))
