use Rattle.std.proofs.Common.{◌≡◌, take}
use Rattle.fm_bytes.proofs.items.Items.copy.Given as goal

abbrev pub invariant-items : goal.invariant-items
invariant-items g l = l.copies.items ≡ take l.item-index l.item-items
