-- What is written, and the spelling of what is left, is the whole.
use Rattle.std.proofs.Common.{◌≡◌, ◌++◌, drop, flat_map}
use Rattle.fm_items.proofs.codec.put_items.Given as goal

abbrev pub invariant-items : goal.invariant-items
invariant-items g l =
    l.out.items ++ flat_map g.C.Codec.spelling (drop l.item-index l.items)
    ≡ l.initial.out.items ++ flat_map g.C.Codec.spelling l.items
