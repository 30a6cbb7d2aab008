-- What so far is copied is the same.
use Rattle.std.proofs.Common.{◌≡◌, take}
use Rattle.fm_nv.proofs.nv.+copying.Given as goal

abbrev pub invariant-Content::copy-cells : goal.invariant-Content::copy-cells
invariant-Content::copy-cells l = l.cells.items ≡ take l.cell-index l.cell-items

abbrev pub invariant-NvLists::copy-items : goal.invariant-NvLists::copy-items
invariant-NvLists::copy-items l = l.items.items ≡ take l.list-index l.list-items
