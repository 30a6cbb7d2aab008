-- The deepest so far and the lists that are left are as deep as all; and if those have a spelling,
-- all have.
use Rattle.std.proofs.Common.{◌≡◌, ◌≤◌, max, drop}
use Rattle.fm_nv.specs.Data.{lists_of, lists_depth}
use Rattle.fm_nv.specs.Spelled.{lists_fit}
use Rattle.fm_nv.proofs.lists.deepest.Given as goal

abbrev pub invariant-items : goal.invariant-items
invariant-items l =
    (max l.deep (lists_depth (lists_of (drop l.list-index l.items)))
    ≡ lists_depth (lists_of l.items))
    × (l.deep ≤ 8)
    × (lists_fit (lists_of (drop l.list-index l.items)) ≡ lists_fit (lists_of l.items))
