-- Arrays of lists as JSON.
use Rattle.std.proofs.Common.{◌≡◌, ℕ, zero, suc, ◌≤◌, ◌<◌, ◌∷◌, [], List, map, refl, ap, ◌∙◌, arith}
use Rattle.std.proofs.Common.{String, string_bytes, string_cmp, Global, length, get_or}
use Rattle.serde_json.specs.Data.{item, put}
use Rattle.serde_json.specs.View.{items_of, members_view, view}
use Rattle.serde_json.specs.declared.value.Value.{Value}
use Rattle.std.specs.BTreeMap.{insert_entry}
use Rattle.serde_json.proofs.Views.{members_view-insert_entry, Entry}
use Rattle.fm_nv.specs.Data.{Pairs, no_pairs, pair, count, from, lists_of, depth, lists_depth}
use Rattle.fm_line.specs.Printed.{payload_data, lists_items}
use Rattle.fm_nv.proofs.Places.{from_end as from_count}

pub lists_items_lists_of : (ls : List Pairs)
    → lists_items (lists_of ls) ≡ items_of (map payload_data ls)
lists_items_lists_of [] = refl
lists_items_lists_of (ps ∷ ls) = ap (item (payload_data ps)) (lists_items_lists_of ls)

-- no list of an array is deeper than the array
pub depth_of_item : (ls : List Pairs) (i : ℕ) (d : Pairs) → i < length ls
    → depth (get_or ls i d) ≤ lists_depth (lists_of ls)
depth_of_item [] i d below = absurd (omega arith)
depth_of_item (ps ∷ ls) zero d below = omega arith
depth_of_item (ps ∷ ls) (suc i) d below = omega (arith, depth_of_item ls i d (omega arith))

-- all the pairs of a list stand from its first place on
pub from_zero : (ps : Pairs) → from 0 ps ≡ ps
from_zero no_pairs = refl
from_zero (pair k d ps) = refl

-- and none from its end on
pub from_end : (ps : Pairs) (n : ℕ) → n ≡ count ps → from n ps ≡ no_pairs
from_end ps n end = ap (λ m. from m ps) end ∙ from_count ps

pub insert_view : (es : List Entry) (k : String Global) (v : Value)
    → members_view (insert_entry string_cmp es k v)
    ≡ put (string_bytes k) (view v) (members_view es)
insert_view = members_view-insert_entry

-- a list becomes an object member by member, from its first place to its end
pub ruleset members = (from_zero, from_end, insert_view)
