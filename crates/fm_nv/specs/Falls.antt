-- A list in a list is less deep than the list that it stands in.
use Rattle.std.specs.Prelude.{ℕ, ◌+◌, ◌*◌, ◌≤◌, List, [], ◌∷◌, Option, Some, None}
use Rattle.std.proofs.Common.{arith, Box, Global}
use denote.Param.Weighed.{most}
use Rattle.fm_nv.specs.Data.{Pairs, data_depth, reach, content_reach, lists_reach}
use Rattle.fm_nv.specs.View.{datum, pairs_in}
use Rattle.fm_nv.specs.declared.nv.Value.{Value}
use Rattle.fm_nv.specs.declared.nv.Value.TheVariants.{Bool, Unsigned, Signed, Text, List as Nested}
use Rattle.fm_nv.specs.declared.nv.Value.TheVariants.{Unsigneds, Texts, Lists}
use Rattle.fm_nv.specs.declared.nv.Cell.{Cell}
use Rattle.fm_nv.specs.declared.nv.Content.TheDeep.{deep-Cell, deep-Value, deep-Nv}
use Rattle.fm_nv.specs.declared.nv.Content.{Content}
use Rattle.fm_nv.specs.Kept.{pairs_kept}

value_falls : (v : Value) → deep-Value v ≤ 3 * data_depth (datum v) + 3
value_falls (Bool b) = omega arith
value_falls (Unsigned n) = omega arith
value_falls (Signed z) = omega arith
value_falls (Text t) = omega arith
value_falls (Nested ps) = omega arith
value_falls (Unsigneds ns) = omega arith
value_falls (Texts ts) = omega arith
value_falls (Lists ls) = omega arith

-- no value of a list reaches as far as the list
pub cells_fall : (names : List ℕ) (begin : ℕ) (cs : List Cell)
    → most deep-Cell cs ≤ content_reach (pairs_in names begin cs)
cells_fall names begin [] = omega arith
cells_fall names begin (c ∷ cs) = omega (arith, value_falls c.value, cells_fall names c.end cs)

-- no list of an array reaches as far as the array
pub lists_fall : (ls : List Pairs) → most (λ ps. reach ps + 1) ls ≤ lists_reach ls
lists_fall [] = omega arith
lists_fall (ps ∷ ls) = omega (arith, lists_fall ls)

-- no content of a list reaches as far as the list
pub content_falls : (alloc : Global) (kept : Option (Box Content Global))
    → deep-Nv (record { alloc = alloc; content = kept }) ≤ reach (pairs_kept kept)
content_falls alloc None = omega arith
content_falls alloc (Some b) = omega arith
