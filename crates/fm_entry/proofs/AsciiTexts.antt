-- The texts of classes and paths are ASCII, so they are texts.
use Rattle.std.proofs.Common.{ℕ, zero, suc, ◌≤◌, nat_lt, nat_le, IsTrue, List, [], ◌∷◌}
use Rattle.std.proofs.Common.{length, arith}
use Rattle.std.specs.Str.{is_utf8, IsAscii}
use Rattle.std.proofs.lemmas.Bool.{leb-true, ltb-true}
use Rattle.std.proofs.lemmas.Str.{is_utf8-from_IsUtf8, IsUtf8-from_ascii}
use Rattle.fm_name.specs.Class.{is_class}
use Rattle.fm_name.specs.Path.{is_path}
use Rattle.fm_bytes.proofs.Booleans.{and_parts}
use Rattle.fm_entry.proofs.Graphic.{is_graphic, graphic, class_graphic, path_graphic}

graphic_ascii : (bs : List ℕ) → IsTrue (graphic bs) → IsAscii bs
graphic_ascii [] h i = omega arith
graphic_ascii (b ∷ bs) h zero =
    let parts = and_parts (is_graphic b) _ h in
    ltb-true b 128 (and_parts (nat_lt 32 b) (nat_lt b 128) parts.0).1
graphic_ascii (b ∷ bs) h (suc i) = graphic_ascii bs (and_parts (is_graphic b) _ h).1 i

graphic_text : (bs : List ℕ) → IsTrue (graphic bs) → IsTrue (is_utf8 bs)
graphic_text bs h = is_utf8-from_IsUtf8 bs (IsUtf8-from_ascii bs (graphic_ascii bs h))

-- a class is a text of at most 255 bytes
pub class_text : (bs : List ℕ) → IsTrue (is_class bs) → IsTrue (is_utf8 bs) × (length bs ≤ 255)
unfolding is_class
class_text bs h = (
  graphic_text bs (class_graphic bs h),
  leb-true (length bs) 255 (and_parts (nat_le (length bs) 255) _ h).0,
)

-- a path is a text of at most 709 bytes
pub path_text : (bs : List ℕ) → IsTrue (is_path bs) → IsTrue (is_utf8 bs) × (length bs ≤ 709)
unfolding is_path
path_text bs h = (
  graphic_text bs (path_graphic bs h),
  leb-true (length bs) 709 (and_parts (nat_le (length bs) 709) _ h).0,
)
