-- The bytes of a text, wherever they stand.
use Rattle.std.specs.Prelude.{ℕ, List, string_bytes}
use Rattle.fm_name.specs.declared.inline_text.Place.{Place}
use Rattle.fm_name.specs.declared.inline_text.Place.TheVariants.{Short, Long}

-- what stands in the value, or in the block
abbrev pub placed_bytes : Place → List ℕ
placed_bytes (Short short) = short.bytes
placed_bytes (Long long) = string_bytes long
