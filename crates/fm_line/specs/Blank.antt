-- Lines that are skipped.
use Rattle.std.specs.Prelude.{ℕ, Bool, List, ◌||◌, ◌==◌}
use Rattle.std.specs.List.{list_all}

-- a byte that is a blank: space, tab or carriage return
abbrev pub is_blank : ℕ → Bool
is_blank b = b == 32 || b == 9 || b == 13

-- a line of blanks, or of no bytes
abbrev pub is_blank_line : List ℕ → Bool
is_blank_line line = list_all is_blank line
