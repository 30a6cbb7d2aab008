-- The grammar of classes, over the bytes of a text.
use Rattle.std.specs.Prelude.{ℕ, Bool, ◌&&◌, ◌||◌, ◌==◌, nat_le, nat_lt, List, [], ◌∷◌, length}
use Rattle.std.specs.Prelude.{false}
use Rattle.std.specs.Char.{is_ascii_alphabetic, is_ascii_alphanumeric}
use Rattle.std.specs.List.{slice_split, list_all}

-- a byte of a piece: an ASCII letter, a digit or `_`
abbrev pub is_piece_byte : ℕ → Bool
is_piece_byte b = is_ascii_alphanumeric b || b == 95

-- a piece: one or more such bytes
abbrev pub is_piece : List ℕ → Bool
is_piece bytes = nat_lt 0 (length bytes) && list_all is_piece_byte bytes

-- a component: pieces joined by single hyphens, at most 32 bytes together
unfoldable pub is_component : List ℕ → Bool
is_component bytes =
    nat_le (length bytes) 32 && list_all is_piece (slice_split (λ b. b == 45) bytes)

-- the first byte is an ASCII letter
abbrev pub starts_with_letter : List ℕ → Bool
starts_with_letter [] = false
starts_with_letter (b ∷ bytes) = is_ascii_alphabetic b

-- the parts of a text between its dots
abbrev pub components_of : List ℕ → List (List ℕ)
components_of bytes = slice_split (λ b. b == 46) bytes

-- one or more components joined by dots
unfoldable pub are_components : List ℕ → Bool
are_components bytes = list_all is_component (components_of bytes)

-- a class: two or more components joined by dots, at most 255 bytes, the first a letter
unfoldable pub is_class : List ℕ → Bool
is_class bytes =
    nat_le (length bytes) 255
    && (starts_with_letter bytes
    && (nat_le 2 (length (components_of bytes)) && are_components bytes))
