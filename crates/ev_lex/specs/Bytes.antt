-- The bytes of a rule text, by what they may stand in.
use Rattle.std.specs.Prelude.{ℕ, Bool, false, ◌&&◌, ◌||◌, ◌==◌, not, List, [], ◌∷◌, length, nat_le}
use Rattle.std.specs.Prelude.{Option}
use Rattle.std.specs.Char.{is_ascii_alphanumeric}
use Rattle.fm_bytes.specs.Decimals.{digits_within}
use Rattle.std.specs.List.{take_while}

-- how many bytes from the front on pass a test
abbrev pub count_while : (ℕ → Bool) → List ℕ → ℕ
count_while test bytes = length (take_while test bytes)

-- the first byte is this one
abbrev pub opens : ℕ → List ℕ → Bool
opens b [] = false
opens b (first ∷ others) = first == b

-- a letter, a digit or `_`
abbrev pub is_word_byte : ℕ → Bool
is_word_byte b = is_ascii_alphanumeric b || b == 95

-- the first byte is a letter, a digit or `_`
abbrev pub opens_word : List ℕ → Bool
opens_word [] = false
opens_word (first ∷ others) = is_word_byte first

-- a byte that may stand in a quoted text: 0x20 to 0x7e without `"` and `\`
abbrev pub is_text_byte : ℕ → Bool
is_text_byte b = ((nat_le 32 b && nat_le b 126) && not (b == 34)) && not (b == 92)

-- any byte but a newline
abbrev pub is_in_line : ℕ → Bool
is_in_line b = not (b == 10)

-- a space, a tab or a carriage return
abbrev pub is_blank : ℕ → Bool
is_blank b = (b == 32 || b == 9) || b == 13

-- the number that a run of decimal digits writes, where it is below 2 ^ 64; it may begin with zeros
abbrev pub int_value : List ℕ → Option ℕ
int_value digits = digits_within 18446744073709551615 digits
