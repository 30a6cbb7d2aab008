-- Decimal digits in texts, and the numbers that they mean up to a limit.
use Rattle.std.specs.Prelude.{ℕ, ◌==◌, ◌||◌, ◌&&◌, not, Bool, List, length, nat_lt, nat_le}
use Rattle.std.specs.Prelude.{slice_index, Option, Some, None, if◌then◌else◌}
use Rattle.std.specs.List.{list_all}
use Rattle.std.specs.Char.{is_ascii_digit}
use Rattle.std.specs.Str.Parse.{digits_value}

-- one digit or more, and no other byte; zeros may lead
abbrev pub are_digits : List ℕ → Bool
are_digits text = nat_lt 0 (length text) && list_all is_ascii_digit text

-- the first of some digits is no 0, unless it stands alone
abbrev pub leads_plainly : List ℕ → Bool
leads_plainly digits = length digits == 1 || not (slice_index digits 0 == 48)

-- one digit or more, and no leading zero
abbrev pub is_numeral : List ℕ → Bool
is_numeral text = are_digits text && leads_plainly text

-- the value of decimal digits
abbrev pub number_of : List ℕ → ℕ
number_of digits = digits_value 10 digits

-- the number, where it is at most so large
abbrev pub within : ℕ → ℕ → Option ℕ
within most n = if nat_le n most then Some n else None

-- the number that digits mean, zeros in front or not, where it is at most so large
unfoldable pub digits_within : ℕ → List ℕ → Option ℕ
digits_within most text = if are_digits text then within most (number_of text) else None

-- the number that a numeral means, where it is at most so large
unfoldable pub numeral_within : ℕ → List ℕ → Option ℕ
numeral_within most text = if is_numeral text then within most (number_of text) else None
