-- Moments as texts: seconds, a dot and a fraction.
use Rattle.std.specs.Prelude.{ℕ, Bool, ◌&&◌, ◌+◌, ◌-◌, ◌*◌, ◌/◌, ◌%◌, ◌^◌, ◌==◌, nat_lt, nat_le}
use Rattle.std.specs.Prelude.{List, ◌∷◌, ◌++◌, length, replicate, decimal, Option, Some, None}
use Rattle.std.specs.Prelude.{if◌then◌else◌}
use Rattle.std.specs.List.{before_first, after_first, list_any}
use Rattle.fm_bytes.specs.Decimals.{are_digits, number_of}

-- the number that a text of digits means, whatever its size
abbrev pub value_of : List ℕ → Option ℕ
value_of text = if are_digits text then Some (number_of text) else None

-- a text of fewer than nine digits with zeros in front, nine together
abbrev pub nine_digits : List ℕ → List ℕ
nine_digits digits = replicate (9 - length digits) 48 ++ digits

-- how a moment of nanoseconds is written: its seconds, a dot, and nine digits
unfoldable pub time_text : ℕ → List ℕ
time_text moment =
    decimal (moment / 1000000000) ++ (46 ∷ nine_digits (decimal (moment % 1000000000)))

-- the nanoseconds that one to nine digits after a dot mean
unfoldable pub fraction_of : List ℕ → Option ℕ
fraction_of digits =
    if (are_digits digits && nat_le (length digits) 9)
    then Some (number_of digits * 10 ^ (9 - length digits)) else None

-- the moment of seconds and nanoseconds, where both are there and it is below 2 ^ 62
abbrev pub moment_from : Option ℕ → Option ℕ → Option ℕ
moment_from (Some seconds) (Some nanoseconds) =
    if nat_lt (seconds * 1000000000 + nanoseconds) (2 ^ 62)
    then Some (seconds * 1000000000 + nanoseconds) else None
moment_from (Some seconds) None = None
moment_from None nanoseconds = None

-- whether there is a dot
abbrev pub has_dot : List ℕ → Bool
has_dot text = list_any (λ b. b == 46) text

-- the moment that a text means: digits, or digits, a dot and one to nine digits
unfoldable pub time_of : List ℕ → Option ℕ
time_of text =
    moment_from (value_of (before_first (λ b. b == 46) text))
    (if has_dot text then fraction_of (after_first (λ b. b == 46) text) else Some 0)
