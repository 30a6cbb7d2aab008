-- Moments: numbers of nanoseconds below 2^62.
use Rattle.std.specs.Prelude.{ℕ, ◌^◌, ◌-◌, List, Option}
use Rattle.fm_bytes.specs.Decimals.{within, numeral_within}

-- the last moment
abbrev pub last_moment : ℕ
last_moment = 2 ^ 62 - 1

abbrev pub as_moment : ℕ → Option ℕ
as_moment n = within last_moment n

-- the moment that a word of the plain form spells
abbrev pub moment_of_word : List ℕ → Option ℕ
moment_of_word word = numeral_within last_moment word
