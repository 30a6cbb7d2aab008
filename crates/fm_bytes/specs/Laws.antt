-- What is said of all numbers in bytes at once.
use Rattle.std.specs.Prelude.{◌≡◌, ℕ, ◌^◌, ◌<◌, List, ◌++◌, length, Some}
use Rattle.byteorder.specs.Endian.{big_bytes, big_number}
use Rattle.fm_bytes.specs.Numbers.{AllBytes}
use Rattle.fm_bytes.specs.Reading.{number_from}

-- two lists of n bytes that read as the same number are the same
abbrev pub OneSpelling : Type 0
OneSpelling =
    (n : ℕ) (xs ys : List ℕ) → length xs ≡ n → length ys ≡ n → AllBytes xs → AllBytes ys
    → big_number n xs ≡ big_number n ys → xs ≡ ys

-- what a number is written in reads as the number, and leaves what follows
abbrev pub ReadsBack : Type 0
ReadsBack = (n x : ℕ) (rest : List ℕ) → x < 256 ^ n
    → number_from n (big_bytes n x ++ rest) ≡ Some (x, rest)
