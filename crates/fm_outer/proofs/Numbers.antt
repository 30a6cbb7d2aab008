-- A list of four or eight bytes is the spelling of just one number.
use Rattle.std.proofs.Common.{◌≡◌, ℕ, ◌<◌, ◌^◌, List, [], length, get_or, sym, ◌∙◌, ap, arith}
use Rattle.std.proofs.lemmas.List.{append-nil}
use Rattle.std.proofs.lemmas.Nat.{be_bytes_4, be_bytes_8}
use Rattle.byteorder.specs.Endian.{big_bytes, big_number, big_from}
use Rattle.byteorder.specs.Numbers.{big_number-reads_back, length-bytes_high_first}

pub length-big_bytes : (n x : ℕ) → length (big_bytes n x) ≡ n
length-big_bytes n x = length-bytes_high_first n x

-- four bytes are the spelling of the number that they read as
pub spells_four : (xs : List ℕ) → length xs ≡ 4 → ((i : ℕ) → get_or xs i 0 < 256)
    → big_bytes 4 (big_number 4 xs) ≡ xs
spells_four xs long small = be_bytes_4 xs (big_number 4 xs) long small (omega arith)

-- eight bytes are the spelling of the number that they read as
pub spells_eight : (xs : List ℕ) → length xs ≡ 8 → ((i : ℕ) → get_or xs i 0 < 256)
    → big_bytes 8 (big_number 8 xs) ≡ xs
spells_eight xs long small = be_bytes_8 xs (big_number 8 xs) long small (omega arith)

-- a number's bytes read as it
pub reads_back : (n x : ℕ) → x < 256 ^ n → big_number n (big_bytes n x) ≡ x
reads_back n x fits = ap (big_from 0 n) (sym (append-nil (big_bytes n x)))
    ∙ big_number-reads_back n x [] fits

-- two numbers with the same bytes are one
pub same_number : (n x y : ℕ) → x < 256 ^ n → y < 256 ^ n → big_bytes n x ≡ big_bytes n y → x ≡ y
same_number n x y xs ys same = sym (reads_back n x xs) ∙ ap (big_number n) same ∙ reads_back n y ys
