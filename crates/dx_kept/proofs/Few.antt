-- A list behind its number in four bytes is short.
use Rattle.std.proofs.Common.{◌≡◌, ℕ, ◌^◌, ◌<◌, Bool, nat_lt, List, length, Some}
use Rattle.std.proofs.lemmas.Bool.{and_parts, ltb-true}
use Rattle.fm_bytes.specs.Numbers.{AllBytes, u32_bytes}
use Rattle.fm_bytes.specs.Reading.{Read, number_from, counted_from}
use Rattle.fm_bytes.proofs.Readers.{IsReader, counted_reader, word_reader}
use Rattle.fm_entry.specs.Words.{link_fits}
use Rattle.fm_entry.specs.WordBytes.{link_bytes}
use Rattle.fm_entry.specs.WordReading.{link_from}
use Rattle.fm_entry.specs.declared.broken.Broken.{Broken}
use Rattle.fm_entry.proofs.SpokenReader.{link_reader}

few_by : {A : Type 0} (fits : A → Bool) (spell : A → List ℕ) (read : List ℕ → Read A)
    → IsReader fits spell read → (bytes : List ℕ) (xs : List A) (rest : List ℕ) → AllBytes bytes
    → counted_from 4 read bytes ≡ Some (xs, rest) → length xs < 2 ^ 32
few_by fits spell read reader bytes xs rest all h =
    let known = (counted_reader 4 fits spell read reader).sound bytes (xs, rest) all h in
    ltb-true (length xs) (256 ^ 4) (and_parts (nat_lt (length xs) (256 ^ 4)) _ known.0).0

pub few_numbers : (bytes xs rest : List ℕ) → AllBytes bytes
    → counted_from 4 (number_from 4) bytes ≡ Some (xs, rest) → length xs < 2 ^ 32
few_numbers bytes xs rest all h =
    few_by (λ n. nat_lt n (2 ^ 32)) u32_bytes (number_from 4) word_reader bytes xs rest all h

pub few_links : (bytes : List ℕ) (xs : List Broken) (rest : List ℕ) → AllBytes bytes
    → counted_from 4 link_from bytes ≡ Some (xs, rest) → length xs < 2 ^ 32
few_links bytes xs rest all h =
    few_by link_fits link_bytes link_from link_reader bytes xs rest all h
