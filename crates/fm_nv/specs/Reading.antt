-- What the front of some bytes reads as: names, values and lists, with the bytes that are left.
use Rattle.std.specs.Prelude.{ℕ, zero, suc, ◌==◌, if◌then◌else◌, nat_lt, List, [], ◌∷◌, Some, None}
use Rattle.std.specs.Int.{w64, cast_signed}
use Rattle.fm_bytes.specs.Reading.{Read, after, made, number_from, text_of_length, long_text_from}
use Rattle.fm_bytes.specs.Reading.{flag_from, counted_from}
use Rattle.fm_nv.specs.Data.{Pairs, Data, no_pairs, pair, boolean, unsigned, signed, text, nested}
use Rattle.fm_nv.specs.Data.{unsigneds, texts, lists, lists_of}
use Rattle.fm_nv.specs.Spelled.{distinct}

-- a name of 1 to 255 bytes behind its length in one byte
unfoldable pub name_from : List ℕ → Read (List ℕ)
name_from bytes = after (number_from 1 bytes)
    (λ n rest. if nat_lt 0 n then text_of_length n rest else None)

-- a value of the kind that a tag names; `list` reads a list
unfoldable pub tagged_from : (List ℕ → Read Pairs) → ℕ → List ℕ → Read Data
tagged_from list tag bytes =
    if tag == 1 then made boolean (flag_from bytes)
    else (if tag == 2 then made unsigned (number_from 8 bytes)
    else (if tag == 3 then made (λ n. signed (cast_signed w64 n)) (number_from 8 bytes)
    else (if tag == 4 then made text (long_text_from 65536 bytes)
    else (if tag == 5 then made nested (list bytes)
    else (if tag == 6 then made unsigneds (counted_from 2 (number_from 8) bytes)
    else (if tag == 7 then made texts (counted_from 2 (long_text_from 65536) bytes)
    else (if tag == 8 then made (λ ls. lists (lists_of ls)) (counted_from 2 list bytes)
    else None)))))))

-- a value: its tag and its content
unfoldable pub value_from : (List ℕ → Read Pairs) → List ℕ → Read Data
value_from list bytes = after (number_from 1 bytes) (λ tag rest. tagged_from list tag rest)

-- a name and its value
unfoldable pub pair_from : (List ℕ → Read Pairs) → List ℕ → Read (List ℕ × Data)
pair_from list bytes =
    after (name_from bytes) (λ k rest. after (value_from list rest) (λ d more. Some ((k, d), more)))

-- the list of some names and values
abbrev pub listed : List (List ℕ × Data) → Pairs
listed [] = no_pairs
listed (p ∷ ps) = pair p.0 p.1 (listed ps)

-- the names and values of a list
abbrev pub to_pairs : Pairs → List (List ℕ × Data)
to_pairs no_pairs = []
to_pairs (pair k d ps) = (k, d) ∷ to_pairs ps

-- a list whose names are distinct
abbrev pub kept : Pairs → List ℕ → Read Pairs
kept ps rest = if distinct ps then Some (ps, rest) else None

-- a list that is at most so deep
unfoldable pub list_from : ℕ → List ℕ → Read Pairs
list_from zero bytes = None
list_from (suc deep) bytes =
    after (counted_from 2 (pair_from (list_from deep)) bytes)
    (λ found rest. kept (listed found) rest)
