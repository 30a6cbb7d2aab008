-- Which lists have a spelling, and what it is.
use Rattle.std.specs.Prelude.{ℕ, ◌^◌, ◌≤◌, ℤ, pos, negsuc, Bool, true, not, ◌&&◌, if◌then◌else◌}
use Rattle.std.specs.Prelude.{nat_lt, nat_le, IsTrue, List, [], ◌∷◌, ◌++◌, length, flat_map}
use Rattle.std.specs.List.{list_all}
use Rattle.std.specs.Str.{is_utf8}
use Rattle.std.specs.Int.{w64, cast_unsigned}
use Rattle.fm_nv.specs.Data.{Pairs, Data, Lists, no_pairs, pair, boolean, unsigned, signed, text}
use Rattle.fm_nv.specs.Data.{nested, unsigneds, texts, lists, no_lists, list_then, count}
use Rattle.fm_nv.specs.Data.{lists_count, has, depth}
use Rattle.fm_bytes.specs.Numbers.{is_unsigned, u16_bytes, u64_bytes, long_text}

-- a name is a text of 1 to 255 bytes
abbrev pub is_pair_name : List ℕ → Bool
is_pair_name k = is_utf8 k && (nat_lt 0 (length k) && nat_le (length k) 255)

-- a text has at most 65,536 bytes
abbrev pub is_text : List ℕ → Bool
is_text t = is_utf8 t && nat_le (length t) 65536

-- each name is one
abbrev pub names_fit : Pairs → Bool
names_fit no_pairs = true
names_fit (pair k d ps) = is_pair_name k && names_fit ps

-- a signed number of 64 bits
abbrev pub is_signed : ℤ → Bool
is_signed (pos n) = nat_lt n (2 ^ 63)
is_signed (negsuc n) = nat_lt n (2 ^ 63)

-- no name stands twice
abbrev pub distinct : Pairs → Bool
distinct no_pairs = true
distinct (pair k d ps) = not (has k ps) && distinct ps

-- a list has at most 65,535 pairs, under distinct names
abbrev pub is_counted : Pairs → Bool
is_counted ps = nat_le (count ps) 65535 && distinct ps

-- What the pairs, a value and the lists of an array need to have a spelling, but for the depth.
abbrev mutual
  pub pairs_fit : Pairs → Bool
  pairs_fit no_pairs = true
  pairs_fit (pair k d ps) = is_pair_name k && (value_fits d && pairs_fit ps)

  pub value_fits : Data → Bool
  value_fits (boolean b) = true
  value_fits (unsigned n) = is_unsigned n
  value_fits (signed z) = is_signed z
  value_fits (text t) = is_text t
  value_fits (nested ps) = is_counted ps && pairs_fit ps
  value_fits (unsigneds ns) = nat_le (length ns) 65535 && list_all is_unsigned ns
  value_fits (texts ts) = nat_le (length ts) 65535 && list_all is_text ts
  value_fits (lists ls) = nat_le (lists_count ls) 65535 && lists_fit ls

  pub lists_fit : Lists → Bool
  lists_fit no_lists = true
  lists_fit (list_then ps ls) = (is_counted ps && pairs_fit ps) && lists_fit ls

-- a list that has a spelling, but for the depth
abbrev pub list_fits : Pairs → Bool
list_fits ps = is_counted ps && pairs_fit ps

-- a list has a spelling: the names are distinct and the counts, names and values within their
-- limits, and no list in it is deeper than 8
pub record IsSpelledList (ps : Pairs) : Type 0 where
  pub fits : IsTrue (list_fits ps)
  pub shallow : depth ps ≤ 8

-- a name behind its length in one byte
abbrev pub name_bytes : List ℕ → List ℕ
name_bytes k = length k ∷ k

-- The spelling of a value is its tag and its content; a list is the number of its pairs, and each
-- name with its value.
abbrev mutual
  pub body_bytes : Pairs → List ℕ
  body_bytes no_pairs = []
  body_bytes (pair k d ps) = (name_bytes k ++ value_bytes d) ++ body_bytes ps

  pub value_bytes : Data → List ℕ
  value_bytes (boolean b) = 1 ∷ (if b then 1 else 0) ∷ []
  value_bytes (unsigned n) = 2 ∷ u64_bytes n
  value_bytes (signed z) = 3 ∷ u64_bytes (cast_unsigned w64 z)
  value_bytes (text t) = 4 ∷ long_text t
  value_bytes (nested ps) = 5 ∷ (u16_bytes (count ps) ++ body_bytes ps)
  value_bytes (unsigneds ns) = 6 ∷ (u16_bytes (length ns) ++ flat_map u64_bytes ns)
  value_bytes (texts ts) = 7 ∷ (u16_bytes (length ts) ++ flat_map long_text ts)
  value_bytes (lists ls) = 8 ∷ (u16_bytes (lists_count ls) ++ lists_bytes ls)

  pub lists_bytes : Lists → List ℕ
  lists_bytes no_lists = []
  lists_bytes (list_then ps ls) = (u16_bytes (count ps) ++ body_bytes ps) ++ lists_bytes ls

-- the spelling of a list
abbrev pub pairs_bytes : Pairs → List ℕ
pairs_bytes ps = u16_bytes (count ps) ++ body_bytes ps
