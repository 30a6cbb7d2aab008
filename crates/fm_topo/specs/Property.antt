-- Properties: a name, `=` and a number or a text in quotes.
use Rattle.std.specs.Prelude.{ℕ, Bool, false, not, ◌&&◌, ◌||◌, ◌==◌, ◌-◌, ◌^◌, nat_lt, nat_le, List}
use Rattle.std.specs.Prelude.{[], ◌∷◌, length, take, drop, slice_index, fold, bytes_eq, Option}
use Rattle.std.specs.Prelude.{Some, None, if◌then◌else◌}
use Rattle.std.specs.List.{list_all, list_any, before_first, after_first}
use Rattle.fm_bytes.specs.Decimals.{is_numeral, number_of}
use Rattle.std.specs.Ordering.{nat_cmp}
use Rattle.std.specs.Cmp.Lexicographic.{slice_cmp}
use Rattle.std.specs.BTreeMap.{insert_entry}
use Rattle.fm_name.specs.Path.{is_name}
use Rattle.fm_topo.specs.declared.values.TopoValue.{TopoValue}
use Rattle.fm_topo.specs.declared.values.TopoValue.TheVariants.{Number, Text}

-- a decimal number below 2 ^ 64 without a leading zero
unfoldable pub is_number : List ℕ → Bool
is_number bytes = is_numeral bytes && nat_lt (number_of bytes) (2 ^ 64)

-- a byte that may stand between quotes: 0x20 to 0x7e without `"` and `\`
abbrev pub is_text_byte : ℕ → Bool
is_text_byte b = (nat_le 32 b && nat_le b 126) && not (b == 34 || b == 92)

-- what stands between the first and the last byte
abbrev pub inner_of : List ℕ → List ℕ
inner_of bytes = take (length bytes - 2) (drop 1 bytes)

-- a text in quotes
unfoldable pub is_quoted : List ℕ → Bool
is_quoted bytes =
    nat_le 2 (length bytes)
    && (slice_index bytes 0 == 34 &&
    (slice_index bytes (length bytes - 1) == 34 && list_all is_text_byte (inner_of bytes)))

-- the value that the text behind `=` means
unfoldable pub value_of : List ℕ → TopoValue
value_of bytes = if is_number bytes then Number (number_of bytes) else Text (inner_of bytes)

-- the name in a word: what stands before its first `=`
abbrev pub property_name : List ℕ → List ℕ
property_name word = before_first (λ b. b == 61) word

-- a word that is a property
unfoldable pub is_property : List ℕ → Bool
is_property word =
    is_name (property_name word)
    && (is_number (after_first (λ b. b == 61) word) || is_quoted (after_first (λ b. b == 61) word))

-- what the text behind `=` means, where it is a value
unfoldable pub value_read : List ℕ → Option TopoValue
value_read bytes = if (is_number bytes || is_quoted bytes) then Some (value_of bytes) else None

-- what a name and a value mean together, where they are such
unfoldable pub pair_read : List ℕ → List ℕ → Option (List ℕ × TopoValue)
pair_read name value =
    if (is_name name && (is_number value || is_quoted value)) then Some (name, value_of value)
    else None

-- what a word means, where it is a property
unfoldable pub property_read : List ℕ → Option (List ℕ × TopoValue)
property_read word = if is_property word then Some
    (property_name word, value_of (after_first (λ b. b == 61) word)) else None

-- the properties of a path: a finite map from names to values, as the list of its pairs in byte
-- order of the names
abbrev pub Properties : Type 0
Properties = List (List ℕ × TopoValue)

-- the properties with that of one more word
unfoldable pub with_word : Properties → List ℕ → Properties
with_word found word =
    insert_entry (slice_cmp nat_cmp) found (property_name word)
    (value_of (after_first (λ b. b == 61) word))

-- the properties that words mean
unfoldable pub properties_of : List (List ℕ) → Properties
properties_of words = fold with_word [] words

-- whether a name stands twice among names
abbrev pub has_twin : List (List ℕ) → Bool
has_twin [] = false
has_twin (name ∷ names) = list_any (bytes_eq name) names || has_twin names
