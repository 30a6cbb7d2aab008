-- The words of a line.
use Rattle.std.proofs.Common.{◌≡◌, ◌+◌, ◌^◌, ℕ, Bool, true, false, ◌&&◌, ◌||◌, List, [], ◌∷◌}
use Rattle.std.proofs.Common.{length, refl, arith, ap, ◌∙◌, Option, Some, None}
use Rattle.std.proofs.Common.{nat_lt, nat_le}
use Rattle.std.specs.Prelude.{◌==◌, if◌then◌else◌}
use Rattle.std.specs.List.{list_all, position_or_len, before_first, after_first}
use Rattle.std.proofs.lemmas.Bool.Decides.{nat_tests}
use Rattle.fm_bytes.specs.Decimals.{is_numeral, number_of, numeral_within}
use Rattle.std.proofs.lemmas.List.{drop_all}
use Rattle.fm_name.specs.Path.{is_name}
use Rattle.std.specs.Prelude.{fold}
use Rattle.std.specs.BTreeMap.{insert_entry}
use Rattle.std.specs.Ordering.{nat_cmp}
use Rattle.std.specs.Cmp.Lexicographic.{slice_cmp}
use Rattle.fm_topo.specs.Property.{Properties, with_word, is_number, is_quoted, is_property}
use Rattle.fm_topo.specs.Property.{inner_of, value_of, value_read, pair_read, property_read}
use Rattle.fm_topo.specs.declared.values.TopoValue.{TopoValue}
use Rattle.fm_topo.specs.declared.values.TopoValue.TheVariants.{Number, Text}

-- ---- numbers
same_tests : (n : ℕ) → nat_le n 18446744073709551615 ≡ nat_lt n (2 ^ 64)
same_tests n = grind (arith, nat_tests)

both_tests : (a b c : Bool) (n : ℕ) → b ≡ c
    → (if a then (if b then Some n else None) else None) ≡ (if (a && c) then Some n else None)
both_tests true b c n e = ap (λ (t : Bool). if t then Some n else None) e
both_tests false b c n e = refl

-- what the reader of numerals answers
pub number_read : (bs : List ℕ)
    → numeral_within 18446744073709551615 bs ≡ (if is_number bs then Some (number_of bs) else None)
unfolding numeral_within is_number
number_read bs = both_tests (is_numeral bs) (nat_le (number_of bs) 18446744073709551615)
    (nat_lt (number_of bs) (2 ^ 64)) (number_of bs) (same_tests (number_of bs))

-- ---- values
number_at : (n q : Bool) (v m : ℕ) (t : List ℕ) → Some m ≡ (if n then Some v else None)
    → Some (Number m) ≡ (if (n || q) then Some (if n then Number v else Text t) else None)
number_at true q v m t e = let k : m ≡ v = cc in ap (λ z. Some (Number z)) k
number_at false q v m t e = cc

pub value_number : (bs : List ℕ) (m : ℕ) → Some m ≡ numeral_within 18446744073709551615 bs
    → Some (Number m) ≡ value_read bs
unfolding value_read value_of
value_number bs m e =
    number_at (is_number bs) (is_quoted bs) (number_of bs) m (inner_of bs) (e ∙ number_read bs)

text_at : (n q : Bool) (v : ℕ) (t u : List ℕ) → None ≡ (if n then Some v else None) → q ≡ true
    → u ≡ t
    → Some (Text u) ≡ (if (n || q) then Some (if n then Number v else Text t) else None)
text_at true q v t u e f g = cc
text_at false q v t u e f g = rw f (ap (λ z. Some (Text z)) g)

pub value_quoted : (bs u : List ℕ) → None ≡ numeral_within 18446744073709551615 bs
    → is_quoted bs ≡ true → u ≡ inner_of bs → Some (Text u) ≡ value_read bs
unfolding value_read value_of
value_quoted bs u e f g =
    text_at (is_number bs) (is_quoted bs) (number_of bs) (inner_of bs) u (e ∙ number_read bs) f g

none_at : (n q : Bool) (v : ℕ) (t : TopoValue) → None ≡ (if n then Some v else None) → q ≡ false
    → None ≡ (if (n || q) then Some t else None)
none_at true q v t e f = cc
none_at false q v t e f = rw f refl

pub value_none : (bs : List ℕ) → None ≡ numeral_within 18446744073709551615 bs
    → is_quoted bs ≡ false → None ≡ value_read bs
unfolding value_read
value_none bs e f = none_at (is_number bs) (is_quoted bs) (number_of bs) (value_of bs)
    (e ∙ number_read bs) f

-- what the value behind `=` is read as
pub ruleset values_read = (value_number, value_none, value_quoted)

-- ---- pairs
pub pair_unnamed : (name value : List ℕ) → is_name name ≡ false → None ≡ pair_read name value
unfolding pair_read
pair_unnamed name value e = rw e refl

abbrev pair_of : List ℕ → TopoValue → List ℕ × TopoValue
pair_of n v = (n, v)

pair_at : (q : Bool) (v w : TopoValue) (n m : List ℕ) → Some v ≡ (if q then Some w else None)
    → m ≡ n → Some (pair_of m v) ≡ (if q then Some (pair_of n w) else None)
pair_at true v w n m e f = let k : v ≡ w = cc in cc
pair_at false v w n m e f = cc

pub pair_some : (name value m : List ℕ) (v : TopoValue) → is_name name ≡ true
    → Some v ≡ value_read value → m ≡ name → Some (pair_of m v) ≡ pair_read name value
unfolding pair_read value_read
pair_some name value m v e f g =
    rw e (pair_at (is_number value || is_quoted value) v (value_of value) name m f g)

pair_none_at : (q : Bool) (w : TopoValue) (n : List ℕ) → None ≡ (if q then Some w else None)
    → None ≡ (if q then Some (pair_of n w) else None)
pair_none_at true w n e = cc
pair_none_at false w n e = refl

pub pair_none : (name value : List ℕ) → is_name name ≡ true → None ≡ value_read value
    → None ≡ pair_read name value
unfolding pair_read value_read
pair_none name value e f =
    rw e (pair_none_at (is_number value || is_quoted value) (value_of value) name f)

-- what a name and a value are read as
pub ruleset pairs_read = (pair_unnamed, pair_some, pair_none)

-- ---- words
pub property_some : (word name value : List ℕ) (found : Option (List ℕ × TopoValue))
    → name ≡ before_first (λ b. b == 61) word → value ≡ after_first (λ b. b == 61) word
    → found ≡ pair_read name value → found ≡ property_read word
unfolding pair_read property_read is_property
property_some word name value found e f g = g
    ∙ (ap (λ n. pair_read n value) e ∙ ap (pair_read (before_first (λ b. b == 61) word)) f)

no_value : (n : Bool) (x : List ℕ × TopoValue) → None ≡ (if (n && false) then Some x else None)
no_value true x = refl
no_value false x = refl

pub property_none : (word : List ℕ) → position_or_len (λ b. b == 61) word ≡ length word
    → None ≡ property_read word
unfolding property_read is_property is_number is_quoted
property_none word h =
    let d : after_first (λ b. b == 61) word ≡ [] =
    rw h (drop_all (length word + 1) word (omega arith)) in
    rw d (no_value (is_name (before_first (λ b. b == 61) word))
    (before_first (λ b. b == 61) word, value_of []))

-- what a word is read as
pub ruleset properties_read = (property_some, property_none)

-- ---- all words of a line
property_at : (p : Bool) (x y : List ℕ × TopoValue) → Some x ≡ (if p then Some y else None)
    → (p ≡ true) × (x ≡ y)
property_at true x y e = (refl, cc)
property_at false x y e = cc

property_is : (word name : List ℕ) (value : TopoValue)
    → Some (pair_of name value) ≡ property_read word
    → (is_property word ≡ true)
    × (pair_of name value
    ≡ pair_of (before_first (λ b. b == 61) word) (value_of (after_first (λ b. b == 61) word)))
unfolding property_read
property_is word name value e =
    property_at (is_property word) (pair_of name value)
    (pair_of (before_first (λ b. b == 61) word) (value_of (after_first (λ b. b == 61) word))) e

pub word_added : (word name : List ℕ) (value : TopoValue) (found new : Properties)
    → Some (pair_of name value) ≡ property_read word
    → new ≡ insert_entry (slice_cmp nat_cmp) found name value → new ≡ with_word found word
unfolding with_word
word_added word name value found new e f =
    f ∙ ap (λ p. insert_entry (slice_cmp nat_cmp) found p.0 p.1) (property_is word name value e).1

pub word_good : (word name : List ℕ) (value : TopoValue)
    → Some (pair_of name value) ≡ property_read word → is_property word ≡ true
word_good word name value e = (property_is word name value e).0

not_property : (p : Bool) (y : List ℕ × TopoValue) → None ≡ (if p then Some y else None) → p ≡ false
not_property true y e = cc
not_property false y e = refl

pub word_bad : (word : List ℕ) → None ≡ property_read word → is_property word ≡ false
unfolding property_read
word_bad word e = not_property (is_property word) _ e

-- one word is put into a map, or is no property
pub ruleset one_word = (word_added, word_good, word_bad)

-- the words of a text, the first of which is no property
pub words_bad : (words rest : List (List ℕ)) (word : List ℕ) → words ≡ word ∷ rest
    → false ≡ is_property word → false ≡ list_all is_property words
words_bad words rest word e f = rw (e, ← f) refl

-- the words of a text whose first is a property
pub words_good : (words rest : List (List ℕ)) (word : List ℕ) (b : Bool) → words ≡ word ∷ rest
    → true ≡ is_property word
    → b ≡ list_all is_property rest → b ≡ list_all is_property words
words_good words rest word b e f g = rw (e, ← f) g

pub words_folded : (words rest : List (List ℕ)) (word : List ℕ) (found new last : Properties)
    → words ≡ word ∷ rest
    → new ≡ with_word found word → last ≡ fold with_word new rest
    → last ≡ fold with_word found words
words_folded words rest word found new last e f g = rw e (g ∙ ap (λ z. fold with_word z rest) f)

pub words_counted : (words rest : List (List ℕ)) (word : List ℕ) (n : ℕ) → words ≡ word ∷ rest
    → n ≡ length rest → n + 1 ≡ length words
words_counted words rest word n e f = omega (arith, ap length e)

-- the words of a text are put into a map, one after the other
pub ruleset all_words = (words_bad, words_good, words_folded, words_counted)
