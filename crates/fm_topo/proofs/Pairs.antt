-- Values and properties, as they are printed and read.
use Rattle.std.proofs.Common.{◌≡◌, ◌<◌, ◌≤◌, ◌+◌, ◌-◌, ◌^◌, ℕ, suc, Bool, true, false, not}
use Rattle.std.proofs.Common.{◌||◌, List, [], ◌∷◌, ◌++◌, length, take, drop, map, fold}
use Rattle.std.proofs.Common.{decimal, refl, arith, ap, sym, ◌∙◌, subst, nat_lt, nat_le}
use Rattle.std.proofs.Common.{slice_index, length-take-le, length-drop, length-append, append_assoc}
use Rattle.std.proofs.Common.{append-nil}
use Rattle.std.specs.Prelude.{◌==◌, if◌then◌else◌}
use Rattle.std.specs.List.{list_all, before_first, after_first, AllByRecursion}
use Rattle.std.specs.List.Sorted.{IsStrictlySortedBy}
use Rattle.std.specs.Map.{keys_of}
use Rattle.std.specs.Char.{is_ascii_digit}
use Rattle.std.specs.Str.Parse.{digits_value}
use Rattle.std.specs.Ordering.{nat_cmp}
use Rattle.std.specs.Cmp.Lexicographic.{slice_cmp, nat_list_cmp_total}
use Rattle.std.specs.BTreeMap.{insert_entry}
use Rattle.std.proofs.Math.Seq.{take-append_seam, get_or-append_seam}
use Rattle.std.proofs.lemmas.Bool.{lt-ltb}
use Rattle.std.proofs.lemmas.Fmt.{decimal_is_IsNumeral}
use Rattle.fm_bytes.specs.Decimals.{is_numeral, number_of}
use Rattle.fm_bytes.proofs.Numerals.{decimal_numeral, digits_test, numeral_text}
use Rattle.std.proofs.lemmas.Grind.{common_steps}
use Rattle.fm_name.specs.Path.{is_name}
use Rattle.fm_name.specs.OrderLaws.{bytes_tie}
use Rattle.fm_topo.specs.Property.{Properties, is_number, is_quoted, is_property, is_text_byte}
use Rattle.fm_topo.specs.Property.{inner_of, value_of, with_word, properties_of}
use Rattle.fm_topo.specs.Printed.{value_text, properties_text}
use Rattle.fm_topo.specs.Lawful.{is_value, is_pair}
use Rattle.fm_topo.specs.declared.values.TopoValue.{TopoValue}
use Rattle.fm_topo.specs.declared.values.TopoValue.TheVariants.{Number, Text}
use Rattle.fm_topo.proofs.Maps.{total, total_push, all_insert, sorted_insert, total_insert}
use Rattle.fm_topo.proofs.Maps.{fold_ascending}
use Rattle.fm_topo.proofs.Cuts.{and_both, both_and, all_weaker, before_at, after_at, before_length}
use Rattle.fm_topo.proofs.Cuts.{after_length, inside, is_name_byte, name_bytes}

-- ---- numbers
below : (n : ℕ) → nat_lt n (2 ^ 64) ≡ true → n < 2 ^ 64
below n e = grind (arith, common_steps)

below_test : (n : ℕ) → n < 2 ^ 64 → nat_lt n (2 ^ 64) ≡ true
below_test n h = grind (arith, common_steps)

number_parts : (bs : List ℕ) → is_number bs ≡ true
    → (is_numeral bs ≡ true) × (0 < length bs) × (number_of bs < 2 ^ 64)
unfolding is_number
number_parts bs h =
    let a = and_both (is_numeral bs) (nat_lt (number_of bs) (2 ^ 64)) h in
    (a.0, some_bytes bs a.0, below (number_of bs) a.1)
  where
    some_bytes : (bs : List ℕ) → is_numeral bs ≡ true → 0 < length bs
    some_bytes bs e = grind (arith, common_steps)

-- a number without a leading zero is what is printed of its value
pub number_text : (bs : List ℕ) → is_number bs ≡ true → decimal (digits_value 10 bs) ≡ bs
number_text bs h = let p = number_parts bs h in sym (numeral_text bs p.0 p.2)

pub decimal_digits : (n : ℕ) → n < 2 ^ 64 → list_all is_ascii_digit (decimal n) ≡ true
decimal_digits n h = digits_test (decimal n) (decimal_is_IsNumeral n h).0.1

pub decimal_number : (n : ℕ) → n < 2 ^ 64 → is_number (decimal n) ≡ true
unfolding is_number
decimal_number n h =
    both_and _ _ (decimal_numeral n h)
    (below_test _ (subst (λ m. m < 2 ^ 64) (sym (decimal_is_IsNumeral n h).1) h))

-- ---- texts in quotes
not_digit : (bs : List ℕ) → list_all is_ascii_digit (34 ∷ bs) ≡ false
not_digit bs = refl

quoted_not_number : (bs : List ℕ) → is_number (34 ∷ bs) ≡ false
unfolding is_number
quoted_not_number bs =
    let some : nat_lt 0 (length (34 ∷ bs)) ≡ true = lt-ltb 0 (length (34 ∷ bs)) (omega arith) in
    rw some refl

inner_back : (text : List ℕ) → inner_of (34 ∷ (text ++ (34 ∷ []))) ≡ text
inner_back text =
    let n : length (34 ∷ (text ++ (34 ∷ []))) - 2 ≡ length text =
    (let l = length-append text (34 ∷ []) in omega (arith, l)) in
    ap (λ k. take k (text ++ (34 ∷ []))) n ∙ take-append_seam text (34 ∷ [])

last_quote : (text : List ℕ)
    → slice_index (34 ∷ (text ++ (34 ∷ []))) (length (34 ∷ (text ++ (34 ∷ []))) - 1) ≡ 34
last_quote text =
    let n : length (34 ∷ (text ++ (34 ∷ []))) - 1 ≡ suc (length text) =
    (let l = length-append text (34 ∷ []) in omega (arith, l)) in
    ap (slice_index (34 ∷ (text ++ (34 ∷ [])))) n ∙ get_or-append_seam text 34 [] 0

pub quoted_back : (text : List ℕ) → list_all is_text_byte text ≡ true
    → is_quoted (34 ∷ (text ++ (34 ∷ []))) ≡ true
unfolding is_quoted
quoted_back text h =
    let two : nat_le 2 (length (34 ∷ (text ++ (34 ∷ [])))) ≡ true =
    (let l = length-append text (34 ∷ []) in grind (arith, common_steps)) in
    let last : (slice_index (34 ∷ (text ++ (34 ∷ []))) (length (34 ∷ (text ++ (34 ∷ []))) - 1) ==
    34) ≡ true = rw (last_quote text) refl in
    let inner : list_all is_text_byte (inner_of (34 ∷ (text ++ (34 ∷ [])))) ≡ true =
    ap (list_all is_text_byte) (inner_back text) ∙ h in
    both_and _ _ two (both_and _ _ last inner)

-- ---- values
pub value_good : (value : TopoValue) → is_value value ≡ true
    → (is_number (value_text value) || is_quoted (value_text value)) ≡ true
value_good (Number n) h = let k : n < 2 ^ 64 = grind (arith, common_steps) in
    rw (decimal_number n k) refl
value_good (Text text) h = rw (quoted_not_number (text ++ (34 ∷ []))) (quoted_back text h)

pub value_back : (value : TopoValue) → is_value value ≡ true → value_of (value_text value) ≡ value
unfolding value_of
value_back (Number n) h = let k : n < 2 ^ 64 = grind (arith, common_steps) in
    rw (decimal_number n k) (ap Number (decimal_is_IsNumeral n k).1)
value_back (Text text) h = rw (quoted_not_number (text ++ (34 ∷ []))) (ap Text (inner_back text))

-- what is read is a value, and what is printed of it is as long
quoted_parts : (bs : List ℕ) → is_quoted bs ≡ true → (2 ≤ length bs)
    × (list_all is_text_byte (inner_of bs) ≡ true)
unfolding is_quoted
quoted_parts bs h =
    let a = and_both (nat_le 2 (length bs)) _ h in
    let b = and_both (slice_index bs 0 == 34) _ a.1 in
    let c = and_both (slice_index bs (length bs - 1) == 34) (list_all is_text_byte (inner_of bs))
    b.1 in
    (two (length bs) a.0, c.1)
  where
    two : (n : ℕ) → nat_le 2 n ≡ true → 2 ≤ n
    two n e = grind (arith, common_steps)

quoted_length : (bs : List ℕ) → 2 ≤ length bs → length (value_text (Text (inner_of bs))) ≡ length bs
quoted_length bs h =
    let l : length (inner_of bs) ≡ length bs - 2 =
    length-take-le (length bs - 2) (drop 1 bs) (omega (arith, length-drop 1 bs)) in
    let k = length-append (inner_of bs) (34 ∷ []) in
    omega (arith, l, k)

read_at : (bs : List ℕ) (t : Bool) → is_number bs ≡ t → (t || is_quoted bs) ≡ true
    → (is_value (if t then Number (digits_value 10 bs) else Text (inner_of bs)) ≡ true)
    × (length (value_text (if t then Number (digits_value 10 bs) else Text (inner_of bs)))
    ≡ length bs) × (0 < length bs)
read_at bs true e h =
    let p = number_parts bs e in
    (below_test (digits_value 10 bs) p.2, ap length (number_text bs e), p.1)
read_at bs false e h =
    let p = quoted_parts bs h in
    (p.1, quoted_length bs p.0, omega (arith, p.0))

value_from : (bs : List ℕ) → (is_number bs || is_quoted bs) ≡ true → (is_value (value_of bs) ≡ true)
    × (length (value_text (value_of bs)) ≡ length bs) × (0 < length bs)
unfolding value_of
value_from bs h = read_at bs (is_number bs) refl h

-- ---- properties
-- the text of a property
abbrev pub pair_text : List ℕ × TopoValue → List ℕ
pair_text p = p.0 ++ (61 ∷ value_text p.1)

not_equals_byte : (x : ℕ) → is_name_byte x ≡ true → not (x == 61) ≡ true
not_equals_byte x h = grind (arith, common_steps)

pub no_equals : (name : List ℕ) → is_name name ≡ true → list_all (λ x. not (x == 61)) name ≡ true
no_equals name h = all_weaker is_name_byte (λ x. not (x == 61)) not_equals_byte name
    (name_bytes name h)

pub name_back : (p : List ℕ × TopoValue) → is_pair p ≡ true
    → before_first (λ b. b == 61) (pair_text p) ≡ p.0
name_back p h = before_at (λ b. b == 61) p.0 (value_text p.1) 61
    (no_equals p.0 (and_both (is_name p.0) (is_value p.1) h).0) refl

pub text_back : (p : List ℕ × TopoValue) → is_pair p ≡ true
    → after_first (λ b. b == 61) (pair_text p) ≡ value_text p.1
text_back p h = after_at (λ b. b == 61) p.0 (value_text p.1) 61
    (no_equals p.0 (and_both (is_name p.0) (is_value p.1) h).0) refl

pub property_back : (p : List ℕ × TopoValue) → is_pair p ≡ true → is_property (pair_text p) ≡ true
unfolding is_property
property_back p h =
    let t = and_both (is_name p.0) (is_value p.1) h in
    let n : is_name (before_first (λ b. b == 61) (pair_text p)) ≡ true = ap is_name (name_back p h)
    ∙ t.0 in
    let v : (is_number (after_first (λ b. b == 61) (pair_text p)) || is_quoted
    (after_first (λ b. b == 61) (pair_text p))) ≡ true =
    ap (λ z. is_number z || is_quoted z) (text_back p h) ∙ value_good p.1 t.1 in
    both_and _ _ n v

word_back : (found : Properties) (p : List ℕ × TopoValue) → is_pair p ≡ true
    → with_word found (pair_text p) ≡ insert_entry (slice_cmp nat_cmp) found p.0 p.1
unfolding with_word
word_back found p h =
    ap (λ n. insert_entry (slice_cmp nat_cmp) found n
    (value_of (after_first (λ b. b == 61) (pair_text p)))) (name_back p h)
    ∙ ap (insert_entry (slice_cmp nat_cmp) found p.0) (ap value_of (text_back p h)
    ∙ value_back p.1 (and_both (is_name p.0) (is_value p.1) h).1)

all_pairs : (ps : Properties) → list_all is_pair ps ≡ true
    → AllByRecursion (λ p. is_pair p ≡ true) ps
all_pairs [] h = tt
all_pairs (p ∷ ps) h = let t = and_both (is_pair p) (list_all is_pair ps) h in
    (t.0, all_pairs ps t.1)

pub pairs_all : (ps : Properties) → AllByRecursion (λ p. is_pair p ≡ true) ps
    → list_all is_pair ps ≡ true
pairs_all [] a = refl
pairs_all (p ∷ ps) a = both_and (is_pair p) (list_all is_pair ps) a.0 (pairs_all ps a.1)

-- properties in order are what their words mean
pub properties_back : (ps : Properties) → list_all is_pair ps ≡ true
    → IsStrictlySortedBy (slice_cmp nat_cmp) (keys_of ps) → properties_of (map pair_text ps) ≡ ps
unfolding properties_of
properties_back ps h s =
    fold_ascending nat_list_cmp_total bytes_tie (λ p. is_pair p ≡ true) with_word pair_text
    word_back [] ps s (all_pairs ps h)

pub words_back : (ps : Properties) → list_all is_pair ps ≡ true
    → list_all is_property (map pair_text ps) ≡ true
words_back [] h = refl
words_back (p ∷ ps) h =
    let t = and_both (is_pair p) (list_all is_pair ps) h in
    both_and (is_property (pair_text p)) (list_all is_property (map pair_text ps))
    (property_back p t.0) (words_back ps t.1)

-- ---- the properties that words mean
-- properties in order, with names and values, whose texts are no longer than words
pub record AreRead (words : List (List ℕ)) (ps : Properties) : Type 0 where
  pub pairs : AllByRecursion (λ p. is_pair p ≡ true) ps
  pub names : IsStrictlySortedBy (slice_cmp nat_cmp) (keys_of ps)
  pub size : total (λ p. length (pair_text p) + 1) ps ≤ total (λ w. length w + 1) words

word_pair : (word : List ℕ) → is_property word ≡ true
    → (is_pair (before_first (λ b. b == 61) word, value_of (after_first (λ b. b == 61) word))
    ≡ true)
    × (length (pair_text (
      before_first (λ b. b == 61) word,
      value_of (after_first (λ b. b == 61) word),
    )) ≡ length word)
unfolding is_property
word_pair word h =
    let name = before_first (λ b. b == 61) word in
    let text = after_first (λ b. b == 61) word in
    let t = and_both (is_name name) (is_number text || is_quoted text) h in
    let v = value_from text t.1 in
    let i = inside (λ b. b == 61) word v.2 in
    let l = length-append name (61 ∷ value_text (value_of text)) in
    let b = before_length (λ b. b == 61) word in
    let a = after_length (λ b. b == 61) word in
    (both_and (is_name name) (is_value (value_of text)) t.0 v.0, omega (arith, l, b, a, v.1, i))

one_more : (words : List (List ℕ)) (word : List ℕ) (ps : Properties) → AreRead words ps
    → is_property word ≡ true → AreRead (words ++ (word ∷ [])) (with_word ps word)
unfolding with_word
one_more words word ps r h =
    let w = word_pair word h in
    let name = before_first (λ b. b == 61) word in
    let value = value_of (after_first (λ b. b == 61) word) in
    let s = total_insert nat_list_cmp_total bytes_tie (λ p. length (pair_text p) + 1) ps name value
    in
    let t = total_push (λ w. length w + 1) words word in
    let z = r.size in
    record {
      pairs = all_insert nat_list_cmp_total bytes_tie (λ p. is_pair p ≡ true) ps name value r.pairs
          w.0;
      names = sorted_insert nat_list_cmp_total bytes_tie ps name value r.names;
      size = omega (arith, s, t, z, w.1);
    }

read_more : (before after : List (List ℕ)) (ps : Properties) → AreRead before ps
    → list_all is_property after ≡ true → AreRead (before ++ after) (fold with_word ps after)
read_more before [] ps r h = subst (λ z. AreRead z ps) (sym (append-nil before)) r
read_more before (word ∷ after) ps r h =
    let t = and_both (is_property word) (list_all is_property after) h in
    subst (λ z. AreRead z (fold with_word (with_word ps word) after))
    (append_assoc before (word ∷ []) after)
    (read_more (before ++ (word ∷ [])) after (with_word ps word) (one_more before word ps r t.0)
    t.1)

pub read_all : (words : List (List ℕ)) → list_all is_property words ≡ true
    → AreRead words (properties_of words)
unfolding properties_of IsStrictlySortedBy
read_all words h = read_more [] words [] (record { pairs = tt; names = tt; size = omega arith }) h

-- the length of printed properties
pub properties_length : (ps : Properties)
    → length (properties_text ps) ≡ total (λ p. length (pair_text p) + 1) ps
properties_length [] = refl
properties_length (p ∷ ps) =
    let l = length-append (32 ∷ pair_text p) (properties_text ps) in
    omega (arith, l, properties_length ps)
