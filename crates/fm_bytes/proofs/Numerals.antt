-- A text reads as a numeral just where it is the number in decimal.
use Rattle.std.proofs.Common.{◌≡◌, ℕ, zero, suc, ◌||◌, ◌^◌, ◌<◌, ◌≤◌, ◌==◌, ◌∷◌, [], List, Bool}
use Rattle.std.proofs.Common.{true, false, cond, not, length, Option, Some, None, IfSome, IsTrue}
use Rattle.std.proofs.Common.{refl, sym, ap, ◌∙◌, arith, nat_lt, nat_le, get_or, decimal}
use Rattle.std.specs.List.{list_all}
use Rattle.std.specs.Char.{is_ascii_digit, digit_value}
use Rattle.std.specs.Str.Parse.{AllDigits, digits_value}
use Rattle.std.proofs.lemmas.Bool.{lt-ltb, ltb-true, le-leb, leb-true, eqb-true, false≢true}
use Rattle.std.proofs.lemmas.Bool.Decides.{nat_tests}
use Rattle.std.proofs.lemmas.Fmt.{decimal_is_IsNumeral, first_decimal, decimal_digit}
use Rattle.std.proofs.lemmas.Fmt.{decimal-digits_value}
use Rattle.std.proofs.lemmas.Str.Parse.{digit_from_value, IsNumeralModel, numerals_by_value}
use Rattle.std.proofs.lemmas.Str.Parse.{tells_digits}
use Rattle.fm_bytes.proofs.Booleans.{and_parts, and_true}
use Rattle.fm_bytes.specs.Decimals.{are_digits, is_numeral, leads_plainly, number_of, within}
use Rattle.fm_bytes.specs.Decimals.{numeral_within}

-- ---- digits

digit_below : (b : ℕ) → 48 ≤ b → b ≤ 57 → digit_value b < 10
digit_below b l h = grind (arith, nat_tests)

-- digits, as std says it
pub all_digits : (ds : List ℕ) → list_all is_ascii_digit ds ≡ true → AllDigits 10 ds
all_digits [] h = tt
all_digits (d ∷ ds) h =
    let parts = and_parts (is_ascii_digit d) (list_all is_ascii_digit ds) h in
    let range = and_parts (nat_le 48 d) (nat_le d 57) parts.0 in
    (digit_below d (leb-true 48 d range.0) (leb-true d 57 range.1), all_digits ds parts.1)

digit_test : (b : ℕ) → digit_value b < 10 → IsTrue (is_ascii_digit b)
digit_test b h =
    let range = digit_from_value b h in
    and_true (nat_le 48 b) (nat_le b 57) (le-leb 48 b (omega arith)) (le-leb b 57 (omega arith))

-- what std says of digits, as a test
pub digits_test : (ds : List ℕ) → AllDigits 10 ds → list_all is_ascii_digit ds ≡ true
digits_test [] h = refl
digits_test (d ∷ ds) h =
    and_true (is_ascii_digit d) (list_all is_ascii_digit ds) (digit_test d h.0) (digits_test ds h.1)

-- ---- from a number to its text

later_eqb : (a b : ℕ) → a < b → (b == a) ≡ false
later_eqb a b h = grind (arith, nat_tests)

either_second : (a b : Bool) → b ≡ true → (a || b) ≡ true
either_second true b h = refl
either_second false b h = h

leads : (n : ℕ) → n < 2 ^ 64 → leads_plainly (decimal n) ≡ true
leads zero h = ap leads_plainly (decimal_digit 0 (omega arith))
leads (suc n) h =
    either_second (length (decimal (suc n)) == 1) (not (get_or (decimal (suc n)) 0 0 == 48))
    (ap not (later_eqb 48 (get_or (decimal (suc n)) 0 0) (first_decimal (suc n) (omega arith) h)))

-- a number in decimal is a numeral
pub decimal_numeral : (n : ℕ) → n < 2 ^ 64 → is_numeral (decimal n) ≡ true
decimal_numeral n fits =
    let spelled = decimal_is_IsNumeral n fits in
    and_true (are_digits (decimal n)) (leads_plainly (decimal n))
    (and_true (nat_lt 0 (length (decimal n))) (list_all is_ascii_digit (decimal n))
    (lt-ltb 0 (length (decimal n)) spelled.0.0) (digits_test (decimal n) spelled.0.1))
    (leads n fits)

-- and it reads as the number
pub numeral_back : (most n : ℕ) → n ≤ most → n < 2 ^ 64 → numeral_within most (decimal n) ≡ Some n
unfolding numeral_within
numeral_back most n below fits =
    let spelled = decimal_is_IsNumeral n fits in
    ap (λ t. cond t (within most (digits_value 10 (decimal n))) None) (decimal_numeral n fits)
    ∙ ap (within most) spelled.1
    ∙ ap (λ t. cond t (Some n) None) (le-leb n most below)

-- ---- from a text to its number

zero_alone : (a b : Bool) → (a || not b) ≡ true → b ≡ true → a ≡ true
zero_alone true b h k = refl
zero_alone false true h k = absurd (false≢true h)
zero_alone false false h k = absurd (false≢true k)

same_eqb : (a b : ℕ) → a ≡ b → (a == b) ≡ true
same_eqb a b e = grind (arith, nat_tests)

leads_alone : (word : List ℕ) → leads_plainly word ≡ true → get_or word 0 0 ≡ 48 → length word ≡ 1
leads_alone word h first =
    eqb-true (length word) 1
    (zero_alone (length word == 1) (get_or word 0 0 == 48) h (same_eqb (get_or word 0 0) 48 first))

digits_model : IsNumeralModel (AllDigits 10) (digits_value 10)
digits_model = numerals_by_value (AllDigits 10) tells_digits

-- a numeral is its number in decimal
pub numeral_text : (word : List ℕ) → is_numeral word ≡ true → number_of word < 2 ^ 64
    → word ≡ decimal (number_of word)
numeral_text word is small =
    let parts = and_parts (are_digits word) (leads_plainly word) is in
    let digits = and_parts (nat_lt 0 (length word)) (list_all is_ascii_digit word) parts.0 in
    sym (decimal-digits_value digits_model word (all_digits word digits.1)
    (ltb-true 0 (length word) digits.0) (leads_alone word parts.1) small)

if_found : {A : Type 0} (P : A → Type 0) (b : Bool) (o : Option A) → (b ≡ true → IfSome o P)
    → IfSome (cond b o None) P
if_found P true o f = f refl
if_found P false o f = tt

-- a text that reads as a numeral is the number in decimal, and the number is within the limit
pub numeral_spelled : (most : ℕ) (word : List ℕ) → most < 2 ^ 64
    → IfSome (numeral_within most word) (λ n. (word ≡ decimal n) × (n ≤ most))
unfolding numeral_within
numeral_spelled most word small =
    let n = digits_value 10 word in
    let P : ℕ → Type 0 = λ n. (word ≡ decimal n) × (n ≤ most) in
    if_found P (is_numeral word) (within most n)
    (λ is. if_found P (nat_le n most) (Some n) (λ below.
    let under = leb-true n most below in
    (numeral_text word is (omega (arith, under, small)), under)))
