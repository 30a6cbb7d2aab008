-- The tokens of a text carry nothing but what is read again when it is printed.
use Rattle.std.proofs.Common.{◌≡◌, ◌⊎◌, inl, inr, ℕ, suc, ◌+◌, ◌-◌, ◌^◌, ◌<◌, ◌≤◌}
use Rattle.std.proofs.Common.{Bool, true, false, ◌&&◌, ◌||◌, ◌==◌, nat_lt, nat_le, List, [], ◌∷◌}
use Rattle.std.proofs.Common.{◌++◌, length, take, drop, Option, Some, None, if◌then◌else◌}
use Rattle.std.proofs.Common.{refl, sym, ◌∙◌, ap, subst, append_assoc, length-append, arith}
use Rattle.std.specs.Char.{is_ascii_alphabetic, is_ascii_digit}
use Rattle.std.specs.Fmt.{decimal}
use Rattle.std.specs.List.{list_all, prefix_len}
use Rattle.std.specs.Option.{option_map, is_none}
use Rattle.std.proofs.lemmas.Bool.Decides.{nat_tests}
use Rattle.std.proofs.lemmas.Bool.{le-leb, leb-true, and_from, or_left, or_right}
use Rattle.std.proofs.lemmas.Fmt.{decimal_is_IsNumeral}
use Rattle.std.proofs.lemmas.Option.{same_Some}
use Rattle.fm_bytes.specs.Decimals.{are_digits, leads_plainly, number_of, within, digits_within}
use Rattle.fm_bytes.proofs.Booleans.{and_parts}
use Rattle.fm_bytes.proofs.Numerals.{decimal_numeral}
use Rattle.std.proofs.lemmas.List.{take_at, drop_at, length-take-le, map-append, take-append-drop}
use Rattle.std.proofs.lemmas.List.Folds.{length-prefix_len}
use Rattle.fm_name.specs.Class.{is_class}
use Rattle.ev_lex.specs.Bytes.{count_while, opens, opens_word, is_word_byte, is_text_byte, is_blank}
use Rattle.ev_lex.specs.Bytes.{is_in_line, int_value}
use Rattle.ev_lex.specs.Cut.{IsCut, lexeme, tokens_from, AreTokens}
use Rattle.ev_lex.specs.Pieces.{piece, is_in_word, word_length, word_piece}
use Rattle.ev_lex.specs.Pieces.{number_piece, text_piece}
use Rattle.ev_lex.specs.Pieces.{punct_piece, comment_piece, closing, parts_fit, is_unit, opens_pair}
use Rattle.ev_lex.specs.Pieces.{opens_single, size, line_after}
use Rattle.ev_lex.specs.declared.piece.Piece.{Piece}
use Rattle.ev_lex.specs.declared.piece.Piece.TheVariants as pieces
use Rattle.ev_lex.specs.declared.token.Kind.{Kind}
use Rattle.ev_lex.specs.declared.token.Kind.TheVariants as kinds
use Rattle.ev_lex.specs.declared.token.Token.{Token}
use Rattle.ev_lex.proofs.Fits.{choose, word_length-le, piece_fits}
use Rattle.ev_tree.specs.Text.{unit_bytes}
use Rattle.ev_tree.specs.Tok.{Tok, Sign, Name, Class, Int, Time, Text, Odd, is_reserved}
use Rattle.ev_tree.specs.Tok.{is_name_byte}
use Rattle.ev_tree.specs.declared.tree.TimeWord.{TimeWord}
use Rattle.ev_tree.specs.declared.tree.Unit as the_unit
use Rattle.ev_tree.specs.declared.tree.Unit.TheVariants as units
use Rattle.ev_parse.specs.Toks.{meaning, number_meaning, time_meaning, timed, unit_of}
use Rattle.ev_parse.specs.Toks.{inner, text_meaning, tok_of, toks}
use Rattle.ev_print_laws.proofs.Real.{Real, Given, GivenAll}
use Rattle.ev_print_laws.proofs.ClassWords.{and_one, and_two, letter_opens}

if_true : {A : Type 0} (c : Bool) (x y : A) → c ≡ true → (if c then x else y) ≡ x
if_true true x y e = refl
if_true false x y e = absurd (cc)

if_false : {A : Type 0} (c : Bool) (x y : A) → c ≡ false → (if c then x else y) ≡ y
if_false true x y e = absurd (cc)
if_false false x y e = refl

-- ---- runs of bytes

count-prefix : (test : ℕ → Bool) (bs : List ℕ) → count_while test bs ≡ prefix_len test bs
count-prefix test bs = length-prefix_len test bs

prefix_over : (test : ℕ → Bool) (bs rest : List ℕ) → list_all test bs ≡ true
    → prefix_len test rest ≡ 0 → prefix_len test (bs ++ rest) ≡ length bs
prefix_over test [] rest e none = none
prefix_over test (b ∷ bs) rest e none =
    let others : prefix_len test (bs ++ rest) ≡ length bs =
    prefix_over test bs rest (and_two (test b) (list_all test bs) e) none in
    if_true (test b) (1 + prefix_len test (bs ++ rest)) 0 (and_one (test b) (list_all test bs) e)
    ∙ omega (arith, others)

-- a run of bytes that pass ends where the rest doesn't go on
count_over : (test : ℕ → Bool) (bs rest : List ℕ) → list_all test bs ≡ true
    → prefix_len test rest ≡ 0 → count_while test (bs ++ rest) ≡ length bs
count_over test bs rest e none = count-prefix test (bs ++ rest) ∙ prefix_over test bs rest e none

-- ---- numbers

record Digits (n : ℕ) (ds : List ℕ) : Type 0 where
  all_digits : list_all is_ascii_digit ds ≡ true
  writes : int_value ds ≡ Some n
  some : 1 ≤ length ds

are_some : (ds : List ℕ) → nat_lt 0 (length ds) ≡ true → 1 ≤ length ds
are_some ds e = grind (arith, nat_tests)

-- a number in decimal writes the number
decimal_digits : (n : ℕ) → n < 2 ^ 64 → Digits n (decimal n)
unfolding digits_within
decimal_digits n small =
    let numeral = and_parts (are_digits (decimal n)) (leads_plainly (decimal n))
    (decimal_numeral n small) in
    let digits = and_parts (nat_lt 0 (length (decimal n))) (list_all is_ascii_digit (decimal n))
    numeral.0 in
    record {
      all_digits = digits.1;
      writes = ap (λ t. if t then within 18446744073709551615 (number_of (decimal n)) else None)
          numeral.0
          ∙ ap (within 18446744073709551615) (decimal_is_IsNumeral n small).1
          ∙ ap (λ t. if t then Some n else None) (le-leb n 18446744073709551615 (omega arith));
      some = are_some (decimal n) digits.0;
    }

within_small : (n m : ℕ) (b : Bool) → nat_le m 18446744073709551615 ≡ b
    → (if b then Some m else None) ≡ Some n → n < 2 ^ 64
within_small n m true e f =
    let same : m ≡ n = same_Some m n f in omega (arith, leb-true m 18446744073709551615 e, same)
within_small n m false e f = absurd (cc)

-- what digits write is below 2 ^ 64
written_small : (ds : List ℕ) (n : ℕ) → int_value ds ≡ Some n → n < 2 ^ 64
unfolding digits_within
written_small ds n e =
    choose (are_digits ds) (within 18446744073709551615 (number_of ds)) None (Some n) e
    (λ t h. within_small n (number_of ds) (nat_le (number_of ds) 18446744073709551615) refl h)
    (λ f h. absurd (cc))

-- digits in front lead to the number piece
digit_piece : (line : Bool) (d : ℕ) (rest : List ℕ) → is_ascii_digit d ≡ true
    → piece line (d ∷ rest) ≡ number_piece (d ∷ rest)
unfolding piece
digit_piece line d rest e =
    if_false (d == 10) (Some pieces.Newline) _ (grind (arith, nat_tests))
    ∙ if_false (is_blank d) (Some pieces.Blank) _ (grind (arith, nat_tests))
    ∙ if_false (line && d == 35) (Some (pieces.Skipped (count_while is_in_line (d ∷ rest)))) _
    (grind (arith, nat_tests))
    ∙ if_false (d == 47 && opens 42 rest) (comment_piece (drop 1 rest)) _ (grind (arith, nat_tests))
    ∙ if_false (is_ascii_alphabetic d) (word_piece (d ∷ rest)) _ (grind (arith, nat_tests))
    ∙ if_true (is_ascii_digit d) (number_piece (d ∷ rest)) _ e

-- what digits and what follows them begin
abbrev chosen : Option ℕ → ℕ → ℕ → List ℕ → Option Piece
chosen value n m suffix =
    if is_none value then None
    else (if m == 0 then Some (pieces.Lexeme kinds.Int n)
    else (if is_unit suffix then Some (pieces.Lexeme kinds.Time (n + m))
    else None))

number_chosen : (ds suffix rest : List ℕ) → list_all is_ascii_digit ds ≡ true
    → prefix_len is_ascii_digit (suffix ++ rest) ≡ 0 → list_all is_word_byte suffix ≡ true
    → prefix_len is_word_byte rest ≡ 0
    → number_piece (ds ++ (suffix ++ rest)) ≡ chosen (int_value ds) (length ds) (length suffix)
    suffix
unfolding number_piece
number_chosen ds suffix rest digits stop letters end =
    let text = ds ++ (suffix ++ rest) in
    let tail = suffix ++ rest in
    let count = count_while is_word_byte in
    ap (λ k. chosen (int_value (take k text)) k (count (drop k text))
    (take (count (drop k text)) (drop k text))) (count_over is_ascii_digit ds tail digits stop)
    ∙ ap (λ l. chosen (int_value l) (length ds) (count (drop (length ds) text))
    (take (count (drop (length ds) text)) (drop (length ds) text)))
    (take_at ds tail (length ds) refl)
    ∙ ap (λ l. chosen (int_value ds) (length ds) (count l) (take (count l) l))
    (drop_at ds tail (length ds) refl)
    ∙ ap (λ m. chosen (int_value ds) (length ds) m (take m tail))
    (count_over is_word_byte suffix rest letters end)
    ∙ ap (λ l. chosen (int_value ds) (length ds) (length suffix) l)
    (take_at suffix rest (length suffix) refl)

first_digit : (ds : List ℕ) → list_all is_ascii_digit ds ≡ true → 1 ≤ length ds → (d : ℕ)
    × (more : List ℕ) × (ds ≡ d ∷ more) × (is_ascii_digit d ≡ true)
first_digit [] e some = absurd (omega arith)
first_digit (d ∷ more) e some =
    (d, more, refl, and_one (is_ascii_digit d) (list_all is_ascii_digit more) e)

-- digits in front of anything lead to the number piece
digits_piece : (line : Bool) (ds rest : List ℕ) → list_all is_ascii_digit ds ≡ true → 1 ≤ length ds
    → piece line (ds ++ rest) ≡ number_piece (ds ++ rest)
digits_piece line ds rest e some =
    let f = first_digit ds e some in
    ap (λ l. piece line (l ++ rest)) f.2 ∙ digit_piece line f.0 (f.1 ++ rest) f.3
    ∙ sym (ap (λ l. number_piece (l ++ rest)) f.2)

int_real : (n : ℕ) → n < 2 ^ 64 → Real (Int n)
int_real n small =
    let d = decimal_digits n small in
    let ds = decimal n in
    record {
      kind = kinds.Int;
      means = ap number_meaning d.writes;
      begins = λ line rest.
          digits_piece line ds (32 ∷ rest) d.all_digits d.some
          ∙ number_chosen ds [] (32 ∷ rest) d.all_digits refl refl refl
          ∙ ap (λ v. chosen v (length ds) 0 []) d.writes;
    }

unit_letters : (u : the_unit.Unit) → list_all is_word_byte (unit_bytes u) ≡ true
unit_letters units.Ns = refl
unit_letters units.Us = refl
unit_letters units.Ms = refl
unit_letters units.S = refl
unit_letters units.M = refl
unit_letters units.H = refl
unit_letters units.D = refl

unit_no_digit : (u : the_unit.Unit) (rest : List ℕ)
    → prefix_len is_ascii_digit (unit_bytes u ++ rest) ≡ 0
unit_no_digit units.Ns rest = refl
unit_no_digit units.Us rest = refl
unit_no_digit units.Ms rest = refl
unit_no_digit units.S rest = refl
unit_no_digit units.M rest = refl
unit_no_digit units.H rest = refl
unit_no_digit units.D rest = refl

unit_chosen : (u : the_unit.Unit) (n : ℕ)
    → (if length (unit_bytes u) == 0 then Some (pieces.Lexeme kinds.Int n)
    else (if is_unit (unit_bytes u) then Some (pieces.Lexeme kinds.Time (n + length (unit_bytes u)))
    else None)) ≡ Some (pieces.Lexeme kinds.Time (n + length (unit_bytes u)))
unit_chosen units.Ns n = refl
unit_chosen units.Us n = refl
unit_chosen units.Ms n = refl
unit_chosen units.S n = refl
unit_chosen units.M n = refl
unit_chosen units.H n = refl
unit_chosen units.D n = refl

unit_back : (u : the_unit.Unit) → unit_of (unit_bytes u) ≡ Some u
unit_back units.Ns = refl
unit_back units.Us = refl
unit_back units.Ms = refl
unit_back units.S = refl
unit_back units.M = refl
unit_back units.H = refl
unit_back units.D = refl

append_none : (l : List ℕ) → l ++ [] ≡ l
append_none [] = refl
append_none (a ∷ more) = ap (λ k. a ∷ k) (append_none more)

time_back : (w : TimeWord) → w.number < 2 ^ 64
    → time_meaning (decimal w.number ++ unit_bytes w.unit) ≡ Time w
time_back w small =
    let d = decimal_digits w.number small in
    let ds = decimal w.number in
    let ub = unit_bytes w.unit in
    let none : prefix_len is_ascii_digit ub ≡ 0 =
    ap (prefix_len is_ascii_digit) (sym (append_none ub)) ∙ unit_no_digit w.unit [] in
    ap (λ k. timed (int_value (take k (ds ++ ub))) (unit_of (drop k (ds ++ ub))))
    (count_over is_ascii_digit ds ub d.all_digits none)
    ∙ ap (λ l. timed (int_value l) (unit_of (drop (length ds) (ds ++ ub))))
    (take_at ds ub (length ds) refl)
    ∙ ap (λ l. timed (int_value ds) (unit_of l)) (drop_at ds ub (length ds) refl)
    ∙ ap (λ o. timed (int_value ds) o) (unit_back w.unit)
    ∙ ap (λ v. timed v (Some w.unit)) d.writes

time_real : (w : TimeWord) → w.number < 2 ^ 64 → Real (Time w)
time_real w small =
    let d = decimal_digits w.number small in
    let ds = decimal w.number in
    let ub = unit_bytes w.unit in
    record {
      kind = kinds.Time;
      means = time_back w small;
      begins = λ line rest.
          ap (piece line) (append_assoc ds ub (32 ∷ rest))
          ∙ digits_piece line ds (ub ++ 32 ∷ rest) d.all_digits d.some
          ∙ number_chosen ds ub (32 ∷ rest) d.all_digits (unit_no_digit w.unit (32 ∷ rest))
          (unit_letters w.unit) refl
          ∙ ap (λ v. chosen v (length ds) (length ub) ub) d.writes
          ∙ unit_chosen w.unit (length ds)
          ∙ ap (λ k. Some (pieces.Lexeme kinds.Time k)) (sym (length-append ds ub));
    }

-- ---- texts

quote_piece : (line : Bool) (rest : List ℕ) → piece line (34 ∷ rest) ≡ text_piece rest
unfolding piece
quote_piece true rest = refl
quote_piece false rest = refl

text_again : (t rest : List ℕ) → list_all is_text_byte t ≡ true
    → text_piece (t ++ (34 ∷ rest)) ≡ Some (pieces.Lexeme kinds.Text (length t + 2))
unfolding text_piece
text_again t rest e =
    ap (λ n. if opens 34 (drop n (t ++ (34 ∷ rest))) then Some (pieces.Lexeme kinds.Text (n + 2))
    else None) (count_over is_text_byte t (34 ∷ rest) e refl)
    ∙ ap (λ l. if opens 34 l then Some (pieces.Lexeme kinds.Text (length t + 2)) else None)
    (drop_at t (34 ∷ rest) (length t) refl)

text_back : (t : List ℕ) → list_all is_text_byte t ≡ true
    → text_meaning (34 ∷ (t ++ 34 ∷ [])) ≡ Text t
text_back t e =
    let size_is : length (34 ∷ (t ++ 34 ∷ [])) - 2 ≡ length t =
    omega (arith, length-append t (34 ∷ [])) in
    let content : inner (34 ∷ (t ++ 34 ∷ [])) ≡ t = ap (λ n. take n (t ++ 34 ∷ [])) size_is
    ∙ take_at t (34 ∷ []) (length t) refl in
    ap (λ l. if list_all is_text_byte l then Text l else Odd) content
    ∙ if_true (list_all is_text_byte t) (Text t) Odd e

text_real : (t : List ℕ) → list_all is_text_byte t ≡ true → Real (Text t)
text_real t e =
    let size_is : length t + 2 ≡ length (34 ∷ (t ++ 34 ∷ [])) =
    omega (arith, length-append t (34 ∷ [])) in
    record {
      kind = kinds.Text;
      means = text_back t e;
      begins = λ line rest.
          quote_piece line ((t ++ 34 ∷ []) ++ 32 ∷ rest)
          ∙ ap text_piece (append_assoc t (34 ∷ []) (32 ∷ rest))
          ∙ text_again t (32 ∷ rest) e
          ∙ ap (λ k. Some (pieces.Lexeme kinds.Text k)) size_is;
    }

-- ---- words

-- the bytes of a word, read again in front of a space
abbrev WordAgain : List ℕ → Type 0
WordAgain w = (line : Bool) (rest : List ℕ)
    → piece line (w ++ (32 ∷ rest)) ≡ Some (pieces.Lexeme kinds.Word (length w))

word_given : (w : List ℕ) (again : WordAgain w) (reserved names classes : Bool)
    → is_reserved w ≡ reserved → list_all is_name_byte w ≡ names → is_class w ≡ classes
    → Given (if reserved then Sign w
    else (if names then Name w else (if classes then Class w else Odd)))
word_given w again true names classes a b c = tt
word_given w again false true classes a b c =
    record {
      kind = kinds.Word;
      begins = again;
      means = if_false (is_reserved w) (Sign w) _ a
          ∙ if_true (list_all is_name_byte w) (Name w) _ b;
    }
word_given w again false false true a b c =
    record {
      kind = kinds.Word;
      begins = again;
      means = if_false (is_reserved w) (Sign w) _ a
          ∙ if_false (list_all is_name_byte w) (Name w) _ b ∙ if_true (is_class w) (Class w) Odd c;
    }
word_given w again false false false a b c = tt

number_given : (o : Option ℕ) → ((n : ℕ) → o ≡ Some n → n < 2 ^ 64) → Given (number_meaning o)
number_given (Some n) small = int_real n (small n refl)
number_given None small = tt

time_given : (o : Option ℕ) (u : Option the_unit.Unit) → ((n : ℕ) → o ≡ Some n → n < 2 ^ 64)
    → Given (timed o u)
time_given o None small = tt
time_given (Some n) (Some u) small = time_real (record { number = n; unit = u }) (small n refl)
time_given None (Some u) small = tt

quoted_given : (t : List ℕ) (c : Bool) → list_all is_text_byte t ≡ c
    → Given (if c then Text t else Odd)
quoted_given t true e = text_real t e
quoted_given t false e = tt

-- what a lexeme means is given, where a word is read again
kind_given : (k : Kind) (b : List ℕ) → (k ≡ kinds.Word → WordAgain b) → Given (meaning k b)
kind_given kinds.Word b word =
    word_given b (word refl) (is_reserved b) (list_all is_name_byte b) (is_class b) refl refl refl
kind_given kinds.Int b word = number_given (int_value b) (written_small b)
kind_given kinds.Time b word =
    let n = count_while is_ascii_digit b in
    time_given (int_value (take n b)) (unit_of (drop n b)) (written_small (take n b))
kind_given kinds.Text b word = quoted_given (inner b) (list_all is_text_byte (inner b)) refl
kind_given kinds.Punct b word = tt

-- ---- a word in front of a space is the same word

take_more : (m b : ℕ) (bs : List ℕ) → take (1 + m) (b ∷ bs) ≡ b ∷ take m bs
take_more m b bs = ap (λ n. take n (b ∷ bs)) (let e : 1 + m ≡ suc m = omega arith in e)

on_word : (b : ℕ) (bs : List ℕ) → is_word_byte b ≡ true → is_in_word b bs ≡ true
on_word b bs e = or_left (is_word_byte b) ((b == 45 || b == 46) && opens_word bs) e

joined_opens : (b : ℕ) (bs : List ℕ) → is_in_word b bs ≡ true → (c : Bool) → is_word_byte b ≡ c
    → ((is_word_byte b ≡ true) ⊎ (((b == 45 || b == 46) ≡ true) × (opens_word bs ≡ true)))
joined_opens b bs e true w = inl w
joined_opens b bs e false w =
    let rest : ((b == 45 || b == 46) && opens_word bs) ≡ true =
    sym (or_false (is_word_byte b) ((b == 45 || b == 46) && opens_word bs) w) ∙ e in
    inr (
      and_one (b == 45 || b == 46) (opens_word bs) rest,
      and_two (b == 45 || b == 46) (opens_word bs) rest,
    )
  where
    or_false : (a c : Bool) → a ≡ false → (a || c) ≡ c
    or_false true c f = absurd (cc)
    or_false false c f = refl

-- the front of a word that goes on goes on too
word_opens : (bs rest : List ℕ) → opens_word bs ≡ true
    → opens_word (take (word_length bs) bs ++ rest) ≡ true
word_opens [] rest e = absurd (cc)
word_opens (c ∷ cs) rest e =
    ap (λ n. opens_word (take n (c ∷ cs) ++ rest))
    (if_true (is_in_word c cs) (1 + word_length cs) 0 (on_word c cs e))
    ∙ ap (λ l. opens_word (l ++ rest)) (take_more (word_length cs) c cs) ∙ e

still_on : (b : ℕ) (bs rest : List ℕ) → is_in_word b bs ≡ true
    → is_in_word b (take (word_length bs) bs ++ rest) ≡ true
still_on b bs rest e = by_cases (joined_opens b bs e (is_word_byte b) refl)
  where
    by_cases : ((is_word_byte b ≡ true) ⊎ (((b == 45 || b == 46) ≡ true) × (opens_word bs ≡ true)))
        → is_in_word b (take (word_length bs) bs ++ rest) ≡ true
    by_cases (inl w) = on_word b (take (word_length bs) bs ++ rest) w
    by_cases (inr j) =
        or_right (is_word_byte b)
        ((b == 45 || b == 46) && opens_word (take (word_length bs) bs ++ rest))
        (and_from (b == 45 || b == 46) (opens_word (take (word_length bs) bs ++ rest)) j.0
        (word_opens bs rest j.1))

length_again : (bs rest : List ℕ)
    → word_length (take (word_length bs) bs ++ (32 ∷ rest)) ≡ word_length bs
length_again [] rest = refl
length_again (b ∷ bs) rest = by_test (is_in_word b bs) refl (length_again bs rest)
  where
    by_test : (c : Bool) → is_in_word b bs ≡ c
        → word_length (take (word_length bs) bs ++ (32 ∷ rest)) ≡ word_length bs
        → word_length (take (word_length (b ∷ bs)) (b ∷ bs) ++ (32 ∷ rest)) ≡ word_length (b ∷ bs)
    by_test false e more =
        ap (λ n. word_length (take n (b ∷ bs) ++ (32 ∷ rest)))
        (if_false (is_in_word b bs) (1 + word_length bs) 0 e)
        ∙ sym (if_false (is_in_word b bs) (1 + word_length bs) 0 e)
    by_test true e more =
        let whole : word_length (b ∷ bs) ≡ 1 + word_length bs =
        if_true (is_in_word b bs) (1 + word_length bs) 0 e in
        ap (λ n. word_length (take n (b ∷ bs) ++ (32 ∷ rest))) whole
        ∙ ap (λ l. word_length (l ++ (32 ∷ rest))) (take_more (word_length bs) b bs)
        ∙ if_true (is_in_word b (take (word_length bs) bs ++ (32 ∷ rest)))
        (1 + word_length (take (word_length bs) bs ++ (32 ∷ rest))) 0
        (still_on b bs (32 ∷ rest) e)
        ∙ ap (λ n. 1 + n) more
        ∙ sym whole

-- a letter in front leads to the word piece
letter_piece : (line : Bool) (b : ℕ) (rest : List ℕ) → is_ascii_alphabetic b ≡ true
    → piece line (b ∷ rest) ≡ word_piece (b ∷ rest)
unfolding piece
letter_piece line b rest e =
    if_false (b == 10) (Some pieces.Newline) _ (grind (arith, nat_tests))
    ∙ if_false (is_blank b) (Some pieces.Blank) _ (grind (arith, nat_tests))
    ∙ if_false (line && b == 35) (Some (pieces.Skipped (count_while is_in_line (b ∷ rest)))) _
    (grind (arith, nat_tests))
    ∙ if_false (b == 47 && opens 42 rest) (comment_piece (drop 1 rest)) _ (grind (arith, nat_tests))
    ∙ if_true (is_ascii_alphabetic b) (word_piece (b ∷ rest)) _ e

word_size : (text : List ℕ) → length (take (word_length text) text) ≡ word_length text
word_size text = length-take-le (word_length text) text (word_length-le text)

-- the word piece of the word and a space
piece_again : (text rest : List ℕ)
    → (nat_le (word_length text) 255 && parts_fit (take (word_length text) text)) ≡ true
    → word_piece (take (word_length text) text ++ (32 ∷ rest))
    ≡ Some (pieces.Lexeme kinds.Word (word_length text))
unfolding word_piece
piece_again text rest e =
    let n = word_length text in
    let w = take n text in
    ap (λ k. if nat_le k 255 && parts_fit (take k (w ++ (32 ∷ rest))) then Some
    (pieces.Lexeme kinds.Word k) else None) (length_again text rest)
    ∙ ap (λ l. if nat_le n 255 && parts_fit l then Some (pieces.Lexeme kinds.Word n) else None)
    (take_at w (32 ∷ rest) n (word_size text))
    ∙ if_true (nat_le n 255 && parts_fit w) (Some (pieces.Lexeme kinds.Word n)) None e

word_again : (b : ℕ) (bs : List ℕ) → is_ascii_alphabetic b ≡ true
    → (nat_le (word_length (b ∷ bs)) 255 && parts_fit (take (word_length (b ∷ bs)) (b ∷ bs))) ≡ true
    → WordAgain (take (word_length (b ∷ bs)) (b ∷ bs))
word_again b bs letter fits line rest =
    let whole : word_length (b ∷ bs) ≡ 1 + word_length bs =
    if_true (is_in_word b bs) (1 + word_length bs) 0 (on_word b bs (letter_opens b letter)) in
    let front : take (word_length (b ∷ bs)) (b ∷ bs) ≡ b ∷ take (word_length bs) bs =
    ap (λ n. take n (b ∷ bs)) whole ∙ take_more (word_length bs) b bs in
    ap (λ l. piece line (l ++ (32 ∷ rest))) front
    ∙ letter_piece line b (take (word_length bs) bs ++ (32 ∷ rest)) letter
    ∙ sym (ap (λ l. word_piece (l ++ (32 ∷ rest))) front)
    ∙ piece_again (b ∷ bs) rest fits
    ∙ ap (λ n. Some (pieces.Lexeme kinds.Word n)) (sym (word_size (b ∷ bs)))

-- ---- what a text begins with

no_comment : (o : Option ℕ) (k : Kind) (n : ℕ)
    → option_map (λ m. pieces.Comment (m + 2)) o ≡ Some (pieces.Lexeme k n) → ⊥
no_comment None k n e = cc
no_comment (Some m) k n e = cc

-- a lexeme of this kind and size, where it is a word, is read again
abbrev Again : List ℕ → Kind → ℕ → Type 0
Again text k n = k ≡ kinds.Word → WordAgain (take n text)

other_kind : (j k : Kind) (text : List ℕ) (n m : ℕ)
    → Some (pieces.Lexeme j m) ≡ Some (pieces.Lexeme k n) → (j ≡ kinds.Word → ⊥) → Again text k n
other_kind j k text n m e not_word is = let same : j ≡ k = cc in absurd (not_word (same ∙ is))

word_inv : (b : ℕ) (bs : List ℕ) (k : Kind) (n : ℕ) → is_ascii_alphabetic b ≡ true
    → word_piece (b ∷ bs) ≡ Some (pieces.Lexeme k n) → Again (b ∷ bs) k n
unfolding word_piece
word_inv b bs k n letter e =
    let size_here = word_length (b ∷ bs) in
    choose (nat_le size_here 255 && parts_fit (take size_here (b ∷ bs)))
    (Some (pieces.Lexeme kinds.Word size_here)) None (Some (pieces.Lexeme k n)) e
    (λ fits h _. let same : size_here ≡ n = cc in
    subst (λ m. WordAgain (take m (b ∷ bs))) same (word_again b bs letter fits))
    (λ _ h. absurd (cc))

number_inv : (text : List ℕ) (k : Kind) (n : ℕ) → number_piece text ≡ Some (pieces.Lexeme k n)
    → Again text k n
unfolding number_piece
number_inv text k n e =
    let i = count_while is_ascii_digit text in
    let j = count_while is_word_byte (drop i text) in
    choose (is_none (int_value (take i text))) None _ (Some (pieces.Lexeme k n)) e
    (λ _ h. absurd (cc)) (λ _ h.
    choose (j == 0) (Some (pieces.Lexeme kinds.Int i)) _ (Some (pieces.Lexeme k n)) h
    (λ _ g. other_kind kinds.Int k text n i g (λ x. cc)) (λ _ g.
    choose (is_unit (take j (drop i text))) (Some (pieces.Lexeme kinds.Time (i + j))) None
    (Some (pieces.Lexeme k n)) g (λ _ f. other_kind kinds.Time k text n (i + j) f (λ x. cc))
    (λ _ f.
    absurd (cc))))

text_inv : (b : ℕ) (bs : List ℕ) (k : Kind) (n : ℕ) → text_piece bs ≡ Some (pieces.Lexeme k n)
    → Again (b ∷ bs) k n
unfolding text_piece
text_inv b bs k n e =
    let i = count_while is_text_byte bs in
    choose (opens 34 (drop i bs)) (Some (pieces.Lexeme kinds.Text (i + 2))) None
    (Some (pieces.Lexeme k n)) e
    (λ _ h. other_kind kinds.Text k (b ∷ bs) n (i + 2) h (λ x. cc)) (λ _ h. absurd (cc))

punct_inv : (text : List ℕ) (k : Kind) (n : ℕ) → punct_piece text ≡ Some (pieces.Lexeme k n)
    → Again text k n
unfolding punct_piece
punct_inv text k n e =
    choose (opens_pair text) (Some (pieces.Lexeme kinds.Punct 2)) _ (Some (pieces.Lexeme k n)) e
    (λ _ h. other_kind kinds.Punct k text n 2 h (λ x. cc)) (λ _ h.
    choose (opens_single text) (Some (pieces.Lexeme kinds.Punct 1)) None (Some (pieces.Lexeme k n))
    h (λ _ g. other_kind kinds.Punct k text n 1 g (λ x. cc)) (λ _ g.
    absurd (cc)))

comment_inv : (rest text : List ℕ) (k : Kind) (n : ℕ)
    → comment_piece rest ≡ Some (pieces.Lexeme k n) → Again text k n
unfolding comment_piece
comment_inv rest text k n e = absurd (no_comment (closing rest) k n e)

piece_inv : (line : Bool) (text : List ℕ) (k : Kind) (n : ℕ)
    → piece line text ≡ Some (pieces.Lexeme k n) → Again text k n
unfolding piece
piece_inv line [] k n e = absurd (cc)
piece_inv line (b ∷ bs) k n e =
    let r = Some (pieces.Lexeme k n) in
    choose (b == 10) (Some pieces.Newline) _ r e (λ _ h. absurd (cc)) (λ _ h.
    choose (is_blank b) (Some pieces.Blank) _ r h (λ _ g. absurd (cc)) (λ _ g.
    choose (line && b == 35) (Some (pieces.Skipped (count_while is_in_line (b ∷ bs)))) _ r g
    (λ _ f. absurd (cc)) (λ _ f.
    choose (b == 47 && opens 42 bs) (comment_piece (drop 1 bs)) _ r f
    (λ _ d. comment_inv (drop 1 bs) (b ∷ bs) k n d) (λ _ d.
    choose (is_ascii_alphabetic b) (word_piece (b ∷ bs)) _ r d
    (λ letter c. word_inv b bs k n letter c) (λ _ c.
    choose (is_ascii_digit b) (number_piece (b ∷ bs)) _ r c (λ _ a. number_inv (b ∷ bs) k n a)
    (λ _ a.
    choose (b == 34) (text_piece bs) (punct_piece (b ∷ bs)) r a (λ _ z. text_inv b bs k n z)
    (λ _ z. punct_inv (b ∷ bs) k n z)))))))

-- ---- whole texts

-- the lexeme behind front carries what is read again
lexeme_given : (front text : List ℕ) (line : Bool) (p : Piece) → piece line text ≡ Some p
    → GivenAll (toks (front ++ text) (lexeme (length front) p))
unfolding tok_of
lexeme_given front text line (pieces.Lexeme k n) e =
    let size_is : (length front + n) - length front ≡ n = omega arith in
    let bytes : take ((length front + n) - length front) (drop (length front) (front ++ text))
    ≡ take n text =
    ap (λ m. take m (drop (length front) (front ++ text))) size_is
    ∙ ap (take n) (drop_at front text (length front) refl) in (
      subst (λ b. Given (meaning k b)) (sym bytes)
          (kind_given k (take n text) (piece_inv line text k n e)),
      tt,
    )
lexeme_given front text line pieces.Newline e = tt
lexeme_given front text line pieces.Blank e = tt
lexeme_given front text line (pieces.Skipped n) e = tt
lexeme_given front text line (pieces.Comment n) e = tt

all_given : (a b : List Tok) → GivenAll a → GivenAll b → GivenAll (a ++ b)
all_given [] b g h = h
all_given (t ∷ a) b g h = (g.0, all_given a b g.1 h)

cut_given : (front text : List ℕ) (line : Bool) (ps : List Piece) → IsCut line text ps []
    → GivenAll (toks (front ++ text) (tokens_from (length front) ps))
cut_given front text line [] cut = tt
cut_given front text line (p ∷ ps) cut =
    let n = size p in
    let fits = piece_fits line text p cut.0 in
    let next = front ++ take n text in
    let count : length front + n ≡ length next =
    omega (arith, length-append front (take n text), length-take-le n text fits.most) in
    let same_text : next ++ drop n text ≡ front ++ text =
    append_assoc front (take n text) (drop n text)
    ∙ ap (λ l. front ++ l) (take-append-drop n text) in
    let rest : GivenAll (toks (front ++ text) (tokens_from (length front + n) ps)) =
    subst (λ k. GivenAll (toks (front ++ text) (tokens_from k ps))) (sym count)
    (subst (λ l. GivenAll (toks l (tokens_from (length next) ps))) same_text
    (cut_given next (drop n text) (line_after line p) ps cut.1)) in
    subst GivenAll (sym (map-append (tok_of (front ++ text)) (lexeme (length front) p)
    (tokens_from (length front + n) ps)))
    (all_given (toks (front ++ text) (lexeme (length front) p))
    (toks (front ++ text) (tokens_from (length front + n) ps))
    (lexeme_given front text line p cut.0) rest)

-- the tokens of a text carry what is read again
pub tokens_given : (text : List ℕ) (tokens : List Token) → AreTokens text tokens
    → GivenAll (toks text tokens)
tokens_given text tokens a =
    subst (λ ts. GivenAll (toks text ts)) (sym a.read) (cut_given [] text true a.pieces a.cut)
