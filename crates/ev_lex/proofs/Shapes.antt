-- Each token has the form of its kind.
use Rattle.std.proofs.Common.{◌≡◌, ℕ, ◌+◌, ◌-◌, ◌^◌, ◌<◌, ◌≤◌, ◌&&◌, ◌||◌, ◌==◌, List, [], ◌∷◌}
use Rattle.std.proofs.Common.{◌++◌, length, take, drop, Bool, true, false, nat_le}
use Rattle.std.proofs.Common.{if◌then◌else◌, Option, Some, None, arith, length-drop, length-append}
use Rattle.std.proofs.Common.{subst, refl, ap, sym, ◌∙◌, inl, inr, suc}
use Rattle.std.proofs.Math.Seq.{take-append-add}
use Rattle.std.proofs.lemmas.List.{drop-drop, length-take-le, take-append-drop}
use Rattle.std.proofs.lemmas.List.Elements.{All-from_recursion}
use Rattle.std.specs.List.{All, AllByRecursion as ByRecursion}
use Rattle.std.specs.Char.{is_ascii_alphabetic, is_ascii_digit}
use Rattle.std.specs.List.{list_all, prefix_len}
use Rattle.std.specs.Option.{option_map, is_none}
use Rattle.std.proofs.lemmas.Bool.{false≢true, leb-true}
use Rattle.std.proofs.lemmas.List.Folds.{length-prefix_len}
use Rattle.fm_bytes.proofs.Booleans.{and_parts}
use Rattle.std.proofs.lemmas.Option.{same_Some}
use Rattle.std.proofs.lemmas.Bool.Decides.{nat_tests}
use Rattle.ev_lex.specs.Bytes.{count_while, opens, opens_word, is_word_byte, is_text_byte}
use Rattle.ev_lex.specs.Bytes.{int_value}
use Rattle.ev_lex.specs.Pieces.{is_in_word, word_length, word_piece, number_piece, text_piece}
use Rattle.ev_lex.specs.Pieces.{punct_piece, comment_piece, closing, parts_fit}
use Rattle.ev_lex.specs.Pieces.{is_unit, is_double_sign}
use Rattle.ev_lex.specs.Pieces.{is_single, opens_pair, opens_single, piece, size, line_after}
use Rattle.ev_lex.specs.Cut.{IsCut, AreTokens, lexeme, tokens_from}
use Rattle.ev_lex.specs.Forms.{belongs, IsWord, IsNumber, IsInt, IsTime, IsText, IsPunct, IsForm}
use Rattle.ev_lex.specs.Forms.{HasForm}
use Rattle.ev_lex.specs.declared.piece.Piece.{Piece}
use Rattle.ev_lex.specs.declared.piece.Piece.TheVariants as pieces
use Rattle.ev_lex.specs.declared.token.Kind.{Kind}
use Rattle.ev_lex.specs.declared.token.Kind.TheVariants as kinds
use Rattle.ev_lex.specs.declared.token.Token.{Token}
use Rattle.ev_lex.proofs.Fits.{choose, by_piece, count_while-le, word_length-le}

-- what the piece says of the text that it begins
abbrev Formed : List ℕ → Piece → Type 0
Formed text pieces.Newline = Unit {0}
Formed text pieces.Blank = Unit {0}
Formed text (pieces.Skipped n) = Unit {0}
Formed text (pieces.Comment n) = Unit {0}
Formed text (pieces.Lexeme kind n) = IsForm kind (take n text) (drop n text)

-- the piece at hand is p
this : (text : List ℕ) (x p : Piece) → Some x ≡ Some p → Formed text x → Formed text p
this text x p e f = subst (Formed text) (same_Some x p e) f

-- ---- bytes that pass a test, from the front on

count_more : (test : ℕ → Bool) (b : ℕ) (bs : List ℕ) → test b ≡ true
    → count_while test (b ∷ bs) ≡ suc (count_while test bs)
count_more test b bs e =
    let first : prefix_len test (b ∷ bs) ≡ 1 + prefix_len test bs = rw e refl in
    omega (arith, first, length-prefix_len test (b ∷ bs), length-prefix_len test bs)

count_none : (test : ℕ → Bool) (b : ℕ) (bs : List ℕ) → test b ≡ false
    → count_while test (b ∷ bs) ≡ 0
count_none test b bs e =
    let first : prefix_len test (b ∷ bs) ≡ 0 = rw e refl in
    omega (arith, first, length-prefix_len test (b ∷ bs))

by_test : {P : Type 0} (b : Bool) → (b ≡ true → P) → (b ≡ false → P) → P
by_test true yes' no' = yes' refl
by_test false yes' no' = no' refl

all_passed : (test : ℕ → Bool) (bytes : List ℕ)
    → list_all test (take (count_while test bytes) bytes) ≡ true
all_passed test [] = refl
all_passed test (b ∷ bs) = by_test (test b)
    (λ t. rw (count_more test b bs t, t) (all_passed test bs))
    (λ f. rw (count_none test b bs f) refl)

-- the first byte passes
abbrev first_passes : (ℕ → Bool) → List ℕ → Bool
first_passes test [] = false
first_passes test (b ∷ bs) = test b

then_fails : (test : ℕ → Bool) (bytes : List ℕ)
    → first_passes test (drop (count_while test bytes) bytes) ≡ false
then_fails test [] = refl
then_fails test (b ∷ bs) = by_test (test b)
    (λ t. rw (count_more test b bs t) (then_fails test bs)) (λ f. rw (count_none test b bs f) f)

opens_is : (bytes : List ℕ) → opens_word bytes ≡ first_passes is_word_byte bytes
opens_is [] = refl
opens_is (b ∷ bs) = refl

-- ---- words

long : (b : ℕ) (bs : List ℕ) → is_in_word b bs ≡ true → word_length (b ∷ bs) ≡ suc (word_length bs)
long b bs e =
    let more : word_length (b ∷ bs) ≡ 1 + word_length bs = rw e refl in omega (arith, more)

over : (b : ℕ) (bs : List ℕ) → is_in_word b bs ≡ false → word_length (b ∷ bs) ≡ 0
over b bs e = rw e refl

letter_on : (b : ℕ) (bs : List ℕ) → is_ascii_alphabetic b ≡ true → is_in_word b bs ≡ true
letter_on b bs t = grind (arith, nat_tests)

byte_on : (b : ℕ) (bs : List ℕ) → is_word_byte b ≡ true → is_in_word b bs ≡ true
byte_on b bs t = rw t refl

-- what follows a byte of the word, as far as it is in the word
opens_kept : (bs : List ℕ) → opens_word (take (word_length bs) bs) ≡ opens_word bs
opens_kept [] = refl
opens_kept (c ∷ cs) = by_test (is_word_byte c)
    (λ t. rw (long c cs (byte_on c cs t)) refl)
    (λ f. by_test (is_in_word c cs) (λ g. rw (long c cs g) refl) (λ g. rw (over c cs g) (sym f)))

on_kept : (b : ℕ) (bs : List ℕ) → is_in_word b bs ≡ true
    → is_in_word b (take (word_length bs) bs) ≡ true
on_kept b bs e = ap (λ o. is_word_byte b || ((b == 45 || b == 46) && o)) (opens_kept bs) ∙ e

word_step : (c : ℕ) (cs front : List ℕ) (b : ℕ) (back : List ℕ) → is_in_word c cs ≡ true
    → ((f : List ℕ) → take (word_length cs) cs ≡ f ++ b ∷ back → is_in_word b back ≡ true)
    → c ∷ take (word_length cs) cs ≡ front ++ b ∷ back → is_in_word b back ≡ true
word_step c cs [] b back t more h =
    let first : c ≡ b = cc in
    let others : take (word_length cs) cs ≡ back = cc in
    subst (λ x. is_in_word x back ≡ true) first
    (subst (λ l. is_in_word c l ≡ true) others (on_kept c cs t))
word_step c cs (x ∷ f) b back t more h =
    let others : take (word_length cs) cs ≡ f ++ b ∷ back = cc in more f others

nothing : (front : List ℕ) (b : ℕ) (back : List ℕ) → [] ≡ front ++ b ∷ back → ⊥
nothing front b back e = omega (arith, ap length e, length-append front (b ∷ back))

word_inside : (text front : List ℕ) (b : ℕ) (back : List ℕ)
    → take (word_length text) text ≡ front ++ b ∷ back → is_in_word b back ≡ true
word_inside [] front b back e = absurd (nothing front b back e)
word_inside (c ∷ cs) front b back e = by_test (is_in_word c cs)
    (λ t. word_step c cs front b back t (λ f h. word_inside cs f b back h)
    (sym (ap (λ n. take n (c ∷ cs)) (long c cs t)) ∙ e))
    (λ f. absurd (nothing front b back (sym (ap (λ n. take n (c ∷ cs)) (over c cs f)) ∙ e)))

word_ends : (text : List ℕ) → belongs (drop (word_length text) text) ≡ false
word_ends [] = refl
word_ends (c ∷ cs) = by_test (is_in_word c cs)
    (λ t. rw (long c cs t) (word_ends cs)) (λ f. rw (over c cs f) f)

word_form : (b : ℕ) (bs : List ℕ) (p : Piece) → is_ascii_alphabetic b ≡ true
    → word_piece (b ∷ bs) ≡ Some p → Formed (b ∷ bs) p
unfolding word_piece
word_form b bs p t e =
    let text = b ∷ bs in
    let n = word_length text in
    let fits = parts_fit (take n text) in
    choose (nat_le n 255 && fits) (Some (pieces.Lexeme kinds.Word n)) None (Some p) e
    (λ h same. this text (pieces.Lexeme kinds.Word n) p same (record {
      letter = (
        b,
        take (word_length bs) bs,
        ap (λ k. take k (b ∷ bs)) (long b bs (letter_on b bs t)),
        t,
      );
      inside = λ front c back f. word_inside (b ∷ bs) front c back f;
      ends = word_ends (b ∷ bs);
      short = omega (
        arith,
        length-take-le n (b ∷ bs) (word_length-le (b ∷ bs)),
        leb-true n 255 (and_parts (nat_le n 255) fits h).0,
      );
      parts = (and_parts (nat_le n 255) fits h).1;
    }))
    (λ _ h. absurd (grind arith))

-- ---- numbers

is_number : (digits : List ℕ) (value : Option ℕ) → int_value digits ≡ value → is_none value ≡ false
    → IsNumber digits
is_number digits None e some = absurd (false≢true (sym some))
is_number digits (Some n) e some = record { value = n; written = e }

not_opens : (bytes : List ℕ) → count_while is_word_byte bytes ≡ 0 → opens_word bytes ≡ false
not_opens bytes e = opens_is bytes ∙ subst (λ n. first_passes is_word_byte (drop n bytes) ≡ false) e
    (then_fails is_word_byte bytes)

is_zero : (n : ℕ) → (n == 0) ≡ true → n ≡ 0
is_zero n e = grind (arith, nat_tests)

take_more : {A : Type 0} (n m : ℕ) (xs : List A) → n ≤ length xs
    → take (n + m) xs ≡ take n xs ++ take m (drop n xs)
take_more n m xs le =
    let size : length (take n xs) ≡ n = length-take-le n xs le in
    ap (λ l. take (n + m) l) (sym (take-append-drop n xs))
    ∙ ap (λ k. take (k + m) (take n xs ++ drop n xs)) (sym size)
    ∙ take-append-add (take n xs) (drop n xs) m

drop_more : {A : Type 0} (n m : ℕ) (xs : List A) → drop (n + m) xs ≡ drop m (drop n xs)
drop_more n m xs = sym (drop-drop m n xs)

number_form : (b : ℕ) (bs : List ℕ) (p : Piece) → is_ascii_digit b ≡ true
    → number_piece (b ∷ bs) ≡ Some p → Formed (b ∷ bs) p
unfolding number_piece
number_form b bs p t e =
    let text = b ∷ bs in
    let n = count_while is_ascii_digit text in
    let after = drop n text in
    let m = count_while is_word_byte after in
    choose (is_none (int_value (take n text))) None _ (Some p) e
    (λ _ h. absurd (grind arith))
    (λ low h. choose (m == 0) (Some (pieces.Lexeme kinds.Int n)) _ (Some p) h
    (λ none i. this text (pieces.Lexeme kinds.Int n) p i
    (record {
      number = is_number (take n text) (int_value (take n text)) refl low;
      ends =
          not_opens after (is_zero m none);
    }))
    (λ _ i. choose (is_unit (take m after)) (Some (pieces.Lexeme kinds.Time (n + m))) None (Some p)
    i
    (λ one j. this text (pieces.Lexeme kinds.Time (n + m)) p j (record {
      digits = take n text;
      unit = take m after;
      parts = take_more n m text (count_while-le is_ascii_digit text);
      number = is_number (take n text) (int_value (take n text)) refl low;
      one = one;
      ends = opens_is (drop (n + m) text)
          ∙ ap (first_passes is_word_byte) (drop_more n m text) ∙ then_fails is_word_byte after;
    }))
    (λ _ j. absurd (grind arith))))

-- ---- texts

text_form : (b : ℕ) (bs : List ℕ) (p : Piece) → (b == 34) ≡ true → text_piece bs ≡ Some p
    → Formed (b ∷ bs) p
unfolding text_piece
text_form b bs p quote e =
    let n = count_while is_text_byte bs in
    choose (opens 34 (drop n bs)) (Some (pieces.Lexeme kinds.Text (n + 2))) None (Some p) e
    (λ t h. this (b ∷ bs) (pieces.Lexeme kinds.Text (n + 2)) p h (record {
      inner = take n bs;
      quoted = quotes b bs n (count_while-le is_text_byte bs) quote t;
      all = all_passed is_text_byte bs;
    }))
    (λ _ h. absurd (grind arith))
  where
    one : (l : List ℕ) → opens 34 l ≡ true → take 1 l ≡ 34 ∷ []
    one [] o = absurd (grind arith)
    one (c ∷ cs) o = let same : c ≡ 34 = grind (arith, nat_tests) in ap (λ x. x ∷ []) same

    quotes : (c : ℕ) (cs : List ℕ) (n : ℕ) → n ≤ length cs → (c == 34) ≡ true
        → opens 34 (drop n cs) ≡ true → take (n + 2) (c ∷ cs) ≡ 34 ∷ (take n cs ++ 34 ∷ [])
    quotes c cs n le q o =
        let same : c ≡ 34 = grind (arith, nat_tests) in
        let two : n + 2 ≡ suc (n + 1) = omega arith in
        ap (λ k. take k (c ∷ cs)) two
        ∙ ap (λ x. x ∷ take (n + 1) cs) same
        ∙ ap (λ l. 34 ∷ l) (take_more n 1 cs le ∙ ap (λ l. take n cs ++ l) (one (drop n cs) o))

-- ---- punctuation

pair_form : (text : List ℕ) → opens_pair text ≡ true → IsPunct (take 2 text) (drop 2 text)
pair_form [] t = absurd (grind arith)
pair_form (a ∷ []) t = absurd (grind arith)
pair_form (a ∷ b ∷ others) t = inl (a, b, refl, t)

single_form : (text : List ℕ) → opens_pair text ≡ false → opens_single text ≡ true
    → IsPunct (take 1 text) (drop 1 text)
single_form [] f t = absurd (grind arith)
single_form (a ∷ []) f t = inr (a, refl, t, λ b bs e. absurd (omega (arith, ap length e)))
single_form (a ∷ c ∷ cs) f t = inr (
  a,
  refl,
  t,
  λ b bs e. let same : c ≡ b = cc in subst (λ x. is_double_sign a x ≡ false) same f,
)

punct_form : (b : ℕ) (bs : List ℕ) (p : Piece) → punct_piece (b ∷ bs) ≡ Some p → Formed (b ∷ bs) p
unfolding punct_piece
punct_form b bs p e =
    choose (opens_pair (b ∷ bs)) (Some (pieces.Lexeme kinds.Punct 2)) _ (Some p) e
    (λ t h. this (b ∷ bs) (pieces.Lexeme kinds.Punct 2) p h (pair_form (b ∷ bs) t))
    (λ f h. choose (opens_single (b ∷ bs)) (Some (pieces.Lexeme kinds.Punct 1)) None (Some p) h
    (λ t i. this (b ∷ bs) (pieces.Lexeme kinds.Punct 1) p i (single_form (b ∷ bs) f t))
    (λ _ i. absurd (grind arith)))

-- ---- all tokens

comment_form : (text bytes : List ℕ) (o : Option ℕ) (p : Piece)
    → option_map (λ k. pieces.Comment (k + 2)) o ≡ Some p → Formed text p
comment_form text bytes None p e = absurd (grind arith)
comment_form text bytes (Some k) p e = this text (pieces.Comment (k + 2)) p e tt

comments : (text bytes : List ℕ) (p : Piece) → comment_piece bytes ≡ Some p → Formed text p
unfolding comment_piece
comments text bytes p e = comment_form text bytes (closing bytes) p e

piece_formed : (line : Bool) (text : List ℕ) (p : Piece) → piece line text ≡ Some p → Formed text p
unfolding piece
piece_formed line [] p e = absurd (grind arith)
piece_formed line (b ∷ bs) p e = by_piece line b bs p e
    (λ h. this (b ∷ bs) pieces.Newline p h tt)
    (λ h. this (b ∷ bs) pieces.Blank p h tt)
    (λ t h. this (b ∷ bs) (pieces.Skipped _) p h tt)
    (λ t h. comments (b ∷ bs) (drop 1 bs) p h)
    (λ t h. word_form b bs p t h)
    (λ t h. number_form b bs p t h)
    (λ t h. text_form b bs p t h)
    (λ h. punct_form b bs p h)

-- a piece, and the tokens behind it
push_formed : (text rest : List ℕ) (at : ℕ) (p : Piece) (ts : List Token) → drop at text ≡ rest
    → Formed rest p → ByRecursion (HasForm text) ts
    → ByRecursion (HasForm text) (lexeme at p ++ ts)
push_formed text rest at pieces.Newline ts e f more = more
push_formed text rest at pieces.Blank ts e f more = more
push_formed text rest at (pieces.Skipped n) ts e f more = more
push_formed text rest at (pieces.Comment n) ts e f more = more
push_formed text rest at (pieces.Lexeme kind n) ts e f more =
    let width : at + n - at ≡ n = omega arith in
    let bytes : take (at + n - at) (drop at text) ≡ take n rest =
    ap (λ k. take k (drop at text)) width ∙ ap (take n) e in
    let after : drop (at + n) text ≡ drop n rest = drop_more at n text ∙ ap (drop n) e in (
      subst (λ l. IsForm kind (take (at + n - at) (drop at text)) l) (sym after)
          (subst (λ l. IsForm kind l (drop n rest)) (sym bytes) f),
      more,
    )

all_formed : (text rest : List ℕ) (at : ℕ) (line : Bool) (ps : List Piece) → drop at text ≡ rest
    → IsCut line rest ps [] → ByRecursion (HasForm text) (tokens_from at ps)
all_formed text rest at line [] e cut = tt
all_formed text rest at line (p ∷ ps) e cut =
    push_formed text rest at p (tokens_from (at + size p) ps) e (piece_formed line rest p cut.0)
    (all_formed text (drop (size p) rest) (at + size p) (line_after line p) ps
    (drop_more at (size p) text ∙ ap (drop (size p)) e) cut.1)

pub formed : (text : List ℕ) (ts : List Token) → AreTokens text ts → All (HasForm text) ts
formed text ts a =
    All-from_recursion (HasForm text) ts
    (subst (ByRecursion (HasForm text)) (sym a.read)
    (all_formed text text 0 true a.pieces refl a.cut))
