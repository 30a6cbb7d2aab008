-- A piece has one byte at least, and no more than the text.
use Rattle.std.proofs.Common.{◌≡◌, ℕ, ◌+◌, ◌^◌, ◌<◌, ◌≤◌, ◌&&◌, ◌==◌, List, [], ◌∷◌, length, take}
use Rattle.std.proofs.Common.{drop, Bool, true, false, nat_le, if◌then◌else◌, Option, Some, None}
use Rattle.std.proofs.Common.{arith, length-drop, subst, refl}
use Rattle.std.specs.Char.{is_ascii_alphabetic, is_ascii_digit}
use Rattle.std.specs.List.{prefix_len}
use Rattle.std.specs.Option.{option_map, is_none}
use Rattle.std.proofs.lemmas.List.Sums.{prefix_len-le-length}
use Rattle.std.proofs.lemmas.List.Folds.{length-prefix_len}
use Rattle.std.proofs.lemmas.Option.{same_Some}
use Rattle.std.proofs.lemmas.Bool.Decides.{nat_tests}
use Rattle.ev_lex.specs.Bytes.{count_while, opens, is_word_byte, is_text_byte, is_in_line, is_blank}
use Rattle.ev_lex.specs.Bytes.{int_value}
use Rattle.ev_lex.specs.Pieces.{is_in_word, word_length, word_piece, number_piece, text_piece}
use Rattle.ev_lex.specs.Pieces.{punct_piece, comment_piece, parts_fit, is_unit, opens_pair}
use Rattle.ev_lex.specs.Pieces.{opens_single, closing, piece, size}
use Rattle.ev_lex.specs.declared.piece.Piece.{Piece}
use Rattle.ev_lex.specs.declared.piece.Piece.TheVariants as pieces
use Rattle.ev_lex.specs.declared.token.Kind.TheVariants as kinds

-- either way of a choice gives P
pub choose : {A P : Type 0} (b : Bool) (x y z : A) → (if b then x else y) ≡ z
    → (b ≡ true → x ≡ z → P) → (b ≡ false → y ≡ z → P) → P
choose true x y z e yes' no' = yes' refl e
choose false x y z e yes' no' = no' refl e

-- a piece has one byte at least and at most n
pub record Within (n : ℕ) (p : Piece) : Type 0 where
  pub some : 0 < size p
  pub most : size p ≤ n

-- the piece at hand is p
it_is : (n : ℕ) (x p : Piece) → Some x ≡ Some p → 0 < size x → size x ≤ n → Within n p
it_is n x p e some most =
    let same : x ≡ p = same_Some x p e in
    record { some = subst (λ q. 0 < size q) same some; most = subst (λ q. size q ≤ n) same most }

pub count_while-le : (test : ℕ → Bool) (bytes : List ℕ) → count_while test bytes ≤ length bytes
count_while-le test bytes =
    omega (arith, length-prefix_len test bytes, prefix_len-le-length test bytes)

pub count_while-cons : (test : ℕ → Bool) (b : ℕ) (bs : List ℕ) → test b ≡ true
    → 0 < count_while test (b ∷ bs)
count_while-cons test b bs e =
    let first : prefix_len test (b ∷ bs) ≡ 1 + prefix_len test bs = rw e refl in
    omega (arith, length-prefix_len test (b ∷ bs), first)

pub word_length-le : (text : List ℕ) → word_length text ≤ length text
word_length-le [] = omega arith
word_length-le (b ∷ bs) =
    choose (is_in_word b bs) (1 + word_length bs) 0 (word_length (b ∷ bs)) refl
    (λ t e. omega (arith, e, word_length-le bs)) (λ f e. omega (arith, e))

both_open : (b : ℕ) (bs : List ℕ) → (b == 42 && opens 47 bs) ≡ true → 1 ≤ length bs
both_open b [] t = grind (arith, nat_tests)
both_open b (c ∷ cs) t = omega arith

closing_more : (b : ℕ) (bs : List ℕ) (o : Option ℕ) (n : ℕ) → ((k : ℕ) → o ≡ Some k → k ≤ length bs)
    → option_map (λ k. 1 + k) o ≡ Some n → n ≤ length (b ∷ bs)
closing_more b bs None n most e = grind arith
closing_more b bs (Some k) n most e = omega (arith, most k refl, same_Some (1 + k) n e)

closing_two : (b : ℕ) (bs : List ℕ) (n : ℕ) → 1 ≤ length bs → Some 2 ≡ Some n → n ≤ length (b ∷ bs)
closing_two b bs n some e = omega (arith, same_Some 2 n e)

pub closing-le : (text : List ℕ) (n : ℕ) → closing text ≡ Some n → n ≤ length text
closing-le [] n e = grind arith
closing-le (b ∷ bs) n e =
    choose (b == 42 && opens 47 bs) (Some 2) (option_map (λ k. 1 + k) (closing bs)) (Some n) e
    (λ t h. closing_two b bs n (both_open b bs t) h)
    (λ f h. closing_more b bs (closing bs) n (λ k. closing-le bs k) h)

-- each kind of piece

word_first : (b : ℕ) (bs : List ℕ) → is_ascii_alphabetic b ≡ true → 0 < word_length (b ∷ bs)
word_first b bs t =
    let on : is_in_word b bs ≡ true = grind (arith, nat_tests) in
    let more : word_length (b ∷ bs) ≡ 1 + word_length bs = rw on refl in
    omega (arith, more)

word_fits : (b : ℕ) (bs : List ℕ) (p : Piece) → is_ascii_alphabetic b ≡ true
    → word_piece (b ∷ bs) ≡ Some p → Within (length (b ∷ bs)) p
unfolding word_piece
word_fits b bs p t e =
    let n = word_length (b ∷ bs) in
    choose (nat_le n 255 && parts_fit (take n (b ∷ bs))) (Some (pieces.Lexeme kinds.Word n)) None
    (Some p) e
    (λ _ h. it_is (length (b ∷ bs)) (pieces.Lexeme kinds.Word n) p h (word_first b bs t)
    (word_length-le (b ∷ bs)))
    (λ _ h. absurd (grind arith))

number_fits : (b : ℕ) (bs : List ℕ) (p : Piece) → is_ascii_digit b ≡ true
    → number_piece (b ∷ bs) ≡ Some p → Within (length (b ∷ bs)) p
unfolding number_piece
number_fits b bs p t e =
    let text = b ∷ bs in
    let n = count_while is_ascii_digit text in
    let m = count_while is_word_byte (drop n text) in
    let some : 0 < n = count_while-cons is_ascii_digit b bs t in
    let most : n ≤ length text = count_while-le is_ascii_digit text in
    let after : m ≤ length (drop n text) = count_while-le is_word_byte (drop n text) in
    let both : n + m ≤ length text = omega (arith, length-drop n text) in
    choose (is_none (int_value (take n text))) None _ (Some p) e
    (λ _ h. absurd (grind arith))
    (λ _ h. choose (m == 0) (Some (pieces.Lexeme kinds.Int n)) _ (Some p) h
    (λ _ i. it_is (length text) (pieces.Lexeme kinds.Int n) p i some most)
    (λ _ i. choose (is_unit (take m (drop n text))) (Some (pieces.Lexeme kinds.Time (n + m))) None
    (Some p) i
    (λ _ j. it_is (length text) (pieces.Lexeme kinds.Time (n + m)) p j (omega arith) both)
    (λ _ j. absurd (grind arith))))

opens_some : (b : ℕ) (bytes : List ℕ) → opens b bytes ≡ true → 0 < length bytes
opens_some b [] t = grind arith
opens_some b (c ∷ cs) t = omega arith

text_fits : (b : ℕ) (bs : List ℕ) (p : Piece) → text_piece bs ≡ Some p → Within (length (b ∷ bs)) p
unfolding text_piece
text_fits b bs p e =
    let n = count_while is_text_byte bs in
    choose (opens 34 (drop n bs)) (Some (pieces.Lexeme kinds.Text (n + 2))) None (Some p) e
    (λ t h. it_is (length (b ∷ bs)) (pieces.Lexeme kinds.Text (n + 2)) p h (omega arith)
    (omega (arith, opens_some 34 (drop n bs) t, length-drop n bs, count_while-le is_text_byte bs)))
    (λ _ h. absurd (grind arith))

opens_pair_two : (text : List ℕ) → opens_pair text ≡ true → 2 ≤ length text
opens_pair_two [] t = grind arith
opens_pair_two (a ∷ []) t = grind arith
opens_pair_two (a ∷ b ∷ others) t = omega arith

punct_fits : (b : ℕ) (bs : List ℕ) (p : Piece) → punct_piece (b ∷ bs) ≡ Some p
    → Within (length (b ∷ bs)) p
unfolding punct_piece
punct_fits b bs p e =
    choose (opens_pair (b ∷ bs)) (Some (pieces.Lexeme kinds.Punct 2)) _ (Some p) e
    (λ t h. it_is (length (b ∷ bs)) (pieces.Lexeme kinds.Punct 2) p h (omega arith)
    (opens_pair_two (b ∷ bs) t))
    (λ _ h. choose (opens_single (b ∷ bs)) (Some (pieces.Lexeme kinds.Punct 1)) None (Some p) h
    (λ _ i. it_is (length (b ∷ bs)) (pieces.Lexeme kinds.Punct 1) p i (omega arith) (omega arith))
    (λ _ i. absurd (grind arith)))

comment_at : (n : ℕ) (bytes : List ℕ) (o : Option ℕ) (p : Piece) → closing bytes ≡ o
    → length bytes + 2 ≤ n → option_map (λ k. pieces.Comment (k + 2)) o ≡ Some p → Within n p
comment_at n bytes None p is room e = absurd (grind arith)
comment_at n bytes (Some k) p is room e =
    it_is n (pieces.Comment (k + 2)) p e (omega arith) (omega (arith, closing-le bytes k is))

comment_fits : (b : ℕ) (bs : List ℕ) (p : Piece) → opens 42 bs ≡ true
    → comment_piece (drop 1 bs) ≡ Some p → Within (length (b ∷ bs)) p
unfolding comment_piece
comment_fits b bs p t e =
    comment_at (length (b ∷ bs)) (drop 1 bs) (closing (drop 1 bs)) p refl
    (omega (arith, length-drop 1 bs, opens_some 42 bs t)) e

skipped_first : (line : Bool) (b : ℕ) → (line && b == 35) ≡ true → is_in_line b ≡ true
skipped_first line b t = grind (arith, nat_tests)

opens_second : (b : ℕ) (bs : List ℕ) → (b == 47 && opens 42 bs) ≡ true → opens 42 bs ≡ true
opens_second b bs t = grind (arith, nat_tests)

-- what begins a text, by what its first byte is
pub by_piece : {P : Type 0} (line : Bool) (b : ℕ) (bs : List ℕ) (p : Piece)
    → piece line (b ∷ bs) ≡ Some p
    → (Some pieces.Newline ≡ Some p → P)
    → (Some pieces.Blank ≡ Some p → P)
    → ((line && b == 35) ≡ true → Some (pieces.Skipped (count_while is_in_line (b ∷ bs))) ≡ Some p
    → P)
    → (opens 42 bs ≡ true → comment_piece (drop 1 bs) ≡ Some p → P)
    → (is_ascii_alphabetic b ≡ true → word_piece (b ∷ bs) ≡ Some p → P)
    → (is_ascii_digit b ≡ true → number_piece (b ∷ bs) ≡ Some p → P)
    → ((b == 34) ≡ true → text_piece bs ≡ Some p → P)
    → (punct_piece (b ∷ bs) ≡ Some p → P) → P
unfolding piece
by_piece line b bs p e newline blank skipped comment word number text punct =
    choose (b == 10) (Some pieces.Newline) _ (Some p) e (λ _ h. newline h)
    (λ _ h. choose (is_blank b) (Some pieces.Blank) _ (Some p) h (λ _ i. blank i)
    (λ _ i. choose (line && b == 35) (Some (pieces.Skipped (count_while is_in_line (b ∷ bs)))) _
    (Some p) i
    (λ t j. skipped t j)
    (λ _ j. choose (b == 47 && opens 42 bs) (comment_piece (drop 1 bs)) _ (Some p) j
    (λ t k. comment (opens_second b bs t) k)
    (λ _ k. choose (is_ascii_alphabetic b) (word_piece (b ∷ bs)) _ (Some p) k (λ t l. word t l)
    (λ _ l. choose (is_ascii_digit b) (number_piece (b ∷ bs)) _ (Some p) l (λ t m. number t m)
    (λ _ m. choose (b == 34) (text_piece bs) (punct_piece (b ∷ bs)) (Some p) m (λ t o. text t o)
    (λ _ o. punct o)))))))

-- what begins a text has one byte at least, and no more than the text
pub piece_fits : (line : Bool) (text : List ℕ) (p : Piece) → piece line text ≡ Some p
    → Within (length text) p
unfolding piece
piece_fits line [] p e = absurd (grind arith)
piece_fits line (b ∷ bs) p e = by_piece line b bs p e
    (λ h. it_is (length (b ∷ bs)) pieces.Newline p h (omega arith) (omega arith))
    (λ h. it_is (length (b ∷ bs)) pieces.Blank p h (omega arith) (omega arith))
    (λ t h. it_is (length (b ∷ bs)) (pieces.Skipped (count_while is_in_line (b ∷ bs))) p h
    (count_while-cons is_in_line b bs (skipped_first line b t))
    (count_while-le is_in_line (b ∷ bs)))
    (λ t h. comment_fits b bs p t h)
    (λ t h. word_fits b bs p t h)
    (λ t h. number_fits b bs p t h)
    (λ t h. text_fits b bs p h)
    (λ h. punct_fits b bs p h)
