-- The pieces of a rule text: tokens, blanks, comments and skipped lines, each by what begins a
-- text.
use Rattle.std.specs.Prelude.{ℕ, Bool, true, false, ◌&&◌, ◌||◌, ◌==◌, ◌+◌, ◌^◌, nat_le}
use Rattle.std.specs.Prelude.{if◌then◌else◌, List, [], ◌∷◌, length, take, drop, Option, Some, None}
use Rattle.std.specs.Prelude.{codes}
use Rattle.std.specs.Char.{is_ascii_alphabetic, is_ascii_digit}
use Rattle.std.specs.List.{list_all, slice_split}
use Rattle.std.specs.Option.{option_map, is_none}
use Rattle.ev_lex.specs.Bytes.{count_while, opens, is_word_byte, opens_word, is_text_byte}
use Rattle.ev_lex.specs.Bytes.{is_in_line, is_blank, int_value}
use Rattle.ev_lex.specs.declared.token.Kind.TheVariants as kinds
use Rattle.ev_lex.specs.declared.piece.Piece.{Piece}
use Rattle.ev_lex.specs.declared.piece.Piece.TheVariants as pieces

-- The byte belongs to a word, of which bs follow: a letter, a digit or `_`, or a `-` or `.` before
-- one of these.
abbrev pub is_in_word : ℕ → List ℕ → Bool
is_in_word b bs = is_word_byte b || ((b == 45 || b == 46) && opens_word bs)

-- how many bytes from the front on belong to a word
abbrev pub word_length : List ℕ → ℕ
word_length [] = 0
word_length (b ∷ bs) = if is_in_word b bs then 1 + word_length bs else 0

-- no part between dots has over 32 bytes
abbrev pub parts_fit : List ℕ → Bool
parts_fit word = list_all (λ part. nat_le (length part) 32) (slice_split (λ b. b == 46) word)

-- a Word: as long as its bytes go on, at most 255 bytes and 32 between dots
unfoldable pub word_piece : List ℕ → Option Piece
word_piece text =
    let n = word_length text in
    if nat_le n 255 && parts_fit (take n text) then Some (pieces.Lexeme kinds.Word n) else None

-- the two byte strings are the same
abbrev pub same_bytes : List ℕ → List ℕ → Bool
same_bytes [] [] = true
same_bytes [] (b ∷ bs) = false
same_bytes (a ∷ as') [] = false
same_bytes (a ∷ as') (b ∷ bs) = a == b && same_bytes as' bs

-- a unit of time
abbrev pub is_unit : List ℕ → Bool
is_unit bs =
    (((((same_bytes bs (codes "ns") || same_bytes bs (codes "us")) || same_bytes bs (codes "ms"))
    || same_bytes bs (codes "s")) || same_bytes bs (codes "m")) || same_bytes bs (codes "h"))
    || same_bytes bs (codes "d")

-- An Int or a Time: digits, then nothing or a unit, as far as letters, digits and `_` follow; the
-- digits write a number below 2 ^ 64.
unfoldable pub number_piece : List ℕ → Option Piece
number_piece text =
    let n = count_while is_ascii_digit text in
    let m = count_while is_word_byte (drop n text) in
    if is_none (int_value (take n text)) then None
    else (if m == 0 then Some (pieces.Lexeme kinds.Int n)
    else (if is_unit (take m (drop n text)) then Some (pieces.Lexeme kinds.Time (n + m))
    else None))

-- a Text, of which its opening quote is taken off: bytes of a text up to the closing quote
unfoldable pub text_piece : List ℕ → Option Piece
text_piece rest =
    let n = count_while is_text_byte rest in
    if opens 34 (drop n rest) then Some (pieces.Lexeme kinds.Text (n + 2)) else None

-- punctuation of two bytes
abbrev pub is_double_sign : ℕ → ℕ → Bool
is_double_sign a b =
    ((((((a == 45 && b == 62) || (a == 60 && b == 61)) || (a == 62 && b == 61)) ||
    (a == 61 && b == 61))
    || (a == 33 && b == 61)) || (a == 38 && b == 38)) || (a == 124 && b == 124)

-- punctuation of one byte: `@` `/` `,` `;` `=` `(` `)` `[` `]` `{` `}` `<` `>` `!` `+`
abbrev pub is_single : ℕ → Bool
is_single a =
    ((((((((((((((a == 64 || a == 47) || a == 44) || a == 59) || a == 61) || a == 40) || a == 41) ||
    a == 91)
    || a == 93) || a == 123) || a == 125) || a == 60) || a == 62) || a == 33) || a == 43)

-- the first two bytes are punctuation of two bytes
abbrev pub opens_pair : List ℕ → Bool
opens_pair [] = false
opens_pair (a ∷ []) = false
opens_pair (a ∷ b ∷ others) = is_double_sign a b

-- the first byte is punctuation of one byte
abbrev pub opens_single : List ℕ → Bool
opens_single [] = false
opens_single (a ∷ others) = is_single a

-- punctuation, the longest first
unfoldable pub punct_piece : List ℕ → Option Piece
punct_piece text =
    if opens_pair text then Some (pieces.Lexeme kinds.Punct 2)
    else (if opens_single text then Some (pieces.Lexeme kinds.Punct 1)
    else None)

-- how many bytes there are up to and with the first `*/`
abbrev pub closing : List ℕ → Option ℕ
closing [] = None
closing (b ∷ bs) = if b == 42 && opens 47 bs then Some 2 else option_map (λ n. 1 + n) (closing bs)

-- a comment, of which its `/*` is taken off
unfoldable pub comment_piece : List ℕ → Option Piece
comment_piece rest = option_map (λ n. pieces.Comment (n + 2)) (closing rest)

-- What begins the text, or None where nothing does; line says whether only blanks stand before it
-- in its line.
unfoldable pub piece : Bool → List ℕ → Option Piece
piece line [] = None
piece line (b ∷ bs) =
    if b == 10 then Some pieces.Newline
    else (if is_blank b then Some pieces.Blank
    else (if line && b == 35 then Some (pieces.Skipped (count_while is_in_line (b ∷ bs)))
    else (if b == 47 && opens 42 bs then comment_piece (drop 1 bs)
    else (if is_ascii_alphabetic b then word_piece (b ∷ bs)
    else (if is_ascii_digit b then number_piece (b ∷ bs)
    else (if b == 34 then text_piece bs
    else punct_piece (b ∷ bs)))))))

-- how many bytes a piece has
abbrev pub size : Piece → ℕ
size pieces.Newline = 1
size pieces.Blank = 1
size (pieces.Skipped n) = n
size (pieces.Comment n) = n
size (pieces.Lexeme kind n) = n

-- whether only blanks stand before what follows the piece in its line
abbrev pub line_after : Bool → Piece → Bool
line_after line pieces.Newline = true
line_after line pieces.Blank = line
line_after line (pieces.Skipped n) = false
line_after line (pieces.Comment n) = false
line_after line (pieces.Lexeme kind n) = false
