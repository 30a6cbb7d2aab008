-- The forms of tokens in the language's own words: what stands in a token, and what may not follow
-- it.
use Rattle.std.specs.Prelude.{◌≡◌, ◌⊎◌, ℕ, Bool, true, false, ◌≤◌, ◌-◌}
use Rattle.std.specs.Prelude.{List, [], ◌∷◌, ◌++◌, length, take, drop, All, Some}
use Rattle.std.specs.Char.{is_ascii_alphabetic}
use Rattle.std.specs.List.{list_all}
use Rattle.ev_lex.specs.Bytes.{opens_word, is_text_byte, int_value}
use Rattle.ev_lex.specs.Pieces.{is_in_word, parts_fit, is_unit, is_double_sign, is_single}
use Rattle.ev_lex.specs.Cut.{AreTokens}
use Rattle.ev_lex.specs.declared.token.Kind.{Kind}
use Rattle.ev_lex.specs.declared.token.Kind.TheVariants as kinds
use Rattle.ev_lex.specs.declared.token.Token.{Token}

-- the first byte belongs to a word
abbrev pub belongs : List ℕ → Bool
belongs [] = false
belongs (b ∷ bs) = is_in_word b bs

-- A Word begins with a letter. Each of its bytes is a letter, a digit or `_`, or a `-` or `.` with
-- one of these behind it in the word, and no byte that belongs to it follows. It keeps the limits.
pub record IsWord (bytes after : List ℕ) : Type 0 where
  pub letter : (b : ℕ) × (bs : List ℕ) × (bytes ≡ b ∷ bs) × (is_ascii_alphabetic b ≡ true)
  pub inside : (front : List ℕ) (b : ℕ) (back : List ℕ) → bytes ≡ front ++ b ∷ back
      → is_in_word b back ≡ true
  pub ends : belongs after ≡ false
  pub short : length bytes ≤ 255
  pub parts : parts_fit bytes ≡ true

-- digits that write a number below 2 ^ 64
pub record IsNumber (digits : List ℕ) : Type 0 where
  pub value : ℕ
  pub written : int_value digits ≡ Some value

-- an Int is such a number, and no letter, digit or `_` follows
pub record IsInt (bytes after : List ℕ) : Type 0 where
  pub number : IsNumber bytes
  pub ends : opens_word after ≡ false

-- a Time is such a number and a unit, and no letter, digit or `_` follows
pub record IsTime (bytes after : List ℕ) : Type 0 where
  pub digits : List ℕ
  pub unit : List ℕ
  pub parts : bytes ≡ digits ++ unit
  pub number : IsNumber digits
  pub one : is_unit unit ≡ true
  pub ends : opens_word after ≡ false

-- a Text is its bytes between two quotes
pub record IsText (bytes : List ℕ) : Type 0 where
  pub inner : List ℕ
  pub quoted : bytes ≡ 34 ∷ (inner ++ 34 ∷ [])
  pub all : list_all is_text_byte inner ≡ true

-- punctuation of two bytes, or of one that doesn't stand before the second of two
abbrev pub IsPunct : List ℕ → List ℕ → Type 0
IsPunct bytes after =
    ((a : ℕ) × (b : ℕ) × (bytes ≡ a ∷ b ∷ []) × (is_double_sign a b ≡ true))
    ⊎ ((a : ℕ) × (bytes ≡ a ∷ []) × (is_single a ≡ true)
    × ((b : ℕ) (bs : List ℕ) → after ≡ b ∷ bs → is_double_sign a b ≡ false))

-- a token of each kind
abbrev pub IsForm : Kind → List ℕ → List ℕ → Type 0
IsForm kinds.Word bytes after = IsWord bytes after
IsForm kinds.Int bytes after = IsInt bytes after
IsForm kinds.Time bytes after = IsTime bytes after
IsForm kinds.Text bytes after = IsText bytes
IsForm kinds.Punct bytes after = IsPunct bytes after

-- the token's slice of the text has the form of its kind
abbrev pub HasForm : List ℕ → Token → Type 0
HasForm text t = IsForm t.kind (take (t.to - t.from) (drop t.from text)) (drop t.to text)

-- in each text that has tokens, each token has the form of its kind
abbrev pub TokensHaveForms : Type 0
TokensHaveForms = (text : List ℕ) (ts : List Token) → AreTokens text ts → All (HasForm text) ts
