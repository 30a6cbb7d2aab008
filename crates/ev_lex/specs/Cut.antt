-- A rule text cut into its pieces, its tokens, and the place at which nothing begins.
use Rattle.std.specs.Prelude.{◌≡◌, ◌≢◌, ℕ, Bool, true, ◌+◌, ◌<◌, ◌≤◌, List, [], ◌∷◌, ◌++◌, drop}
use Rattle.std.specs.Prelude.{Some, None}
use Rattle.ev_lex.specs.Pieces.{piece, size, line_after}
use Rattle.ev_lex.specs.declared.piece.Piece.{Piece}
use Rattle.ev_lex.specs.declared.piece.Piece.TheVariants as pieces
use Rattle.ev_lex.specs.declared.token.Token.{Token}
use Rattle.ev_lex.specs.declared.fault.LexFault.{LexFault}
use Rattle.ev_lex.specs.declared.fault.LexFault.TheVariants as faults

-- the text is cut into these pieces, one after another, and the rest
abbrev pub IsCut : Bool → List ℕ → List Piece → List ℕ → Type 0
IsCut line text [] rest = text ≡ rest
IsCut line text (p ∷ ps) rest = (piece line text ≡ Some p)
    × IsCut (line_after line p) (drop (size p) text) ps rest

-- the token of a piece at this place, where it is one
abbrev pub lexeme : ℕ → Piece → List Token
lexeme at (pieces.Lexeme kind n) = record { kind = kind; from = at; to = at + n } ∷ []
lexeme at pieces.Newline = []
lexeme at pieces.Blank = []
lexeme at (pieces.Skipped n) = []
lexeme at (pieces.Comment n) = []

-- the tokens of pieces, from this place on
abbrev pub tokens_from : ℕ → List Piece → List Token
tokens_from at [] = []
tokens_from at (p ∷ ps) = lexeme at p ++ tokens_from (at + size p) ps

-- the bytes of all pieces together
abbrev pub sizes : List Piece → ℕ
sizes [] = 0
sizes (p ∷ ps) = size p + sizes ps

-- whether only blanks stand before what follows the pieces in its line
abbrev pub line_at : Bool → List Piece → Bool
line_at line [] = line
line_at line (p ∷ ps) = line_at (line_after line p) ps

-- the whole text is tokens, blanks, comments and skipped lines, and these are its tokens
pub record AreTokens (text : List ℕ) (tokens : List Token) : Type 0 where
  pub pieces : List Piece
  pub cut : IsCut true text pieces []
  pub read : tokens ≡ tokens_from 0 pieces

-- at this place of the text nothing begins: pieces stand before it, and more than nothing follows
pub record IsStuck (text : List ℕ) (place : ℕ) : Type 0 where
  pub pieces : List Piece
  pub rest : List ℕ
  pub cut : IsCut true text pieces rest
  pub left : rest ≢ []
  pub stuck : piece (line_at true pieces) rest ≡ None
  pub stands : place ≡ sizes pieces

-- what a fault says of the text
abbrev pub Faults : List ℕ → LexFault → Type 0
Faults text (faults.At place) = IsStuck text place
Faults text faults.NoMemory = Unit {0}

-- slices of a text in order: none is empty, and none begins before the one in front of it ends
abbrev pub AreSlices : ℕ → List Token → ℕ → Type 0
AreSlices at [] end = at ≤ end
AreSlices at (t ∷ ts) end = (at ≤ t.from) × (t.from < t.to) × AreSlices t.to ts end
