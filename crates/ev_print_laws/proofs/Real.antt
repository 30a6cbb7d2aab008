-- Tokens that are read again from what they are printed as.
use Rattle.std.proofs.Common.{◌≡◌, ℕ, Bool, true, false, List, [], ◌∷◌, ◌++◌, length, Some, refl}
use Rattle.std.proofs.Common.{subst, codes}
use Rattle.ev_lex.specs.Pieces.{piece, word_piece, punct_piece}
use Rattle.ev_lex.specs.declared.piece.Piece.TheVariants as pieces
use Rattle.ev_lex.specs.declared.token.Kind.{Kind}
use Rattle.ev_lex.specs.declared.token.Kind.TheVariants as kinds
use Rattle.ev_tree.specs.Text.{bytes_of, gap}
use Rattle.ev_tree.specs.Tok.{Tok, Sign, Name, Class, Int, Time, Text, Odd}
use Rattle.ev_parse.specs.Toks.{meaning}

-- The printed token and what follows it begin with one lexeme, which is the token and means it.
pub record Real (t : Tok) : Type 0 where
  pub kind : Kind
  pub means : meaning kind (bytes_of t) ≡ t
  pub begins : (line : Bool) (rest : List ℕ)
      → piece line (bytes_of t ++ (gap t ∷ rest)) ≡ Some (pieces.Lexeme kind (length (bytes_of t)))

-- the same for what a token carries: signs carry nothing
abbrev pub Given : Tok → Type 0
Given (Sign b) = Unit {0}
Given (Name b) = Real (Name b)
Given (Class b) = Real (Class b)
Given (Int n) = Real (Int n)
Given (Time w) = Real (Time w)
Given (Text b) = Real (Text b)
Given Odd = Unit {0}

abbrev pub AllReal : List Tok → Type 0
AllReal [] = Unit {0}
AllReal (t ∷ ts) = Real t × AllReal ts

abbrev pub GivenAll : List Tok → Type 0
GivenAll [] = Unit {0}
GivenAll (t ∷ ts) = Given t × GivenAll ts

pub all_append : (a b : List Tok) → AllReal a → AllReal b → AllReal (a ++ b)
all_append [] b r s = s
all_append (t ∷ a) b r s = (r.0, all_append a b r.1 s)

front_given : (a b : List Tok) → GivenAll (a ++ b) → GivenAll a
front_given [] b g = tt
front_given (t ∷ a) b g = (g.0, front_given a b g.1)

back_given : (a b : List Tok) → GivenAll (a ++ b) → GivenAll b
back_given [] b g = g
back_given (t ∷ a) b g = back_given a b g.1

pub given_front : (ts a b : List Tok) → ts ≡ a ++ b → GivenAll ts → GivenAll a
given_front ts a b e g = front_given a b (subst GivenAll e g)

pub given_back : (ts a b : List Tok) → ts ≡ a ++ b → GivenAll ts → GivenAll b
given_back ts a b e g = back_given a b (subst GivenAll e g)

on_either : (P : Bool → Type 0) → P true → P false → (line : Bool) → P line
on_either P t f true = t
on_either P t f false = f

-- ---- signs

pub arrow_real : Real (Sign (codes "->"))
unfolding piece punct_piece
arrow_real =
    record {
      kind = kinds.Punct;
      means = refl;
      begins = λ line rest.
          on_either (λ l. piece l (bytes_of (Sign (codes "->")) ++ (gap (Sign (codes "->")) ∷ rest))
          ≡ Some (pieces.Lexeme kinds.Punct 2)) refl refl line;
    }

pub less_equal_real : Real (Sign (codes "<="))
unfolding piece punct_piece
less_equal_real =
    record {
      kind = kinds.Punct;
      means = refl;
      begins = λ line rest.
          on_either (λ l. piece l (bytes_of (Sign (codes "<=")) ++ (gap (Sign (codes "<=")) ∷ rest))
          ≡ Some (pieces.Lexeme kinds.Punct 2)) refl refl line;
    }

pub greater_equal_real : Real (Sign (codes ">="))
unfolding piece punct_piece
greater_equal_real =
    record {
      kind = kinds.Punct;
      means = refl;
      begins = λ line rest.
          on_either (λ l. piece l (bytes_of (Sign (codes ">=")) ++ (gap (Sign (codes ">=")) ∷ rest))
          ≡ Some (pieces.Lexeme kinds.Punct 2)) refl refl line;
    }

pub equal_real : Real (Sign (codes "=="))
unfolding piece punct_piece
equal_real =
    record {
      kind = kinds.Punct;
      means = refl;
      begins = λ line rest.
          on_either (λ l. piece l (bytes_of (Sign (codes "==")) ++ (gap (Sign (codes "==")) ∷ rest))
          ≡ Some (pieces.Lexeme kinds.Punct 2)) refl refl line;
    }

pub not_equal_real : Real (Sign (codes "!="))
unfolding piece punct_piece
not_equal_real =
    record {
      kind = kinds.Punct;
      means = refl;
      begins = λ line rest.
          on_either (λ l. piece l (bytes_of (Sign (codes "!=")) ++ (gap (Sign (codes "!=")) ∷ rest))
          ≡ Some (pieces.Lexeme kinds.Punct 2)) refl refl line;
    }

pub and_real : Real (Sign (codes "&&"))
unfolding piece punct_piece
and_real =
    record {
      kind = kinds.Punct;
      means = refl;
      begins = λ line rest.
          on_either (λ l. piece l (bytes_of (Sign (codes "&&")) ++ (gap (Sign (codes "&&")) ∷ rest))
          ≡ Some (pieces.Lexeme kinds.Punct 2)) refl refl line;
    }

pub or_real : Real (Sign (codes "||"))
unfolding piece punct_piece
or_real =
    record {
      kind = kinds.Punct;
      means = refl;
      begins = λ line rest.
          on_either (λ l. piece l (bytes_of (Sign (codes "||")) ++ (gap (Sign (codes "||")) ∷ rest))
          ≡ Some (pieces.Lexeme kinds.Punct 2)) refl refl line;
    }

pub at_real : Real (Sign (codes "@"))
unfolding piece punct_piece
at_real =
    record {
      kind = kinds.Punct;
      means = refl;
      begins = λ line rest.
          on_either (λ l. piece l (bytes_of (Sign (codes "@")) ++ (gap (Sign (codes "@")) ∷ rest))
          ≡ Some (pieces.Lexeme kinds.Punct 1)) refl refl line;
    }

pub slash_real : Real (Sign (codes "/"))
unfolding piece punct_piece
slash_real =
    record {
      kind = kinds.Punct;
      means = refl;
      begins = λ line rest.
          on_either (λ l. piece l (bytes_of (Sign (codes "/")) ++ (gap (Sign (codes "/")) ∷ rest))
          ≡ Some (pieces.Lexeme kinds.Punct 1)) refl refl line;
    }

pub comma_real : Real (Sign (codes ","))
unfolding piece punct_piece
comma_real =
    record {
      kind = kinds.Punct;
      means = refl;
      begins = λ line rest.
          on_either (λ l. piece l (bytes_of (Sign (codes ",")) ++ (gap (Sign (codes ",")) ∷ rest))
          ≡ Some (pieces.Lexeme kinds.Punct 1)) refl refl line;
    }

pub semi_real : Real (Sign (codes ";"))
unfolding piece punct_piece
semi_real =
    record {
      kind = kinds.Punct;
      means = refl;
      begins = λ line rest.
          on_either (λ l. piece l (bytes_of (Sign (codes ";")) ++ (gap (Sign (codes ";")) ∷ rest))
          ≡ Some (pieces.Lexeme kinds.Punct 1)) refl refl line;
    }

pub equals_real : Real (Sign (codes "="))
unfolding piece punct_piece
equals_real =
    record {
      kind = kinds.Punct;
      means = refl;
      begins = λ line rest.
          on_either (λ l. piece l (bytes_of (Sign (codes "=")) ++ (gap (Sign (codes "=")) ∷ rest))
          ≡ Some (pieces.Lexeme kinds.Punct 1)) refl refl line;
    }

pub open_real : Real (Sign (codes "("))
unfolding piece punct_piece
open_real =
    record {
      kind = kinds.Punct;
      means = refl;
      begins = λ line rest.
          on_either (λ l. piece l (bytes_of (Sign (codes "(")) ++ (gap (Sign (codes "(")) ∷ rest))
          ≡ Some (pieces.Lexeme kinds.Punct 1)) refl refl line;
    }

pub close_real : Real (Sign (codes ")"))
unfolding piece punct_piece
close_real =
    record {
      kind = kinds.Punct;
      means = refl;
      begins = λ line rest.
          on_either (λ l. piece l (bytes_of (Sign (codes ")")) ++ (gap (Sign (codes ")")) ∷ rest))
          ≡ Some (pieces.Lexeme kinds.Punct 1)) refl refl line;
    }

pub open_square_real : Real (Sign (codes "["))
unfolding piece punct_piece
open_square_real =
    record {
      kind = kinds.Punct;
      means = refl;
      begins = λ line rest.
          on_either (λ l. piece l (bytes_of (Sign (codes "[")) ++ (gap (Sign (codes "[")) ∷ rest))
          ≡ Some (pieces.Lexeme kinds.Punct 1)) refl refl line;
    }

pub close_square_real : Real (Sign (codes "]"))
unfolding piece punct_piece
close_square_real =
    record {
      kind = kinds.Punct;
      means = refl;
      begins = λ line rest.
          on_either (λ l. piece l (bytes_of (Sign (codes "]")) ++ (gap (Sign (codes "]")) ∷ rest))
          ≡ Some (pieces.Lexeme kinds.Punct 1)) refl refl line;
    }

pub open_brace_real : Real (Sign (codes "{"))
unfolding piece punct_piece
open_brace_real =
    record {
      kind = kinds.Punct;
      means = refl;
      begins = λ line rest.
          on_either (λ l. piece l (bytes_of (Sign (codes "{")) ++ (gap (Sign (codes "{")) ∷ rest))
          ≡ Some (pieces.Lexeme kinds.Punct 1)) refl refl line;
    }

pub close_brace_real : Real (Sign (codes "}"))
unfolding piece punct_piece
close_brace_real =
    record {
      kind = kinds.Punct;
      means = refl;
      begins = λ line rest.
          on_either (λ l. piece l (bytes_of (Sign (codes "}")) ++ (gap (Sign (codes "}")) ∷ rest))
          ≡ Some (pieces.Lexeme kinds.Punct 1)) refl refl line;
    }

pub less_real : Real (Sign (codes "<"))
unfolding piece punct_piece
less_real =
    record {
      kind = kinds.Punct;
      means = refl;
      begins = λ line rest.
          on_either (λ l. piece l (bytes_of (Sign (codes "<")) ++ (gap (Sign (codes "<")) ∷ rest))
          ≡ Some (pieces.Lexeme kinds.Punct 1)) refl refl line;
    }

pub greater_real : Real (Sign (codes ">"))
unfolding piece punct_piece
greater_real =
    record {
      kind = kinds.Punct;
      means = refl;
      begins = λ line rest.
          on_either (λ l. piece l (bytes_of (Sign (codes ">")) ++ (gap (Sign (codes ">")) ∷ rest))
          ≡ Some (pieces.Lexeme kinds.Punct 1)) refl refl line;
    }

pub not_real : Real (Sign (codes "!"))
unfolding piece punct_piece
not_real =
    record {
      kind = kinds.Punct;
      means = refl;
      begins = λ line rest.
          on_either (λ l. piece l (bytes_of (Sign (codes "!")) ++ (gap (Sign (codes "!")) ∷ rest))
          ≡ Some (pieces.Lexeme kinds.Punct 1)) refl refl line;
    }

pub plus_real : Real (Sign (codes "+"))
unfolding piece punct_piece
plus_real =
    record {
      kind = kinds.Punct;
      means = refl;
      begins = λ line rest.
          on_either (λ l. piece l (bytes_of (Sign (codes "+")) ++ (gap (Sign (codes "+")) ∷ rest))
          ≡ Some (pieces.Lexeme kinds.Punct 1)) refl refl line;
    }

-- ---- words of the grammar

pub event_real : Real (Sign (codes "event"))
unfolding piece word_piece
event_real =
    record {
      kind = kinds.Word;
      means = refl;
      begins = λ line rest.
          on_either (λ l. piece l
          (bytes_of (Sign (codes "event")) ++ (gap (Sign (codes "event")) ∷ rest))
          ≡ Some (pieces.Lexeme kinds.Word 5)) refl refl line;
    }

pub engine_real : Real (Sign (codes "engine"))
unfolding piece word_piece
engine_real =
    record {
      kind = kinds.Word;
      means = refl;
      begins = λ line rest.
          on_either (λ l. piece l
          (bytes_of (Sign (codes "engine")) ++ (gap (Sign (codes "engine")) ∷ rest))
          ≡ Some (pieces.Lexeme kinds.Word 6)) refl refl line;
    }

pub prop_real : Real (Sign (codes "prop"))
unfolding piece word_piece
prop_real =
    record {
      kind = kinds.Word;
      means = refl;
      begins = λ line rest.
          on_either (λ l. piece l
          (bytes_of (Sign (codes "prop")) ++ (gap (Sign (codes "prop")) ∷ rest))
          ≡ Some (pieces.Lexeme kinds.Word 4)) refl refl line;
    }

pub confprop_real : Real (Sign (codes "confprop"))
unfolding piece word_piece
confprop_real =
    record {
      kind = kinds.Word;
      means = refl;
      begins = λ line rest.
          on_either (λ l. piece l
          (bytes_of (Sign (codes "confprop")) ++ (gap (Sign (codes "confprop")) ∷ rest))
          ≡ Some (pieces.Lexeme kinds.Word 8)) refl refl line;
    }

pub confprop_defined_real : Real (Sign (codes "confprop_defined"))
unfolding piece word_piece
confprop_defined_real =
    record {
      kind = kinds.Word;
      means = refl;
      begins = λ line rest.
          on_either (λ l. piece l
          (bytes_of (Sign (codes "confprop_defined"))
          ++ (gap (Sign (codes "confprop_defined")) ∷ rest)) ≡ Some (pieces.Lexeme kinds.Word 16))
          refl refl line;
    }

pub payloadprop_real : Real (Sign (codes "payloadprop"))
unfolding piece word_piece
payloadprop_real =
    record {
      kind = kinds.Word;
      means = refl;
      begins = λ line rest.
          on_either (λ l. piece l
          (bytes_of (Sign (codes "payloadprop")) ++ (gap (Sign (codes "payloadprop")) ∷ rest))
          ≡ Some (pieces.Lexeme kinds.Word 11)) refl refl line;
    }

pub FITrate_word_real : Real (Name (codes "FITrate"))
unfolding piece word_piece
FITrate_word_real =
    record {
      kind = kinds.Word;
      means = refl;
      begins = λ line rest.
          on_either (λ l. piece l
          (bytes_of (Name (codes "FITrate")) ++ (gap (Name (codes "FITrate")) ∷ rest))
          ≡ Some (pieces.Lexeme kinds.Word 7)) refl refl line;
    }

pub retire_word_real : Real (Name (codes "retire"))
unfolding piece word_piece
retire_word_real =
    record {
      kind = kinds.Word;
      means = refl;
      begins = λ line rest.
          on_either (λ l. piece l
          (bytes_of (Name (codes "retire")) ++ (gap (Name (codes "retire")) ∷ rest))
          ≡ Some (pieces.Lexeme kinds.Word 6)) refl refl line;
    }

pub within_word_real : Real (Name (codes "within"))
unfolding piece word_piece
within_word_real =
    record {
      kind = kinds.Word;
      means = refl;
      begins = λ line rest.
          on_either (λ l. piece l
          (bytes_of (Name (codes "within")) ++ (gap (Name (codes "within")) ∷ rest))
          ≡ Some (pieces.Lexeme kinds.Word 6)) refl refl line;
    }

pub N_word_real : Real (Name (codes "N"))
unfolding piece word_piece
N_word_real =
    record {
      kind = kinds.Word;
      means = refl;
      begins = λ line rest.
          on_either (λ l. piece l (bytes_of (Name (codes "N")) ++ (gap (Name (codes "N")) ∷ rest))
          ≡ Some (pieces.Lexeme kinds.Word 1)) refl refl line;
    }

pub T_word_real : Real (Name (codes "T"))
unfolding piece word_piece
T_word_real =
    record {
      kind = kinds.Word;
      means = refl;
      begins = λ line rest.
          on_either (λ l. piece l (bytes_of (Name (codes "T")) ++ (gap (Name (codes "T")) ∷ rest))
          ≡ Some (pieces.Lexeme kinds.Word 1)) refl refl line;
    }

pub trip_word_real : Real (Name (codes "trip"))
unfolding piece word_piece
trip_word_real =
    record {
      kind = kinds.Word;
      means = refl;
      begins = λ line rest.
          on_either (λ l. piece l
          (bytes_of (Name (codes "trip")) ++ (gap (Name (codes "trip")) ∷ rest))
          ≡ Some (pieces.Lexeme kinds.Word 4)) refl refl line;
    }

pub A_word_real : Real (Name (codes "A"))
unfolding piece word_piece
A_word_real =
    record {
      kind = kinds.Word;
      means = refl;
      begins = λ line rest.
          on_either (λ l. piece l (bytes_of (Name (codes "A")) ++ (gap (Name (codes "A")) ∷ rest))
          ≡ Some (pieces.Lexeme kinds.Word 1)) refl refl line;
    }
