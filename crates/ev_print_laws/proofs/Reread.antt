-- Real tokens that are printed are cut into themselves again.
use Rattle.std.proofs.Common.{◌≡◌, ℕ, ◌+◌, ◌-◌, Bool, true, false, List, [], ◌∷◌, ◌++◌, length}
use Rattle.std.proofs.Common.{take, drop, Some, if◌then◌else◌, refl, sym, ◌∙◌, ap, subst}
use Rattle.std.proofs.Common.{append_assoc, length-append, codes, arith}
use Rattle.std.proofs.lemmas.List.{take_at, drop_at}
use Rattle.ev_lex.specs.Cut.{IsCut, tokens_from, AreTokens}
use Rattle.ev_lex.specs.Pieces.{piece, line_after}
use Rattle.ev_lex.specs.declared.piece.Piece.{Piece}
use Rattle.ev_lex.specs.declared.piece.Piece.TheVariants as pieces
use Rattle.ev_lex.specs.declared.token.Token.{Token}
use Rattle.ev_tree.specs.Text.{bytes_of, gap, text_of}
use Rattle.ev_tree.specs.Tok.{Tok, Sign, Name, Class, Int, Time, Text, Odd, same_bytes}
use Rattle.ev_parse.specs.Toks.{meaning, tok_of, toks}
use Rattle.ev_print_laws.proofs.Real.{Real, AllReal}

-- the piece between two tokens
abbrev gap_of : Bool → Piece
gap_of b = if b then pieces.Newline else pieces.Blank

abbrev ends : Tok → Bool
ends (Sign b) = same_bytes b (codes ";")
ends (Name b) = false
ends (Class b) = false
ends (Int n) = false
ends (Time w) = false
ends (Text t) = false
ends Odd = false

gap_is : (t : Tok) → gap t ≡ (if ends t then 10 else 32)
gap_is (Sign b) = refl
gap_is (Name b) = refl
gap_is (Class b) = refl
gap_is (Int n) = refl
gap_is (Time w) = refl
gap_is (Text t) = refl
gap_is Odd = refl

gap_begins : (b : Bool) (rest : List ℕ)
    → piece false ((if b then 10 else 32) ∷ rest) ≡ Some (gap_of b)
unfolding piece
gap_begins true rest = refl
gap_begins false rest = refl

gap_cut : (b : Bool) (rest : List ℕ) (ps : List Piece)
    → IsCut (line_after false (gap_of b)) rest ps []
    → IsCut false ((if b then 10 else 32) ∷ rest) (gap_of b ∷ ps) []
gap_cut true rest ps cut = (gap_begins true rest, cut)
gap_cut false rest ps cut = (gap_begins false rest, cut)

gap_tokens : (b : Bool) (at : ℕ) (ps : List Piece)
    → tokens_from at (gap_of b ∷ ps) ≡ tokens_from (at + 1) ps
gap_tokens true at ps = refl
gap_tokens false at ps = refl

-- the pieces of printed tokens
pieces_of : (ts : List Tok) → AllReal ts → List Piece
pieces_of [] r = []
pieces_of (t ∷ ts) r =
    pieces.Lexeme r.0.kind (length (bytes_of t)) ∷ gap_of (ends t) ∷ pieces_of ts r.1

text_cut : (line : Bool) (ts : List Tok) (r : AllReal ts)
    → IsCut line (text_of ts) (pieces_of ts r) []
unfolding pieces_of
text_cut line [] r = refl
text_cut line (t ∷ ts) r = (
  r.0.begins line (text_of ts),
  subst (λ l. IsCut false l (gap_of (ends t) ∷ pieces_of ts r.1) [])
      (sym (drop_at (bytes_of t) (gap t ∷ text_of ts) (length (bytes_of t)) refl
      ∙ ap (λ g. g ∷ text_of ts) (gap_is t)))
      (gap_cut (ends t) (text_of ts) (pieces_of ts r.1)
      (text_cut (line_after false (gap_of (ends t))) ts r.1)),
)

-- the token of the text that follows front means what was printed
token_means : (front : List ℕ) (t : Tok) (r : Real t) (rest : List ℕ)
    → tok_of (front ++ (bytes_of t ++ rest))
    (record { kind = r.kind; from = length front; to = length front + length (bytes_of t) }) ≡ t
unfolding tok_of
token_means front t r rest =
    ap (λ n. meaning r.kind (take n (drop (length front) (front ++ (bytes_of t ++ rest)))))
    (the_size (length front) (length (bytes_of t)))
    ∙ ap (λ l. meaning r.kind (take (length (bytes_of t)) l))
    (drop_at front (bytes_of t ++ rest) (length front) refl)
    ∙ ap (meaning r.kind) (take_at (bytes_of t) rest (length (bytes_of t)) refl)
    ∙ r.means
  where
    the_size : (a n : ℕ) → (a + n) - a ≡ n
    the_size a n = omega arith

regrouped : (front b : List ℕ) (g : ℕ) (rest : List ℕ)
    → front ++ (b ++ (g ∷ rest)) ≡ ((front ++ b) ++ g ∷ []) ++ rest
regrouped front b g rest =
    sym (append_assoc front b (g ∷ rest)) ∙ sym (append_assoc (front ++ b) (g ∷ []) rest)

text_means : (front : List ℕ) (ts : List Tok) (r : AllReal ts)
    → toks (front ++ text_of ts) (tokens_from (length front) (pieces_of ts r)) ≡ ts
unfolding pieces_of
text_means front [] r = refl
text_means front (t ∷ ts) r =
    let b = bytes_of t in
    let after = (front ++ b) ++ gap t ∷ [] in
    let count : length front + length b + 1 ≡ length after =
    omega (arith, length-append (front ++ b) (gap t ∷ []), length-append front b) in
    ap (λ u. u ∷ toks (front ++ text_of (t ∷ ts))
    (tokens_from (length front + length b) (gap_of (ends t) ∷ pieces_of ts r.1)))
    (token_means front t r.0 (gap t ∷ text_of ts))
    ∙ ap (λ l. t ∷ toks (front ++ text_of (t ∷ ts)) l)
    (gap_tokens (ends t) (length front + length b) (pieces_of ts r.1))
    ∙ ap (λ n. t ∷ toks (front ++ text_of (t ∷ ts)) (tokens_from n (pieces_of ts r.1))) count
    ∙ ap (λ l. t ∷ toks l (tokens_from (length after) (pieces_of ts r.1)))
    (regrouped front b (gap t) (text_of ts))
    ∙ ap (λ l. t ∷ l) (text_means after ts r.1)

-- the tokens of the printed text
pub text_tokens : (ts : List Tok) → AllReal ts → List Token
text_tokens ts r = tokens_from 0 (pieces_of ts r)

pub text_lexes : (ts : List Tok) (r : AllReal ts) → AreTokens (text_of ts) (text_tokens ts r)
unfolding text_tokens
text_lexes ts r = record { pieces = pieces_of ts r; cut = text_cut true ts r; read = refl }

pub text_says : (ts : List Tok) (r : AllReal ts) → toks (text_of ts) (text_tokens ts r) ≡ ts
unfolding text_tokens
text_says ts r = text_means [] ts r
