-- How far a text has been cut, and that it is cut in one way alone.
use Rattle.std.proofs.Common.{◌≡◌, ◌≢◌, ℕ, ◌+◌, ◌<◌, ◌≤◌, List, [], ◌∷◌, ◌++◌, length, drop, Bool}
use Rattle.std.proofs.Common.{true, Some, None, arith, length-drop, append_assoc, subst, sym, ap}
use Rattle.std.proofs.Common.{refl, ◌∙◌, zero-add, add-zero, add_assoc}
use Rattle.std.proofs.lemmas.Option.{same_Some}
use Rattle.ev_lex.specs.Pieces.{piece, size, line_after}
use Rattle.ev_lex.specs.Cut.{IsCut, lexeme, tokens_from, sizes, line_at, AreTokens, IsStuck}
use Rattle.ev_lex.specs.Cut.{AreSlices}
use Rattle.ev_lex.specs.declared.piece.Piece.{Piece}
use Rattle.ev_lex.specs.declared.piece.Piece.TheVariants as pieces
use Rattle.ev_lex.specs.declared.token.Token.{Token}
use Rattle.ev_lex.proofs.Fits.{piece_fits}

-- a cut goes on by what begins the rest
cut_more : (line : Bool) (text : List ℕ) (ps : List Piece) (rest : List ℕ) (p : Piece)
    → IsCut line text ps rest → piece (line_at line ps) rest ≡ Some p
    → IsCut line text (ps ++ p ∷ []) (drop (size p) rest)
cut_more line text [] rest p cut next =
    (subst (λ t. piece line t ≡ Some p) (sym cut) next, ap (λ t. drop (size p) t) cut)
cut_more line text (q ∷ qs) rest p cut next =
    (cut.0, cut_more (line_after line q) (drop (size q) text) qs rest p cut.1 next)

line_at-more : (line : Bool) (ps : List Piece) (p : Piece)
    → line_at line (ps ++ p ∷ []) ≡ line_after (line_at line ps) p
line_at-more line [] p = refl
line_at-more line (q ∷ qs) p = line_at-more (line_after line q) qs p

sizes-more : (ps : List Piece) (p : Piece) → sizes (ps ++ p ∷ []) ≡ sizes ps + size p
sizes-more [] p = omega arith
sizes-more (q ∷ qs) p = omega (arith, sizes-more qs p)

tokens_from-more : (at : ℕ) (ps : List Piece) (p : Piece)
    → tokens_from at (ps ++ p ∷ []) ≡ tokens_from at ps ++ lexeme (at + sizes ps) p
tokens_from-more at [] p = append_nil (lexeme at p) ∙ ap (λ n. lexeme n p) (sym (add-zero at))
  where
    append_nil : (ts : List Token) → ts ++ [] ≡ ts
    append_nil [] = refl
    append_nil (t ∷ ts) = ap (λ l. t ∷ l) (append_nil ts)
tokens_from-more at (q ∷ qs) p =
    ap (λ l. lexeme at q ++ l) (tokens_from-more (at + size q) qs p)
    ∙ sym (append_assoc (lexeme at q) (tokens_from (at + size q) qs)
    (lexeme (at + size q + sizes qs) p))
    ∙ ap (λ n. (lexeme at q ++ tokens_from (at + size q) qs) ++ lexeme n p)
    (add_assoc at (size q) (sizes qs))

slices_later : (at : ℕ) (ts : List Token) (end later : ℕ) → AreSlices at ts end → end ≤ later
    → AreSlices at ts later
slices_later at [] end later s le = omega arith
slices_later at (t ∷ ts) end later s le = (s.0, s.1, slices_later t.to ts end later s.2 le)

slices_one : (at : ℕ) (ts : List Token) (end : ℕ) (t : Token) → AreSlices at ts end → end ≤ t.from
    → t.from < t.to → AreSlices at (ts ++ t ∷ []) t.to
slices_one at [] end t s from to = (omega arith, to, omega arith)
slices_one at (u ∷ us) end t s from to = (s.0, s.1, slices_one u.to us end t s.2 from to)

append_none : (ts : List Token) → ts ++ [] ≡ ts
append_none [] = refl
append_none (t ∷ ts) = ap (λ l. t ∷ l) (append_none ts)

slices_more : (at : ℕ) (ts : List Token) (end : ℕ) (p : Piece) → AreSlices at ts end → 0 < size p
    → AreSlices at (ts ++ lexeme end p) (end + size p)
slices_more at ts end (pieces.Lexeme kind n) s some =
    slices_one at ts end (record { kind = kind; from = end; to = end + n }) s (omega arith)
    (omega arith)
slices_more at ts end pieces.Newline s some =
    subst (λ l. AreSlices at l (end + 1)) (sym (append_none ts))
    (slices_later at ts end (end + 1) s (omega arith))
slices_more at ts end pieces.Blank s some =
    subst (λ l. AreSlices at l (end + 1)) (sym (append_none ts))
    (slices_later at ts end (end + 1) s (omega arith))
slices_more at ts end (pieces.Skipped n) s some =
    subst (λ l. AreSlices at l (end + n)) (sym (append_none ts))
    (slices_later at ts end (end + n) s (omega arith))
slices_more at ts end (pieces.Comment n) s some =
    subst (λ l. AreSlices at l (end + n)) (sym (append_none ts))
    (slices_later at ts end (end + n) s (omega arith))

-- pieces stand before rest, with these tokens
pub record Reached (text : List ℕ) (line : Bool) (rest : List ℕ) (tokens : List Token) (at : ℕ) :
    Type 0 where
  pub pieces : List Piece
  pub cut : IsCut true text pieces rest
  pub same_line : line_at true pieces ≡ line
  pub read : tokens ≡ tokens_from 0 pieces
  pub stands : at ≡ sizes pieces
  pub within : at + length rest ≡ length text
  pub slices : AreSlices 0 tokens at

pub reach_start : (text : List ℕ) → Reached text true text [] 0
reach_start text =
    record {
      pieces = [];
      cut = refl;
      same_line = refl;
      read = refl;
      stands = refl;
      within =
          zero-add (length text);
      slices = omega arith;
    }

pub reach_more : (text : List ℕ) (line : Bool) (rest : List ℕ) (tokens : List Token) (at : ℕ)
    (p : Piece) → Reached text line rest tokens at → piece line rest ≡ Some p
    → Reached text (line_after line p) (drop (size p) rest) (tokens ++ lexeme at p) (at + size p)
reach_more text line rest tokens at p r next =
    let fits = piece_fits line rest p next in
    record {
      pieces = r.pieces ++ p ∷ [];
      cut = cut_more true text r.pieces rest p r.cut
          (subst (λ l. piece l rest ≡ Some p) (sym r.same_line) next);
      same_line = line_at-more true r.pieces p ∙ ap (λ l. line_after l p) r.same_line;
      read =
          ap (λ ts. ts ++ lexeme at p) r.read
          ∙ ap (λ n. tokens_from 0 r.pieces ++ lexeme n p)
          (r.stands ∙ sym (zero-add (sizes r.pieces)))
          ∙ sym (tokens_from-more 0 r.pieces p);
      stands = omega (arith, sizes-more r.pieces p, r.stands);
      within = omega (arith, length-drop (size p) rest, fits.most, r.within);
      slices = slices_more 0 tokens at p r.slices fits.some;
    }

nothing_begins : (line : Bool) (p : Piece) → piece line [] ≡ Some p → ⊥
unfolding piece
nothing_begins line p e = cc

-- a whole text is cut in one way alone
one_cut : (line : Bool) (text : List ℕ) (ps qs : List Piece) → IsCut line text ps []
    → IsCut line text qs [] → ps ≡ qs
one_cut line text [] [] a b = refl
one_cut line text [] (q ∷ qs) a b =
    absurd (nothing_begins line q (subst (λ t. piece line t ≡ Some q) a b.0))
one_cut line text (p ∷ ps) [] a b =
    absurd (nothing_begins line p (subst (λ t. piece line t ≡ Some p) b a.0))
one_cut line text (p ∷ ps) (q ∷ qs) a b =
    let same : p ≡ q = same_Some p q (sym a.0 ∙ b.0) in
    let tail : IsCut (line_after line p) (drop (size p) text) qs [] =
    subst (λ x. IsCut (line_after line x) (drop (size x) text) qs []) (sym same) b.1 in
    ap (λ x. x ∷ ps) same
    ∙ ap (λ l. q ∷ l) (one_cut (line_after line p) (drop (size p) text) ps qs a.1 tail)

-- where nothing begins, no cut goes to the end
no_cut : (line : Bool) (text : List ℕ) (ps qs : List Piece) (rest : List ℕ)
    → IsCut line text ps rest → rest ≢ [] → piece (line_at line ps) rest ≡ None
    → IsCut line text qs [] → ⊥
no_cut line text [] [] rest cut left stuck whole = left (sym cut ∙ whole)
no_cut line text [] (q ∷ qs) rest cut left stuck whole =
    let here : piece line text ≡ None = subst (λ t. piece line t ≡ None) (sym cut) stuck in
    let two : None ≡ Some q = sym here ∙ whole.0 in cc
no_cut line text (p ∷ ps) [] rest cut left stuck whole =
    nothing_begins line p (subst (λ t. piece line t ≡ Some p) whole cut.0)
no_cut line text (p ∷ ps) (q ∷ qs) rest cut left stuck whole =
    let same : p ≡ q = same_Some p q (sym cut.0 ∙ whole.0) in
    let tail : IsCut (line_after line p) (drop (size p) text) qs [] =
    subst (λ x. IsCut (line_after line x) (drop (size x) text) qs []) (sym same) whole.1 in
    no_cut (line_after line p) (drop (size p) text) ps qs rest cut.1 left stuck tail

pub whole : (text rest : List ℕ) (line : Bool) (tokens : List Token) (at : ℕ)
    → Reached text line rest tokens at → rest ≡ [] → AreTokens text tokens
whole text rest line tokens at r end =
    record {
      pieces = r.pieces;
      cut = subst (λ l. IsCut true text r.pieces l) end r.cut;
      read =
          r.read;
    }

pub whole_slices : (text rest : List ℕ) (line : Bool) (tokens : List Token) (at : ℕ)
    → Reached text line rest tokens at → rest ≡ [] → AreSlices 0 tokens (length text)
whole_slices text rest line tokens at r end =
    let same : at ≡ length text = omega (arith, r.within, ap length end) in
    subst (λ n. AreSlices 0 tokens n) same r.slices

pub one_reading : (text : List ℕ) (ts us : List Token) → AreTokens text ts → AreTokens text us
    → ts ≡ us
one_reading text ts us a b = a.read
    ∙ ap (λ ps. tokens_from 0 ps) (one_cut true text a.pieces b.pieces a.cut b.cut) ∙ sym b.read

pub stuck_at : (text rest : List ℕ) (line : Bool) (tokens : List Token) (at : ℕ)
    → Reached text line rest tokens at → rest ≢ [] → piece line rest ≡ None → IsStuck text at
stuck_at text rest line tokens at r left none =
    record {
      pieces = r.pieces;
      rest = rest;
      cut = r.cut;
      left = left;
      stuck =
          subst (λ l. piece l rest ≡ None) (sym r.same_line) none;
      stands = r.stands;
    }

pub stuck_no_tokens : (text : List ℕ) (at : ℕ) (ts : List Token) → IsStuck text at
    → AreTokens text ts → ⊥
stuck_no_tokens text at ts s a =
    no_cut true text s.pieces a.pieces s.rest s.cut s.left s.stuck a.cut

pub is_nothing : (l : List ℕ) → length l ≡ 0 → l ≡ []
is_nothing [] e = refl
is_nothing (b ∷ bs) e = absurd (omega arith)
