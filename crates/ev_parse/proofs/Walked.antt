-- How far the statements of a file have been read, and where they stand.
use Rattle.std.proofs.Common.{◌≡◌, ℕ, ◌+◌, ◌-◌, ◌<◌, List, [], ◌∷◌, ◌++◌, length, take, drop, map}
use Rattle.std.proofs.Common.{true, false, Ok, Err, refl, sym, ◌∙◌, ap, subst, length-append}
use Rattle.std.proofs.Common.{zero-add, arith}
use Rattle.std.proofs.lemmas.List.{take_at, drop_at, drop-drop, length-drop, length-map, map-append}
use Rattle.std.proofs.Math.Seq.{take-length}
use Rattle.ev_lex.specs.declared.token.Token.{Token}
use Rattle.ev_tree.specs.Grammar.{statement}
use Rattle.ev_tree.specs.Rule.{Rule, view_statement, place_of}
use Rattle.ev_tree.specs.Tok.{Tok}
use Rattle.ev_tree.specs.declared.tree.Statement.{Statement}
use Rattle.ev_parse.specs.Fault.{place_from}
use Rattle.ev_parse.specs.Gives.{onto}
use Rattle.ev_parse.specs.Placed.{StandFrom}
use Rattle.ev_parse.specs.Read.{Got, opens_at}
use Rattle.ev_parse.specs.Reading.{any_token, statement_at, file_at}
use Rattle.ev_parse.specs.Toks.{toks, tok_of}
use Rattle.ev_parse.proofs.GrammarLaws.{statement_law, statement_begins}
use Rattle.ev_parse.proofs.Laws.{After}
use Rattle.ev_parse.proofs.Loops.{onto_goes, onto_fails, onto_stops, onto_nothing, shortens}

-- the statements at hand stand in front of the token of number at, and the tokens from there on are
-- to be read
pub record Walked (text : List ℕ) (tokens : List Token) (items : List Statement)
    (rest : List Token) : Type 0 where
  pub at : ℕ
  pub stands : StandFrom text tokens 0 items at
  pub here : toks text rest ≡ drop at (toks text tokens)
  pub count : at + length rest ≡ length tokens
  pub reads : onto (map view_statement items) (file_at (toks text rest))
      ≡ file_at (toks text tokens)

pub walked_start : (text : List ℕ) (tokens : List Token) → Walked text tokens [] tokens
walked_start text tokens =
    record {
      at = 0;
      stands = refl;
      here = refl;
      count = zero-add (length tokens);
      reads =
          onto_nothing (file_at (toks text tokens));
    }

stand_more : (text : List ℕ) (tokens : List Token) (from : ℕ) (items : List Statement) (at : ℕ)
    (s : Statement) (n : ℕ) → StandFrom text tokens from items at
    → statement (view_statement s) (take n (drop at (toks text tokens)))
    → place_of s ≡ place_from (length text) (drop at tokens)
    → StandFrom text tokens from (items ++ s ∷ []) (at + n)
stand_more text tokens from [] at s n e spelled place = (
  n,
  subst (λ k. statement (view_statement s) (take n (drop k (toks text tokens)))) (sym e) spelled,
  place ∙ ap (λ k. place_from (length text) (drop k tokens)) (sym e),
  ap (λ k. k + n) e,
)
stand_more text tokens from (i ∷ items) at s n stands spelled place = (
  stands.0,
  stands.1,
  stands.2,
  stand_more text tokens (from + stands.0) items at s n stands.3 spelled place,
)

took_at : (ts : List Tok) (r : Got Rule) (x : Rule × List Tok) → r ≡ Ok x
    → After statement_at statement ts r → (front : List Tok) × (ts ≡ front ++ x.1)
    × statement x.0 front
took_at ts (Ok y) x e took =
    let same : y ≡ x = cc in (
      took.front,
      took.parts ∙ ap (λ z. took.front ++ z.1) same,
      subst (λ z. statement z.0 took.front) same took.spelled,
    )
took_at ts (Err rest) x e failed = absurd (cc)

pub walked_more : (text : List ℕ) (tokens : List Token) (items : List Statement) (rest : List Token)
    (s : Statement) (after : List Token) (number : ℕ) → Walked text tokens items rest
    → opens_at any_token (toks text rest) ≡ true
    → statement_at (toks text rest) ≡ Ok (view_statement s, toks text after)
    → number + length rest ≡ length tokens
    → place_of s ≡ place_from (length text) (drop number tokens)
    → Walked text tokens (items ++ s ∷ []) after
unfolding file_at
walked_more text tokens items rest s after number w opened e count place =
    let took = took_at (toks text rest) (statement_at (toks text rest))
    (view_statement s, toks text after) e (statement_law.after (toks text rest)) in
    let n = length took.0 in
    let tail : drop w.at (toks text tokens) ≡ took.0 ++ toks text after = sym w.here ∙ took.1 in
    let same : number ≡ w.at = omega (arith, count, w.count) in
    record {
      at = w.at + n;
      stands = stand_more text tokens 0 items w.at s n w.stands
          (subst (λ l. statement (view_statement s) l)
          (sym (ap (take n) tail ∙ take_at took.0 (toks text after) n refl)) took.2)
          (place ∙ ap (λ k. place_from (length text) (drop k tokens)) same);
      here = sym (sym (drop-drop n w.at (toks text tokens)) ∙ ap (drop n) tail
          ∙ drop_at took.0 (toks text after) n refl);
      count = omega (
        arith,
        w.count,
        ap length took.1,
        length-append took.0 (toks text after),
        length-map rest (tok_of text),
        length-map after (tok_of text),
      );
      reads =
          ap (λ l. onto l (file_at (toks text after))) (map-append view_statement items (s ∷ []))
          ∙ onto_goes any_token statement_begins statement_law (map view_statement items)
          (toks text rest) (view_statement s, toks text after) opened e
          ∙ w.reads;
    }

pub walked_fails : (text : List ℕ) (tokens : List Token) (items : List Statement)
    (rest : List Token) (end : List Tok) → Walked text tokens items rest
    → opens_at any_token (toks text rest) ≡ true → statement_at (toks text rest) ≡ Err end
    → file_at (toks text tokens) ≡ Err end
unfolding file_at
walked_fails text tokens items rest end w opened e =
    sym w.reads ∙ onto_fails statement_at any_token (map view_statement items) (toks text rest) end
    opened e

no_tokens : (text : List ℕ) (rest : List Token) → length rest ≡ 0
    → (opens_at any_token (toks text rest) ≡ false) × (toks text rest ≡ [])
no_tokens text [] none = (refl, refl)
no_tokens text (t ∷ ts) none = absurd (omega arith)

pub walked_over : (text : List ℕ) (tokens : List Token) (items : List Statement) (rest : List Token)
    → Walked text tokens items rest → length rest ≡ 0
    → file_at (toks text tokens) ≡ Ok (map view_statement items, [])
unfolding file_at
walked_over text tokens items rest w none =
    let over = no_tokens text rest none in
    sym w.reads ∙ onto_stops statement_at any_token (map view_statement items) (toks text rest)
    over.0 ∙ ap (λ l. Ok (map view_statement items, l)) over.1

pub walked_stands : (text : List ℕ) (tokens : List Token) (items : List Statement)
    (rest : List Token) → Walked text tokens items rest → length rest ≡ 0
    → StandFrom text tokens 0 items (length tokens)
walked_stands text tokens items rest w none =
    subst (λ n. StandFrom text tokens 0 items n) (omega (arith, w.count, none)) w.stands

-- whether a token is left, by the number of tokens
pub some_left : (text : List ℕ) (rest : List Token) → 0 < length rest
    → opens_at any_token (toks text rest) ≡ true
some_left text [] some = absurd (omega arith)
some_left text (t ∷ ts) some = refl

pub walked_less : (text : List ℕ) (rest : List Token) (s : Statement) (after : List Token)
    → statement_at (toks text rest) ≡ Ok (view_statement s, toks text after)
    → length after < length rest
walked_less text rest s after e =
    omega (
      arith,
      shortens any_token statement_begins statement_law (toks text rest)
          (view_statement s, toks text after) e,
      length-map rest (tok_of text),
      length-map after (tok_of text),
    )

-- the rest of a list from a place on, as a slice of it
pub take_rest : {A : Type 0} (n : ℕ) (l : List A) → take (length l - n) (drop n l) ≡ drop n l
take_rest n l = ap (λ k. take k (drop n l)) (sym (length-drop n l)) ∙ take-length (drop n l)
