-- What a loop over many values does in a turn, and at its end.
use Rattle.std.proofs.Common.{◌≡◌, ℕ, zero, suc, ◌<◌, ◌≤◌, Bool, true, false, List, [], ◌∷◌, ◌++◌}
use Rattle.std.proofs.Common.{length, Ok, Err, if◌then◌else◌, refl, sym, ◌∙◌, ap, append_assoc}
use Rattle.std.proofs.Common.{length-append, arith, le_refl}
use Rattle.ev_tree.specs.Tok.{Tok}
use Rattle.ev_tree.specs.Language.{Lang}
use Rattle.std.proofs.lemmas.List.{length-map}
use Rattle.ev_lex.specs.declared.token.Token.{Token}
use Rattle.ev_parse.specs.Read.{Got, bind, opens_at, many_up_at, many_at, more_at, after_at, is}
use Rattle.ev_parse.specs.Gives.{onto, Fails}
use Rattle.ev_parse.specs.Toks.{toks, tok_of}
use Rattle.ev_parse.specs.declared.stop.ParseStop.{ParseStop}
use Rattle.ev_parse.specs.declared.stop.ParseStop.TheVariants as stops
use Rattle.ev_parse.proofs.Laws.{After, Law, Begins}
use Rattle.ev_parse.proofs.Many.{longer, over, turn}
use Rattle.ev_parse.proofs.Rules.{after as behind, begun, starts_sign}

took_less : {A : Type 0} (test : Tok → Bool) (q : List Tok → Got A) (S : A → Lang)
    (begins : Begins test S) (ts : List Tok) (r : Got A) (x : A × List Tok) → r ≡ Ok x
    → After q S ts r → length x.1 < length ts
took_less test q S begins ts (Ok y) x e took =
    let some : 1 ≤ length took.front =
    longer test took.front (begins.first y.0 took.front took.spelled) in
    let same : y ≡ x = cc in
    omega (arith, ap length took.parts, length-append took.front y.1, ap (λ z. length z.1) same)
took_less test q S begins ts (Err rest) x e failed = absurd (cc)

-- a value takes a token at least
pub shortens : {A : Type 0} {q : List Tok → Got A} {S : A → Lang} {g : Tok → Bool}
    (test : Tok → Bool) → Begins test S → Law q S g → (ts : List Tok) (x : A × List Tok)
    → q ts ≡ Ok x → length x.1 < length ts
shortens {A = A} {q = q} {S = S} {g = g} test begins l ts x e =
    took_less test q S begins ts (q ts) x e (l.after ts)

enough_turn : {A : Type 0} (test : Tok → Bool) (q : List Tok → Got A)
    (less : (ts : List Tok) (x : A × List Tok) → q ts ≡ Ok x → length x.1 < length ts) (n m : ℕ)
    (ts : List Tok) → ((us : List Tok) → length us < length ts
    → many_up_at test q n us ≡ many_up_at test q m us) → (r : Got A) → q ts ≡ r
    → bind r (λ a rest. bind (many_up_at test q n rest) (λ more end. Ok (a ∷ more, end)))
    ≡ bind r (λ a rest. bind (many_up_at test q m rest) (λ more end. Ok (a ∷ more, end)))
enough_turn test q less n m ts goes (Ok x) e =
    ap (λ z. bind z (λ more end. Ok (x.0 ∷ more, end))) (goes x.1 (less ts x e))
enough_turn test q less n m ts goes (Err rest) e = refl

-- a bound that is large enough serves as well as another
enough : {A : Type 0} (test : Tok → Bool) (q : List Tok → Got A)
    (less : (ts : List Tok) (x : A × List Tok) → q ts ≡ Ok x → length x.1 < length ts) (n m : ℕ)
    (ts : List Tok) → length ts ≤ n → length ts ≤ m
    → many_up_at test q n ts ≡ many_up_at test q m ts
enough test q less zero zero ts a b = refl
enough test q less zero (suc m) [] a b = refl
enough test q less zero (suc m) (t ∷ ts) a b = absurd (omega arith)
enough test q less (suc n) zero [] a b = refl
enough test q less (suc n) zero (t ∷ ts) a b = absurd (omega arith)
enough test q less (suc n) (suc m) ts a b =
    ap (λ z. if opens_at test ts then z else Ok ([], ts))
    (enough_turn test q less n m ts
    (λ us short. enough test q less n m us (omega arith) (omega arith)) (q ts) refl)

-- a turn that takes a value
goes : {A : Type 0} (test : Tok → Bool) (q : List Tok → Got A)
    (less : (ts : List Tok) (x : A × List Tok) → q ts ≡ Ok x → length x.1 < length ts)
    (ts : List Tok) (x : A × List Tok) → opens_at test ts ≡ true → q ts ≡ Ok x
    → many_at test q ts ≡ bind (many_at test q x.1) (λ more end. Ok (x.0 ∷ more, end))
unfolding many_at
goes test q less ts x o e =
    enough test q less (length ts) (suc (length ts)) ts (le_refl (length ts)) (omega arith)
    ∙ turn test q (length ts) ts o
    ∙ ap (λ r. bind r (λ a rest. bind (many_up_at test q (length ts) rest)
    (λ more end. Ok (a ∷ more, end)))) e
    ∙ ap (λ z. bind z (λ more end. Ok (x.0 ∷ more, end)))
    (enough test q less (length ts) (length x.1) x.1 (omega (arith, less ts x e))
    (le_refl (length x.1)))

onto_cons : {A : Type 0} (front : List A) (a : A) (r : Got (List A))
    → onto front (bind r (λ more end. Ok (a ∷ more, end))) ≡ onto (front ++ a ∷ []) r
onto_cons front a (Ok y) = ap (λ l. Ok (l, y.1)) (sym (append_assoc front (a ∷ []) y.0))
onto_cons front a (Err rest) = refl

-- with the values in front: a turn that takes another, one that fails, and the end
pub onto_goes : {A : Type 0} {q : List Tok → Got A} {S : A → Lang} {g : Tok → Bool}
    (test : Tok → Bool) → Begins test S → Law q S g
    → (front : List A) (ts : List Tok) (x : A × List Tok) → opens_at test ts ≡ true → q ts ≡ Ok x
    → onto (front ++ x.0 ∷ []) (many_at test q x.1) ≡ onto front (many_at test q ts)
onto_goes {A = A} {q = q} {S = S} {g = g} test begins l front ts x o e =
    sym (onto_cons front x.0 (many_at test q x.1))
    ∙ ap (onto front) (sym (goes test q (shortens test begins l) ts x o e))

pub onto_fails : {A : Type 0} (q : List Tok → Got A) (test : Tok → Bool) (front : List A)
    (ts rest : List Tok) → opens_at test ts ≡ true → q ts ≡ Err rest
    → onto front (many_at test q ts) ≡ Err rest
unfolding many_at
onto_fails q test front [] rest o e = absurd (cc)
onto_fails q test front (t ∷ ts) rest o e =
    ap (onto front) (turn test q (length ts) (t ∷ ts) o
    ∙ ap (λ r. bind r (λ a end. bind (many_up_at test q (length ts) end)
    (λ more last. Ok (a ∷ more, last)))) e)

pub onto_stops : {A : Type 0} (q : List Tok → Got A) (test : Tok → Bool) (front : List A)
    (ts : List Tok) → opens_at test ts ≡ false → onto front (many_at test q ts) ≡ Ok (front, ts)
unfolding many_at
onto_stops {A = A} q test front ts o =
    ap (onto front) (over test q (length ts) ts o) ∙ ap (λ l. Ok (l, ts)) (append_none front)
  where
    append_none : (l : List A) → l ++ [] ≡ l
    append_none [] = refl
    append_none (a ∷ more) = ap (λ k. a ∷ k) (append_none more)

pub onto_nothing : {A : Type 0} (r : Got (List A)) → onto [] r ≡ r
onto_nothing (Ok x) = refl
onto_nothing (Err rest) = refl

-- a stop at a value in a row is a stop of the row
pub fails_through : {A B : Type 0} (text : List ℕ) (e : ParseStop) (one : Got A) (all' : Got B)
    → Fails text e one → ((rest : List Tok) → one ≡ Err rest → all' ≡ Err rest) → Fails text e all'
fails_through text stops.NoMemory one all' f goes = tt
fails_through text (stops.At rest) one all' f goes = goes (toks text rest.now) f

-- The law of a loop that reads a value behind each mark: `front` are the values at hand, `rest` the
-- tokens, and what is read of these comes to `whole`.

pub loop_shorter : {A : Type 0} (mark : List ℕ) {q : List Tok → Got A} {S : A → Lang}
    {g : Tok → Bool}
    → Law q S g → (text : List ℕ) (rest after : List Token) (a : A)
    → after_at mark q (toks text rest) ≡ Ok (a, toks text after) → length after < length rest
loop_shorter mark {q = q} {S = S} {g = g} law text rest after a e =
    let less = shortens (is mark) (begun (starts_sign mark S)) (behind mark law) (toks text rest)
    (a, toks text after) e in
    omega (arith, less, length-map after (tok_of text), length-map rest (tok_of text))

module _ {A : Type 0} (mark : List ℕ) {q : List Tok → Got A} {S : A → Lang} {g : Tok → Bool}
    (law : Law q S g)
    (text : List ℕ) (front : List A) (rest : List Token) (whole : Got (List A)) (next : Bool)
    (next_is : next ≡ opens_at (is mark) (toks text rest))
    (kept : onto front (more_at mark q (toks text rest)) ≡ whole) where
  pub loop_fails : next ≡ true → (e : ParseStop) → Fails text e (after_at mark q (toks text rest))
      → Fails text e whole
  loop_fails opened e f =
      fails_through text e (after_at mark q (toks text rest)) whole f
      (λ left h. sym kept ∙ onto_fails (after_at mark q) (is mark) front (toks text rest) left
      (sym next_is ∙ opened) h)

  pub loop_grows : next ≡ true → (a : A) (after : List Token)
      → after_at mark q (toks text rest) ≡ Ok (a, toks text after)
      → onto (front ++ a ∷ []) (more_at mark q (toks text after)) ≡ whole
  loop_grows opened a after e =
      onto_goes (is mark) (begun (starts_sign mark S)) (behind mark law) front (toks text rest)
      (a, toks text after) (sym next_is ∙ opened) e ∙ kept

  pub loop_ends : next ≡ false → whole ≡ Ok (front, toks text rest)
  loop_ends closed =
      sym kept ∙ onto_stops (after_at mark q) (is mark) front (toks text rest)
      (sym next_is ∙ closed)
