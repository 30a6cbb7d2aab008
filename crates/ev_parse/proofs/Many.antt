-- The law of many values, one behind the other.
use Rattle.std.proofs.Common.{◌≡◌, ℕ, zero, suc, ◌≤◌, Bool, true, false, List, [], ◌∷◌, ◌++◌}
use Rattle.std.proofs.Common.{length, Ok, Err, if◌then◌else◌, refl, sym, ◌∙◌, ap, subst}
use Rattle.std.proofs.Common.{append_assoc, length-append, arith, le_refl}
use Rattle.ev_tree.specs.Tok.{Tok}
use Rattle.ev_tree.specs.Language.{Lang, each}
use Rattle.ev_parse.specs.Read.{Got, bind, opens_at, many_up_at, many_at}
use Rattle.ev_parse.proofs.Laws.{Took, After, Law, Begins, opens_front, opens_same, same_over}

-- what many readers in a row owe: behind a value either another begins or nothing goes on
pub record Apart (test g h : Tok → Bool) : Type 0 where
  pub begun : (t : Tok) → test t ≡ true → g t ≡ false
  pub ended : (t : Tok) → h t ≡ false → test t ≡ false
  pub stopped : (t : Tok) → h t ≡ false → g t ≡ false

-- as Took and Failed, for each bound that is large enough
record TookMany {A : Type 0} (test : Tok → Bool) (p : List Tok → Got A) (S : A → Lang)
    (ts : List Tok) (x : List A × List Tok) : Type 0 where
  front : List Tok
  parts : ts ≡ front ++ x.1
  spelled : each S x.0 front
  same : (t : Tok) (a b : List Tok) → x.1 ≡ t ∷ a → (m : ℕ) → length (front ++ t ∷ b) ≤ m
      → many_up_at test p m (front ++ t ∷ b) ≡ Ok (x.0, t ∷ b)
  ends : opens_at test x.1 ≡ false

record FailedMany {A : Type 0} (test : Tok → Bool) (p : List Tok → Got A) (S : A → Lang)
    (ts rest : List Tok) : Type 0 where
  seen : List Tok
  parts : ts ≡ seen ++ rest
  more : List Tok
  value : List A
  viable : each S value (seen ++ more)
  same : (t : Tok) (a b : List Tok) → rest ≡ t ∷ a → (m : ℕ) → length (seen ++ t ∷ b) ≤ m
      → many_up_at test p m (seen ++ t ∷ b) ≡ Err (t ∷ b)

abbrev AfterMany : {A : Type 0} → (Tok → Bool) → (List Tok → Got A) → (A → Lang) → List Tok
    → Got (List A) → Type 0
AfterMany test p S ts (Ok x) = TookMany test p S ts x
AfterMany test p S ts (Err rest) = FailedMany test p S ts rest

-- one turn, where the first token passes the test
pub turn : {A : Type 0} (test : Tok → Bool) (p : List Tok → Got A) (m : ℕ) (ts : List Tok)
    → opens_at test ts ≡ true
    → many_up_at test p (suc m) ts
    ≡ bind (p ts) (λ a rest. bind (many_up_at test p m rest) (λ more end. Ok (a ∷ more, end)))
turn test p m ts o = ap
    (λ c. if c then bind (p ts)
    (λ a rest. bind (many_up_at test p m rest) (λ more end. Ok (a ∷ more, end))) else Ok ([], ts)) o

pub over : {A : Type 0} (test : Tok → Bool) (p : List Tok → Got A) (m : ℕ) (ts : List Tok)
    → opens_at test ts ≡ false → many_up_at test p m ts ≡ Ok ([], ts)
over test p zero ts o = refl
over test p (suc m) ts o =
    ap (λ c. if c then bind (p ts)
    (λ a rest. bind (many_up_at test p m rest) (λ more end. Ok (a ∷ more, end))) else Ok ([], ts)) o

stops : (test h : Tok → Bool) → ((t : Tok) → h t ≡ false → test t ≡ false) → (rest : List Tok)
    → opens_at h rest ≡ false → opens_at test rest ≡ false
stops test h less [] e = refl
stops test h less (t ∷ ts) e = less t e

pub longer : (test : Tok → Bool) (front : List Tok) → opens_at test front ≡ true → 1 ≤ length front
longer test [] e = absurd (cc)
longer test (t ∷ ts) e = omega arith

-- behind a value the next one, or what follows the last, doesn't go on with it
behind : {A : Type 0} (test g h : Tok → Bool) (S : A → Lang) (begins : Begins test S)
    (apart : Apart test g h) (as' : List A) (k rest : List Tok) → each S as' k
    → opens_at h rest ≡ false → opens_at g (k ++ rest) ≡ false
behind test g h S begins apart [] k rest s stop = ap (λ l. opens_at g (l ++ rest)) s
    ∙ stops g h apart.stopped rest stop
behind test g h S begins apart (a ∷ more) k rest s stop =
    by_first (k ++ rest) (opens_front test k rest (ap (opens_at test) s.parts
    ∙ opens_front test s.front s.back (begins.first a s.front s.first)))
  where
    by_first : (l : List Tok) → opens_at test l ≡ true → opens_at g l ≡ false
    by_first [] e = refl
    by_first (t ∷ ts) e = apart.begun t e

many_again : {A : Type 0} (test g h : Tok → Bool) (p : List Tok → Got A) (S : A → Lang)
    (begins : Begins test S) (apart : Apart test g h) (l : Law p S g) (as' : List A)
    (front rest : List Tok) → each S as' front → opens_at h rest ≡ false → (n : ℕ)
    → length (front ++ rest) ≤ n → many_up_at test p n (front ++ rest) ≡ Ok (as', rest)
many_again test g h p S begins apart l [] front rest s stop n bound =
    ap (λ k. many_up_at test p n (k ++ rest)) s
    ∙ over test p n rest (stops test h apart.ended rest stop)
many_again test g h p S begins apart l (a ∷ more) front rest s stop zero bound =
    let some : 1 ≤ length s.front = longer test s.front (begins.first a s.front s.first) in
    absurd (omega (
      arith,
      length-append front rest,
      ap length s.parts,
      length-append s.front s.back,
    ))
many_again test g h p S begins apart l (a ∷ more) front rest s stop (suc n) bound =
    let some : 1 ≤ length s.front = longer test s.front (begins.first a s.front s.first) in
    let less : length (s.back ++ rest) ≤ n =
    omega (
      arith,
      length-append front rest,
      ap length s.parts,
      length-append s.front s.back,
      length-append s.back rest,
    ) in
    let regrouped : front ++ rest ≡ s.front ++ (s.back ++ rest) = ap (λ k. k ++ rest) s.parts
    ∙ append_assoc s.front s.back rest in
    ap (many_up_at test p (suc n)) regrouped
    ∙ turn test p n (s.front ++ (s.back ++ rest))
    (opens_front test s.front (s.back ++ rest) (begins.first a s.front s.first))
    ∙ ap (λ r. bind r (λ c end. bind (many_up_at test p n end) (λ cs last. Ok (c ∷ cs, last))))
    (l.again a s.front (s.back ++ rest) s.first
    (behind test g h S begins apart more s.back rest s.second stop))
    ∙ ap (λ r. bind r (λ cs last. Ok (a ∷ cs, last)))
    (many_again test g h p S begins apart l more s.back rest s.second stop n less)

-- no turn
took_none : {A : Type 0} (test : Tok → Bool) (p : List Tok → Got A) (S : A → Lang) (ts : List Tok)
    → opens_at test ts ≡ false → TookMany test p S ts ([], ts)
took_none test p S ts o =
    record {
      front = [];
      parts = refl;
      spelled = refl;
      same = λ t a b h m bound.
          over test p m (t ∷ b) (opens_same test [] t a b ∙ ap (opens_at test) (sym h) ∙ o);
      ends = o;
    }

-- what opens ts opens each list that agrees with it up to the token t
opens_deep : (test : Tok → Bool) (ts f x s y : List Tok) (t : Tok) (a b : List Tok) → ts ≡ f ++ x
    → x ≡ s ++ y → y ≡ t ∷ a → opens_at test ts ≡ true → opens_at test (f ++ (s ++ t ∷ b)) ≡ true
opens_deep test ts f x s y t a b whole inner h o =
    ap (opens_at test) (sym (append_assoc f s (t ∷ b)))
    ∙ opens_same test (f ++ s) t a b
    ∙ ap (opens_at test) (append_assoc f s (t ∷ a))
    ∙ ap (λ l. opens_at test (f ++ (s ++ l))) (sym h)
    ∙ ap (λ l. opens_at test (f ++ l)) (sym inner)
    ∙ ap (opens_at test) (sym whole)
    ∙ o

shorter : (f s : List Tok) (t : Tok) (b : List Tok) (m : ℕ) → 1 ≤ length f
    → length ((f ++ s) ++ t ∷ b) ≤ suc m → length (s ++ t ∷ b) ≤ m
shorter f s t b m some bound =
    omega (arith, length-append (f ++ s) (t ∷ b), length-append f s, length-append s (t ∷ b))

not_none : (f : List Tok) (t : Tok) (b : List Tok) → length (f ++ t ∷ b) ≤ 0 → ⊥
not_none f t b bound = omega (arith, length-append f (t ∷ b))

more_same : {A : Type 0} (test : Tok → Bool) (p : List Tok → Got A) (S : A → Lang)
    (begins : Begins test S) (ts : List Tok) (x : A × List Tok) (took : Took p S ts x)
    → opens_at test ts ≡ true → (s y : List Tok) (r : Got (List A)) (t : Tok) (a b : List Tok)
    → x.1 ≡ s ++ y → y ≡ t ∷ a
    → ((m : ℕ) → length (s ++ t ∷ b) ≤ m → many_up_at test p m (s ++ t ∷ b) ≡ r) → (m : ℕ)
    → length ((took.front ++ s) ++ t ∷ b) ≤ m
    → many_up_at test p m ((took.front ++ s) ++ t ∷ b) ≡ bind r (λ cs last. Ok (x.0 ∷ cs, last))
more_same test p S begins ts x took o s y r t a b inner h rest zero bound =
    absurd (not_none (took.front ++ s) t b bound)
more_same test p S begins ts x took o s y r t a b inner h rest (suc m) bound =
    ap (many_up_at test p (suc m)) (append_assoc took.front s (t ∷ b))
    ∙ turn test p m (took.front ++ (s ++ t ∷ b))
    (opens_deep test ts took.front x.1 s y t a b took.parts inner h o)
    ∙ ap (λ q. bind q (λ c end. bind (many_up_at test p m end) (λ cs last. Ok (c ∷ cs, last))))
    (same_over p S ts x took s t a b (inner ∙ ap (λ l. s ++ l) h))
    ∙ ap (λ q. bind q (λ cs last. Ok (x.0 ∷ cs, last)))
    (rest m (shorter took.front s t b m
    (longer test took.front (begins.first x.0 took.front took.spelled)) bound))

-- a turn that took x, and what the turns after it did
more_after : {A : Type 0} (test : Tok → Bool) (p : List Tok → Got A) (S : A → Lang)
    (begins : Begins test S) (ts : List Tok) (x : A × List Tok) (took : Took p S ts x)
    → opens_at test ts ≡ true → (r : Got (List A)) → AfterMany test p S x.1 r
    → AfterMany test p S ts (bind r (λ more end. Ok (x.0 ∷ more, end)))
more_after test p S begins ts x took o (Ok y) rest =
    record {
      front = took.front ++ rest.front;
      parts = took.parts ∙ ap (λ l. took.front ++ l) rest.parts
          ∙ sym (append_assoc took.front rest.front y.1);
      spelled = record {
        front = took.front;
        back = rest.front;
        parts = refl;
        first =
            took.spelled;
        second = rest.spelled;
      };
      same = λ t a b h. more_same test p S begins ts x took o rest.front y.1 (Ok (y.0, t ∷ b)) t a b
          rest.parts h (rest.same t a b h);
      ends = rest.ends;
    }
more_after test p S begins ts x took o (Err end) failed =
    record {
      seen = took.front ++ failed.seen;
      parts = took.parts ∙ ap (λ l. took.front ++ l) failed.parts
          ∙ sym (append_assoc took.front failed.seen end);
      more = failed.more;
      value = x.0 ∷ failed.value;
      viable = record {
        front = took.front;
        back = failed.seen ++ failed.more;
        parts =
            append_assoc took.front failed.seen failed.more;
        first = took.spelled;
        second =
            failed.viable;
      };
      same = λ t a b h. more_same test p S begins ts x took o failed.seen end (Err (t ∷ b)) t a b
          failed.parts h (failed.same t a b h);
    }

-- a turn that failed
fail_same : {A : Type 0} (test : Tok → Bool) (p : List Tok → Got A) (ts seen rest : List Tok)
    (t : Tok) (a b : List Tok) → ts ≡ seen ++ rest → rest ≡ t ∷ a → opens_at test ts ≡ true
    → p (seen ++ t ∷ b) ≡ Err (t ∷ b) → (m : ℕ) → length (seen ++ t ∷ b) ≤ m
    → many_up_at test p m (seen ++ t ∷ b) ≡ Err (t ∷ b)
fail_same test p ts seen rest t a b parts h o e zero bound = absurd (not_none seen t b bound)
fail_same test p ts seen rest t a b parts h o e (suc m) bound =
    turn test p m (seen ++ t ∷ b) (opens_same test seen t a b
    ∙ ap (λ l. opens_at test (seen ++ l)) (sym h) ∙ ap (opens_at test) (sym parts) ∙ o)
    ∙ ap (λ q. bind q (λ c end. bind (many_up_at test p m end) (λ cs last. Ok (c ∷ cs, last)))) e

turn_after : {A : Type 0} (test : Tok → Bool) (p : List Tok → Got A) (S : A → Lang)
    (begins : Begins test S) (n : ℕ) (rest_after : (us : List Tok) → length us ≤ n
    → AfterMany test p S us (many_up_at test p n us)) (ts : List Tok) → length ts ≤ suc n
    → opens_at test ts ≡ true → (r : Got A) → After p S ts r
    → AfterMany test p S ts
    (bind r (λ a rest. bind (many_up_at test p n rest) (λ more end. Ok (a ∷ more, end))))
turn_after test p S begins n rest_after ts bound o (Ok x) took =
    let some : 1 ≤ length took.front =
    longer test took.front (begins.first x.0 took.front took.spelled) in
    more_after test p S begins ts x took o (many_up_at test p n x.1)
    (rest_after x.1 (omega (arith, ap length took.parts, length-append took.front x.1)))
turn_after test p S begins n rest_after ts bound o (Err rest) failed =
    record {
      seen = failed.seen;
      parts = failed.parts;
      more = failed.more ++ [];
      value = failed.value ∷ [];
      viable = record {
        front = failed.seen ++ failed.more;
        back = [];
        parts =
            sym (append_assoc failed.seen failed.more []);
        first = failed.viable;
        second = refl;
      };
      same = λ t a b h. fail_same test p ts failed.seen rest t a b failed.parts h o
          (failed.same t a b h);
    }

choice_after : {A : Type 0} (test : Tok → Bool) (p : List Tok → Got A) (S : A → Lang)
    (begins : Begins test S) (after : (ts : List Tok) → After p S ts (p ts)) (n : ℕ)
    (rest_after : (us : List Tok) → length us ≤ n → AfterMany test p S us (many_up_at test p n us))
    (ts : List Tok) → length ts ≤ suc n → (c : Bool) → opens_at test ts ≡ c
    → AfterMany test p S ts
    (if c then bind (p ts)
    (λ a rest. bind (many_up_at test p n rest) (λ more end. Ok (a ∷ more, end))) else Ok ([], ts))
choice_after test p S begins after n rest_after ts bound true o =
    turn_after test p S begins n rest_after ts bound o (p ts) (after ts)
choice_after test p S begins after n rest_after ts bound false o = took_none test p S ts o

many_after : {A : Type 0} (test : Tok → Bool) (p : List Tok → Got A) (S : A → Lang)
    (begins : Begins test S) (after : (ts : List Tok) → After p S ts (p ts)) (n : ℕ) (ts : List Tok)
    → length ts ≤ n → AfterMany test p S ts (many_up_at test p n ts)
many_after test p S begins after zero [] bound = took_none test p S [] refl
many_after test p S begins after zero (t ∷ ts) bound = absurd (omega arith)
many_after test p S begins after (suc n) ts bound =
    choice_after test p S begins after n (λ us less. many_after test p S begins after n us less) ts
    bound (opens_at test ts) refl

each_after : {A : Type 0} (test : Tok → Bool) (p : List Tok → Got A) (S : A → Lang) (ts : List Tok)
    (r : Got (List A)) → AfterMany test p S ts r → After (many_at test p) (each S) ts r
unfolding many_at
each_after test p S ts (Ok x) took =
    record {
      front = took.front;
      parts = took.parts;
      spelled = took.spelled;
      same =
          λ t a b h. took.same t a b h (length (took.front ++ t ∷ b))
          (le_refl (length (took.front ++ t ∷ b)));
    }
each_after test p S ts (Err rest) failed =
    record {
      seen = failed.seen;
      parts = failed.parts;
      more = failed.more;
      value =
          failed.value;
      viable = failed.viable;
      same =
          λ t a b h. failed.same t a b h (length (failed.seen ++ t ∷ b))
          (le_refl (length (failed.seen ++ t ∷ b)));
    }

-- many values in a row, as long as the first token passes the test
pub many_law : {A : Type 0} {p : List Tok → Got A} {S : A → Lang} {g : Tok → Bool}
    (test h : Tok → Bool) → Begins test S → Apart test g h → Law p S g
    → Law (many_at test p) (each S) h
unfolding many_at
many_law {A = A} {p = p} {S = S} {g = g} test h begins apart l =
    record {
      again = λ v front rest s stop. many_again test g h p S begins apart l v front rest s stop
          (length (front ++ rest)) (le_refl (length (front ++ rest)));
      after = λ ts. each_after test p S ts (many_up_at test p (length ts) ts)
          (many_after test p S begins l.after (length ts) ts (le_refl (length ts)));
      sample = [];
      word = [];
      sampled = refl;
    }

ok_same : {A : Type 0} (y x : A × List Tok) → ◌≡◌ {A = Got A} (Ok y) (Ok x) → y ≡ x
ok_same y x e = cc

ends_after : {A : Type 0} (test : Tok → Bool) (p : List Tok → Got A) (S : A → Lang) (ts : List Tok)
    (r : Got (List A)) (x : List A × List Tok) → r ≡ Ok x → AfterMany test p S ts r
    → opens_at test x.1 ≡ false
ends_after test p S ts (Ok y) x e took =
    subst (λ z. opens_at test z.1 ≡ false) (ok_same y x e) took.ends
ends_after test p S ts (Err rest) x e failed = absurd (cc)

-- behind many values the first token fails the test
pub many_ends : {A : Type 0} {p : List Tok → Got A} {S : A → Lang} {g : Tok → Bool}
    (test : Tok → Bool) → Begins test S → Law p S g → (ts : List Tok) (x : List A × List Tok)
    → many_at test p ts ≡ Ok x → opens_at test x.1 ≡ false
unfolding many_at
many_ends {A = A} {p = p} {S = S} {g = g} test begins l ts x e =
    ends_after test p S ts (many_up_at test p (length ts) ts) x e
    (many_after test p S begins l.after (length ts) ts (le_refl (length ts)))
