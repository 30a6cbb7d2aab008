-- What a reader owes its language, and how readers are put together.
use Rattle.std.proofs.Common.{◌≡◌, ◌⊎◌, inl, inr, Bool, true, false, List, [], ◌∷◌, ◌++◌, Option}
use Rattle.std.proofs.Common.{Some, None, Ok, Err, if◌then◌else◌, refl, sym, ◌∙◌, ap, subst}
use Rattle.std.proofs.Common.{append_assoc}
use Rattle.ev_tree.specs.Tok.{Tok}
use Rattle.ev_tree.specs.Language.{Lang, nothing, ◌·◌, ◌∣◌, made, always}
use Rattle.ev_parse.specs.Read.{Got, bind, opens_at, taken_token, token_at, map_at}
use Rattle.ev_parse.specs.Read.{both_at, either_at}
use Rattle.ev_parse.specs.Read.{pure_at}

-- p reads x from ts: a word of the value stands in front, and what is read depends on no more than
-- the next token
pub record Took {A : Type 0} (p : List Tok → Got A) (S : A → Lang) (ts : List Tok)
    (x : A × List Tok) : Type 0 where
  pub front : List Tok
  pub parts : ts ≡ front ++ x.1
  pub spelled : S x.0 front
  pub same : (t : Tok) (a b : List Tok) → x.1 ≡ t ∷ a → p (front ++ t ∷ b) ≡ Ok (x.0, t ∷ b)

-- p stops at rest: what stands in front begins a word, and the fault depends on no more than the
-- token there
pub record Failed {A : Type 0} (p : List Tok → Got A) (S : A → Lang) (ts rest : List Tok) : Type 0
  where
    pub seen : List Tok
    pub parts : ts ≡ seen ++ rest
    pub more : List Tok
    pub value : A
    pub viable : S value (seen ++ more)
    pub same : (t : Tok) (a b : List Tok) → rest ≡ t ∷ a → p (seen ++ t ∷ b) ≡ Err (t ∷ b)

abbrev pub After : {A : Type 0} → (List Tok → Got A) → (A → Lang) → List Tok → Got A → Type 0
After p S ts (Ok x) = Took p S ts x
After p S ts (Err rest) = Failed p S ts rest

-- p reads the language S, where tokens that pass goes_on would go on a word: what is spelled is
-- read, what is read is spelled, a fault stands behind the longest front that begins a word; and
-- some value has a word
pub record Law {A : Type 0} (p : List Tok → Got A) (S : A → Lang) (goes_on : Tok → Bool) : Type 0
  where
    pub again : (v : A) (front rest : List Tok) → S v front → opens_at goes_on rest ≡ false
        → p (front ++ rest) ≡ Ok (v, rest)
    pub after : (ts : List Tok) → After p S ts (p ts)
    pub sample : A
    pub word : List Tok
    pub sampled : S sample word

-- each word's first token passes the test
pub record Begins {A : Type 0} (test : Tok → Bool) (S : A → Lang) : Type 0 where
  pub first : (v : A) (front : List Tok) → S v front → opens_at test front ≡ true

-- where no token goes on behind a word, the first token there fails the test
pub record Avoids {A : Type 0} (test : Tok → Bool) (S : A → Lang) (goes_on : Tok → Bool) : Type 0
  where
    pub first : (v : A) (front rest : List Tok) → S v front → opens_at goes_on rest ≡ false
        → opens_at test (front ++ rest) ≡ false

-- ---- on lists

pub opens_front : (test : Tok → Bool) (front rest : List Tok) → opens_at test front ≡ true
    → opens_at test (front ++ rest) ≡ true
opens_front test [] rest e = absurd (cc)
opens_front test (t ∷ ts) rest e = e

pub opens_same : (test : Tok → Bool) (front : List Tok) (t : Tok) (a b : List Tok)
    → opens_at test (front ++ t ∷ b) ≡ opens_at test (front ++ t ∷ a)
opens_same test [] t a b = refl
opens_same test (u ∷ us) t a b = refl

pub no_more : (t : Tok) (a : List Tok) → [] ≡ t ∷ a → ⊥
no_more t a e = cc

pub first_same : (t u : Tok) (a b : List Tok) → t ∷ a ≡ u ∷ b → t ≡ u
first_same t u a b e = cc

pub same_over : {A : Type 0} (p : List Tok → Got A) (S : A → Lang) (ts : List Tok)
    (x : A × List Tok) (took : Took p S ts x) (f : List Tok) (t : Tok) (a b : List Tok)
    → x.1 ≡ f ++ t ∷ a → p (took.front ++ (f ++ t ∷ b)) ≡ Ok (x.0, f ++ t ∷ b)
same_over p S ts x took [] t a b e = took.same t a b e
same_over p S ts x took (u ∷ us) t a b e = took.same u (us ++ t ∷ a) (us ++ t ∷ b) e

-- ---- two readers that answer the same, and two languages with the same words

after_same : {A : Type 0} (p q : List Tok → Got A) (S : A → Lang)
    (e : (ts : List Tok) → p ts ≡ q ts) (ts : List Tok) (r : Got A) → After p S ts r
    → After q S ts r
after_same p q S e ts (Ok x) took =
    record {
      front = took.front;
      parts = took.parts;
      spelled = took.spelled;
      same =
          λ t a b h. sym (e (took.front ++ t ∷ b)) ∙ took.same t a b h;
    }
after_same p q S e ts (Err rest) failed =
    record {
      seen = failed.seen;
      parts = failed.parts;
      more = failed.more;
      value =
          failed.value;
      viable = failed.viable;
      same = λ t a b h. sym (e (failed.seen ++ t ∷ b))
          ∙ failed.same t a b h;
    }

pub law_same : {A : Type 0} {p : List Tok → Got A} {S : A → Lang} {g : Tok → Bool}
    (q : List Tok → Got A) → ((ts : List Tok) → p ts ≡ q ts) → Law p S g → Law q S g
law_same {A = A} {p = p} {S = S} {g = g} q e l =
    record {
      again = λ v front rest s stop. sym (e (front ++ rest)) ∙ l.again v front rest s stop;
      after = λ ts. subst (λ r. After q S ts r) (e ts) (after_same p q S e ts (p ts) (l.after ts));
      sample = l.sample;
      word = l.word;
      sampled = l.sampled;
    }

-- the same with a test that more tokens pass
pub wider : {A : Type 0} {p : List Tok → Got A} {S : A → Lang} {g : Tok → Bool} (h : Tok → Bool)
    → ((t : Tok) → h t ≡ false → g t ≡ false) → Law p S g → Law p S h
wider {A = A} {p = p} {S = S} {g = g} h less l =
    record {
      again = λ v front rest s stop. l.again v front rest s (narrow rest stop);
      after =
          l.after;
      sample = l.sample;
      word = l.word;
      sampled = l.sampled;
    }
  where
    narrow : (rest : List Tok) → opens_at h rest ≡ false → opens_at g rest ≡ false
    narrow [] e = refl
    narrow (t ∷ ts) e = less t e

-- ---- a value that is made of another

mapped_after : {A B : Type 0} (f : A → B) (p : List Tok → Got A) (S : A → Lang) (T : B → Lang)
    (forth : (a : A) (ts : List Tok) → S a ts → T (f a) ts) (ts : List Tok) (r : Got A)
    → After p S ts r → After (map_at f p) T ts (bind r (λ a rest. Ok (f a, rest)))
mapped_after f p S T forth ts (Ok x) took =
    record {
      front = took.front;
      parts = took.parts;
      spelled = forth x.0 took.front took.spelled;
      same = λ t a b h. ap (λ r. bind r (λ c rest. Ok (f c, rest))) (took.same t a b h);
    }
mapped_after f p S T forth ts (Err rest) failed =
    record {
      seen = failed.seen;
      parts = failed.parts;
      more = failed.more;
      value = f failed.value;
      viable = forth failed.value (failed.seen ++ failed.more) failed.viable;
      same = λ t a b h. ap (λ r. bind r (λ c rest. Ok (f c, rest))) (failed.same t a b h);
    }

pub mapped : {A B : Type 0} {p : List Tok → Got A} {S : A → Lang} {g : Tok → Bool} (f : A → B)
    (T : B → Lang) → ((a : A) (ts : List Tok) → S a ts → T (f a) ts)
    → ((b : B) (ts : List Tok) → T b ts → (a : A) × (f a ≡ b) × S a ts) → Law p S g
    → Law (map_at f p) T g
mapped {A = A} {B = B} {p = p} {S = S} {g = g} f T forth back l =
    record {
      again = λ v front rest s stop.
          let from = back v front s in
          ap (λ r. bind r (λ c end. Ok (f c, end))) (l.again from.0 front rest from.2 stop)
          ∙ ap (λ w. Ok (w, rest)) from.1;
      after = λ ts. mapped_after f p S T forth ts (p ts) (l.after ts);
      sample = f l.sample;
      word = l.word;
      sampled = forth l.sample l.word l.sampled;
    }

pub making : {A B : Type 0} {p : List Tok → Got A} {S : A → Lang} {g : Tok → Bool} (f : A → B)
    → Law p S g → Law (map_at f p) (made f S) g
making {A = A} {B = B} {p = p} {S = S} {g = g} f l =
    mapped f (made f S) (λ a ts s. record { from = a; value = refl; spelled = s })
    (λ b ts m. (m.from, m.value, m.spelled)) l

pub bind_pure : {A : Type 0} (r : Got A) → bind r (λ a rest. Ok (a, rest)) ≡ r
bind_pure (Ok x) = refl
bind_pure (Err rest) = refl

-- the same reader for a language of the same words
pub respelled : {A : Type 0} {p : List Tok → Got A} {S : A → Lang} {g : Tok → Bool} (T : A → Lang)
    → ((a : A) (ts : List Tok) → S a ts → T a ts) → ((a : A) (ts : List Tok) → T a ts → S a ts)
    → Law p S g → Law p T g
respelled {A = A} {p = p} {S = S} {g = g} T forth back l =
    law_same p (λ ts. bind_pure (p ts))
    (mapped (λ a. a) T forth (λ b ts s. (b, refl, back b ts s)) l)

-- ---- one token

token_after : {A : Type 0} (pick : Tok → Option A) (S : A → Lang) (back : (t : Tok) (a : A)
    → pick t ≡ Some a → S a (t ∷ [])) (sample : A) (word : List Tok) (sampled : S sample word)
    (t : Tok) (ts : List Tok) (o : Option A) → pick t ≡ o
    → After (token_at pick) S (t ∷ ts) (taken_token o t ts)
token_after pick S back sample word sampled t ts None e =
    record {
      seen = [];
      parts = refl;
      more = word;
      value = sample;
      viable = sampled;
      same = λ u a b h. let is : t ≡ u = first_same t u ts a h in
          ap (λ o. taken_token o u b) (subst (λ v. pick v ≡ None) is e);
    }
token_after pick S back sample word sampled t ts (Some v) e =
    record {
      front = t ∷ [];
      parts = refl;
      spelled = back t v e;
      same =
          λ u a b h. ap (λ o. taken_token o t (u ∷ b)) e;
    }

token_after_all : {A : Type 0} (pick : Tok → Option A) (S : A → Lang) (back : (t : Tok) (a : A)
    → pick t ≡ Some a → S a (t ∷ [])) (sample : A) (word : List Tok) (sampled : S sample word)
    (ts : List Tok) → After (token_at pick) S ts (token_at pick ts)
token_after_all pick S back sample word sampled [] =
    record {
      seen = [];
      parts = refl;
      more = word;
      value = sample;
      viable = sampled;
      same =
          λ u a b h. absurd (no_more u a h);
    }
token_after_all pick S back sample word sampled (t ∷ ts) =
    token_after pick S back sample word sampled t ts (pick t) refl

pub token_law : {A : Type 0} (pick : Tok → Option A) (S : A → Lang) (g : Tok → Bool)
    → ((v : A) (front : List Tok) → S v front → (t : Tok) × (front ≡ t ∷ []) × (pick t ≡ Some v))
    → ((t : Tok) (a : A) → pick t ≡ Some a → S a (t ∷ [])) → (sample : A) (word : List Tok)
    → S sample word → Law (token_at pick) S g
token_law pick S g forth back sample word sampled =
    record {
      again = λ v front rest s stop.
          let one_token = forth v front s in
          ap (λ l. token_at pick (l ++ rest)) one_token.1
          ∙ ap (λ o. taken_token o one_token.0 rest) one_token.2;
      after = token_after_all pick S back sample word sampled;
      sample = sample;
      word = word;
      sampled = sampled;
    }

-- no token
pub pure_law : {A : Type 0} (a : A) (g : Tok → Bool) → Law (pure_at a) (always a nothing) g
pure_law a g =
    record {
      again = λ v front rest s stop. ap (λ l. Ok (a, l ++ rest)) s.spelled
          ∙ ap (λ w. Ok (w, rest)) s.value;
      after = λ ts. record {
        front = [];
        parts = refl;
        spelled =
            record { from = tt; value = refl; spelled = refl };
        same = λ t x y h. refl;
      };
      sample = a;
      word = [];
      sampled = record { from = tt; value = refl; spelled = refl };
    }

-- ---- one behind the other

joined_second : {A B : Type 0} (p : List Tok → Got A) (q : List Tok → Got B) (S : A → Lang)
    (T : B → Lang) (ts : List Tok) (x : A × List Tok) (took : Took p S ts x) (r : Got B)
    → After q T x.1 r → After (both_at p q) (λ v. S v.0 · T v.1) ts
    (bind r (λ b end. Ok ((x.0, b), end)))
joined_second p q S T ts x took (Ok y) then' =
    record {
      front = took.front ++ then'.front;
      parts = took.parts ∙ ap (λ l. took.front ++ l) then'.parts
          ∙ sym (append_assoc took.front then'.front y.1);
      spelled = record {
        front = took.front;
        back = then'.front;
        parts = refl;
        first =
            took.spelled;
        second = then'.spelled;
      };
      same = λ t a b h.
          let over = same_over p S ts x took then'.front t a b
          (then'.parts ∙ ap (λ l. then'.front ++ l) h) in
          ap (both_at p q) (append_assoc took.front then'.front (t ∷ b))
          ∙ ap (λ r. bind r (λ c rest. bind (q rest) (λ d end. Ok ((c, d), end)))) over
          ∙ ap (λ r. bind r (λ d end. Ok ((x.0, d), end))) (then'.same t a b h);
    }
joined_second p q S T ts x took (Err rest) failed =
    record {
      seen = took.front ++ failed.seen;
      parts = took.parts ∙ ap (λ l. took.front ++ l) failed.parts
          ∙ sym (append_assoc took.front failed.seen rest);
      more = failed.more;
      value = (x.0, failed.value);
      viable = record {
        front = took.front;
        back = failed.seen ++ failed.more;
        parts =
            append_assoc took.front failed.seen failed.more;
        first = took.spelled;
        second =
            failed.viable;
      };
      same = λ t a b h.
          let over = same_over p S ts x took failed.seen t a b
          (failed.parts ∙ ap (λ l. failed.seen ++ l) h) in
          ap (both_at p q) (append_assoc took.front failed.seen (t ∷ b))
          ∙ ap (λ r. bind r (λ c end. bind (q end) (λ d last. Ok ((c, d), last)))) over
          ∙ ap (λ r. bind r (λ d end. Ok ((x.0, d), end))) (failed.same t a b h);
    }

joined_first : {A B : Type 0} (p : List Tok → Got A) (q : List Tok → Got B) (S : A → Lang)
    (T : B → Lang) (h : Tok → Bool) (l : Law q T h) (ts : List Tok) (r : Got A) → After p S ts r
    → After (both_at p q) (λ v. S v.0 · T v.1) ts
    (bind r (λ a rest. bind (q rest) (λ b end. Ok ((a, b), end))))
joined_first p q S T h l ts (Ok x) took = joined_second p q S T ts x took (q x.1) (l.after x.1)
joined_first p q S T h l ts (Err rest) failed =
    record {
      seen = failed.seen;
      parts = failed.parts;
      more = failed.more ++ l.word;
      value = (failed.value, l.sample);
      viable = record {
        front = failed.seen ++ failed.more;
        back = l.word;
        parts =
            sym (append_assoc failed.seen failed.more l.word);
        first = failed.viable;
        second =
            l.sampled;
      };
      same = λ t a b e. ap (λ r. bind r (λ c end. bind (q end) (λ d last. Ok ((c, d), last))))
          (failed.same t a b e);
    }

pub joined : {A B : Type 0} {p : List Tok → Got A} {q : List Tok → Got B} {S : A → Lang}
    {T : B → Lang} {g h : Tok → Bool} → Avoids g T h → Law p S g → Law q T h
    → Law (both_at p q) (λ v. S v.0 · T v.1) h
joined {A = A} {B = B} {p = p} {q = q} {S = S} {T = T} {g = g} {h = h} apart l m =
    record {
      again = λ v front rest s stop.
          ap (λ k. both_at p q (k ++ rest)) s.parts
          ∙ ap (both_at p q) (append_assoc s.front s.back rest)
          ∙ ap (λ r. bind r (λ c end. bind (q end) (λ d last. Ok ((c, d), last))))
          (l.again v.0 s.front (s.back ++ rest) s.first
          (apart.first v.1 s.back rest s.second stop))
          ∙ ap (λ r. bind r (λ d last. Ok ((v.0, d), last)))
          (m.again v.1 s.back rest s.second stop);
      after = λ ts. joined_first p q S T h m ts (p ts) (l.after ts);
      sample = (l.sample, m.sample);
      word = l.word ++ m.word;
      sampled = record {
        front = l.word;
        back = m.word;
        parts = refl;
        first = l.sampled;
        second =
            m.sampled;
      };
    }

-- ---- one or the other

either_after_first : {A : Type 0} (test : Tok → Bool) (p q : List Tok → Got A) (S T : A → Lang)
    (ts : List Tok) → opens_at test ts ≡ true → (r : Got A) → After p S ts r
    → After (either_at test p q) (λ v. S v ∣ T v) ts r
either_after_first test p q S T ts o (Ok x) took =
    record {
      front = took.front;
      parts = took.parts;
      spelled = inl took.spelled;
      same = λ t a b h.
          let here : opens_at test (took.front ++ t ∷ b) ≡ true = opens_same test took.front t a b
          ∙ ap (λ l. opens_at test (took.front ++ l)) (sym h)
          ∙ ap (opens_at test) (sym took.parts) ∙ o in
          ap (λ c. if c then p (took.front ++ t ∷ b) else q (took.front ++ t ∷ b)) here
          ∙ took.same t a b h;
    }
either_after_first test p q S T ts o (Err rest) failed =
    record {
      seen = failed.seen;
      parts = failed.parts;
      more = failed.more;
      value = failed.value;
      viable = inl failed.viable;
      same = λ t a b h.
          let here : opens_at test (failed.seen ++ t ∷ b) ≡ true = opens_same test failed.seen t a b
          ∙ ap (λ l. opens_at test (failed.seen ++ l)) (sym h)
          ∙ ap (opens_at test) (sym failed.parts) ∙ o in
          ap (λ c. if c then p (failed.seen ++ t ∷ b) else q (failed.seen ++ t ∷ b)) here
          ∙ failed.same t a b h;
    }

either_after_second : {A : Type 0} (test : Tok → Bool) (p q : List Tok → Got A) (S T : A → Lang)
    (ts : List Tok) → opens_at test ts ≡ false → (r : Got A) → After q T ts r
    → After (either_at test p q) (λ v. S v ∣ T v) ts r
either_after_second test p q S T ts o (Ok x) took =
    record {
      front = took.front;
      parts = took.parts;
      spelled = inr took.spelled;
      same = λ t a b h.
          let here : opens_at test (took.front ++ t ∷ b) ≡ false = opens_same test took.front t a b
          ∙ ap (λ l. opens_at test (took.front ++ l)) (sym h)
          ∙ ap (opens_at test) (sym took.parts) ∙ o in
          ap (λ c. if c then p (took.front ++ t ∷ b) else q (took.front ++ t ∷ b)) here
          ∙ took.same t a b h;
    }
either_after_second test p q S T ts o (Err rest) failed =
    record {
      seen = failed.seen;
      parts = failed.parts;
      more = failed.more;
      value = failed.value;
      viable = inr failed.viable;
      same = λ t a b h.
          let here : opens_at test (failed.seen ++ t ∷ b) ≡ false =
          opens_same test failed.seen t a b ∙ ap (λ l. opens_at test (failed.seen ++ l)) (sym h)
          ∙ ap (opens_at test) (sym failed.parts) ∙ o in
          ap (λ c. if c then p (failed.seen ++ t ∷ b) else q (failed.seen ++ t ∷ b)) here
          ∙ failed.same t a b h;
    }

either_after : {A : Type 0} (test : Tok → Bool) (p q : List Tok → Got A) (S T : A → Lang)
    (g h : Tok → Bool) (l : Law p S g) (m : Law q T h) (ts : List Tok) (c : Bool)
    → opens_at test ts ≡ c
    → After (either_at test p q) (λ v. S v ∣ T v) ts (if c then p ts else q ts)
either_after test p q S T g h l m ts true o =
    either_after_first test p q S T ts o (p ts) (l.after ts)
either_after test p q S T g h l m ts false o =
    either_after_second test p q S T ts o (q ts) (m.after ts)

either_again : {A : Type 0} (test : Tok → Bool) (p q : List Tok → Got A) (S T : A → Lang)
    (g : Tok → Bool) (begins : Begins test S) (apart : Avoids test T g) (l : Law p S g)
    (m : Law q T g) (v : A) (front rest : List Tok) → S v front ⊎ T v front
    → opens_at g rest ≡ false → either_at test p q (front ++ rest) ≡ Ok (v, rest)
either_again test p q S T g begins apart l m v front rest (inl s) stop =
    ap (λ c. if c then p (front ++ rest) else q (front ++ rest))
    (opens_front test front rest (begins.first v front s)) ∙ l.again v front rest s stop
either_again test p q S T g begins apart l m v front rest (inr s) stop =
    ap (λ c. if c then p (front ++ rest) else q (front ++ rest)) (apart.first v front rest s stop)
    ∙ m.again v front rest s stop

pub either : {A : Type 0} {p q : List Tok → Got A} {S T : A → Lang} {g : Tok → Bool}
    (test : Tok → Bool) → Begins test S → Avoids test T g → Law p S g → Law q T g
    → Law (either_at test p q) (λ v. S v ∣ T v) g
either {A = A} {p = p} {q = q} {S = S} {T = T} {g = g} test begins apart l m =
    record {
      again = either_again test p q S T g begins apart l m;
      after = λ ts. either_after test p q S T g g l m ts (opens_at test ts) refl;
      sample = l.sample;
      word = l.word;
      sampled = inl l.sampled;
    }
