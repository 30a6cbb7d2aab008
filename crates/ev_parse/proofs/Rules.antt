-- The laws of the readers that are built of others, with the first tokens of each language.
use Rattle.std.proofs.Common.{◌≡◌, ◌⊎◌, inl, inr, ℕ, Bool, true, false, ◌||◌, List, [], ◌∷◌, ◌++◌}
use Rattle.std.proofs.Common.{Option, Some, None, Ok, Err, if◌then◌else◌, refl, sym, ◌∙◌, ap, subst}
use Rattle.std.proofs.Common.{arith}
use Rattle.std.proofs.lemmas.Bool.Decides.{nat_tests}
use Rattle.std.proofs.lemmas.Option.{same_Some}
use Rattle.ev_tree.specs.Tok.{Tok, Sign, Name, Class, Int, Time, Text, Odd, same_bytes}
use Rattle.ev_tree.specs.Language.{Lang, nothing, one, Seq, ◌·◌, ◌∣◌, made, always, maybe, each}
use Rattle.ev_tree.specs.Language.{separated, sign, word}
use Rattle.ev_parse.specs.Read.{Got, bind, opens_at, is, is_word, passed, sign_at, word_at}
use Rattle.ev_parse.specs.Read.{after_at, after_word_at, closed_at, optional_at, more_at}
use Rattle.ev_parse.specs.Read.{separated_at}
use Rattle.ev_parse.proofs.Laws.{Law, Begins, Avoids, law_same, mapped, making, respelled}
use Rattle.ev_parse.proofs.Laws.{token_law, pure_law, joined, either}
use Rattle.ev_parse.proofs.Many.{Apart, many_law}

-- ---- bytes

pub same_true : (a b : List ℕ) → same_bytes a b ≡ true → a ≡ b
same_true [] [] e = refl
same_true [] (b ∷ bs) e = absurd (cc)
same_true (a ∷ more) [] e = absurd (cc)
same_true (a ∷ more) (b ∷ bs) e =
    let first : a ≡ b = grind (arith, nat_tests) in
    let others : same_bytes more bs ≡ true = grind (arith, nat_tests) in
    ap (λ x. x ∷ more) first ∙ ap (λ l. b ∷ l) (same_true more bs others)

pub same_self : (a : List ℕ) → same_bytes a a ≡ true
same_self [] = refl
same_self (a ∷ more) = let others = same_self more in grind (arith, nat_tests)

-- ---- tokens that go on

-- one of these signs
abbrev pub among : List (List ℕ) → Tok → Bool
among [] t = false
among (s ∷ ss) t = is s t || among ss t

pub among_first : (s : List ℕ) (ss : List (List ℕ)) (t : Tok) → among (s ∷ ss) t ≡ false
    → is s t ≡ false
among_first s ss t e = or_first (is s t) (among ss t) e
  where
    or_first : (a b : Bool) → (a || b) ≡ false → a ≡ false
    or_first true b e = absurd (cc)
    or_first false b e = refl

pub among_rest : (s : List ℕ) (ss : List (List ℕ)) (t : Tok) → among (s ∷ ss) t ≡ false
    → among ss t ≡ false
among_rest s ss t e = or_rest (is s t) (among ss t) e
  where
    or_rest : (a b : Bool) → (a || b) ≡ false → b ≡ false
    or_rest true b e = absurd (cc)
    or_rest false b e = e

pub is_sign : (s : List ℕ) (t : Tok) → is s t ≡ true → t ≡ Sign s
is_sign s (Sign b) e = ap (λ x. Sign x) (same_true b s e)
is_sign s (Name b) e = absurd (cc)
is_sign s (Class b) e = absurd (cc)
is_sign s (Int n) e = absurd (cc)
is_sign s (Time w) e = absurd (cc)
is_sign s (Text b) e = absurd (cc)
is_sign s Odd e = absurd (cc)

pub is_name_word : (s : List ℕ) (t : Tok) → is_word s t ≡ true → t ≡ Name s
is_name_word s (Name b) e = ap (λ x. Name x) (same_true b s e)
is_name_word s (Sign b) e = absurd (cc)
is_name_word s (Class b) e = absurd (cc)
is_name_word s (Int n) e = absurd (cc)
is_name_word s (Time w) e = absurd (cc)
is_name_word s (Text b) e = absurd (cc)
is_name_word s Odd e = absurd (cc)

-- ---- first tokens

-- each word begins with a token at which the test gives v
pub record Starts {A : Type 0} (test : Tok → Bool) (v : Bool) (S : A → Lang) : Type 0 where
  pub first : (a : A) (front : List Tok) → S a front → (t : Tok) × (more : List Tok)
      × (front ≡ t ∷ more) × (test t ≡ v)

pub begun : {A : Type 0} {test : Tok → Bool} {S : A → Lang} → Starts test true S → Begins test S
begun {A = A} {test = test} {S = S} starts =
    record { first = λ v front s. let f = starts.first v front s in ap (opens_at test) f.2 ∙ f.3 }

pub avoided : {A : Type 0} {test : Tok → Bool} {S : A → Lang} {g : Tok → Bool} → Starts test false S
    → Avoids test S g
avoided {A = A} {test = test} {S = S} {g = g} starts =
    record {
      first = λ v front rest s stop. let f = starts.first v front s in
          ap (λ l. opens_at test (l ++ rest)) f.2 ∙ f.3;
    }

-- by its one token
pub by_token : {A : Type 0} {test : Tok → Bool} {v : Bool} (tok : A → Tok)
    → ((a : A) → test (tok a) ≡ v) → Starts test v (λ a. one (tok a))
by_token tok e = record { first = λ a front s. (tok a, [], s, e a) }

pub by_one : {A : Type 0} {test : Tok → Bool} {v : Bool} {S : A → Lang} (t : Tok) → test t ≡ v
    → Starts test v (λ a. one t · S a)
by_one {A = A} {test = test} {v = v} {S = S} t e =
    record { first = λ a front s. (t, s.back, s.parts ∙ ap (λ l. l ++ s.back) s.first, e) }

pub by_front : {A B : Type 0} {test : Tok → Bool} {v : Bool} {S : A → Lang} (T : B → Lang)
    → Starts test v S → Starts test v (λ (x : A × B). S x.0 · T x.1)
by_front {A = A} {B = B} {test = test} {v = v} {S = S} T starts =
    record {
      first = λ x front s. let f = starts.first x.0 s.front s.first in
          (f.0, f.1 ++ s.back, s.parts ∙ ap (λ l. l ++ s.back) f.2, f.3);
    }

-- the same where one word stands behind
pub by_head : {A : Type 0} {test : Tok → Bool} {v : Bool} {S : A → Lang} (l : Lang)
    → Starts test v S → Starts test v (λ a. S a · l)
by_head {A = A} {test = test} {v = v} {S = S} l starts =
    record {
      first = λ a front s. let f = starts.first a s.front s.first in
          (f.0, f.1 ++ s.back, s.parts ∙ ap (λ k. k ++ s.back) f.2, f.3);
    }

pub by_made : {A B : Type 0} {test : Tok → Bool} {v : Bool} {S : A → Lang} (f : A → B)
    → Starts test v S → Starts test v (made f S)
by_made f starts = record { first = λ b front m. starts.first m.from front m.spelled }

pub by_always : {B : Type 0} {test : Tok → Bool} {v : Bool} (b : B) (t : Tok) → test t ≡ v
    → Starts test v (always b (one t))
by_always b t e = record { first = λ c front m. (t, [], m.spelled, e) }

pub by_either : {A : Type 0} {test : Tok → Bool} {v : Bool} {S T : A → Lang} → Starts test v S
    → Starts test v T → Starts test v (λ a. S a ∣ T a)
by_either {A = A} {test = test} {v = v} {S = S} {T = T} first second =
    record { first = λ a front s. choose a front s }
  where
    choose : (a : A) (front : List Tok) → S a front ⊎ T a front → (t : Tok) × (more : List Tok)
        × (front ≡ t ∷ more) × (test t ≡ v)
    choose a front (inl s) = first.first a front s
    choose a front (inr s) = second.first a front s

pub by_separated : {A : Type 0} {test : Tok → Bool} {v : Bool} {S : A → Lang} (m : Tok)
    → Starts test v S → Starts test v (separated m S)
by_separated {A = A} {test = test} {v = v} {S = S} m starts =
    record { first = λ as' front s. of as' front s }
  where
    of : (as' : List A) (front : List Tok) → separated m S as' front → (t : Tok) × (more : List Tok)
        × (front ≡ t ∷ more) × (test t ≡ v)
    of [] front s = absurd s
    of (a ∷ more) front s = let f = starts.first a s.front s.first in
        (f.0, f.1 ++ s.back, s.parts ∙ ap (λ l. l ++ s.back) f.2, f.3)

pub starts_in : {A : Type 0} {test : Tok → Bool} {v : Bool} {S : A → Lang} (T : A → Lang)
    → ((a : A) (ts : List Tok) → T a ts → S a ts) → Starts test v S → Starts test v T
starts_in T back starts = record { first = λ a front s. starts.first a front (back a front s) }

-- ---- signs and words

sign_taken : (s : List ℕ) (t : Tok) → (u : Unit {0}) → passed (is s) t ≡ Some u
    → t ∷ [] ≡ Sign s ∷ []
sign_taken s t u e = ap (λ x. x ∷ []) (is_sign s t (by_test (is s t) e))
  where
    by_test : (b : Bool) → (if b then Some tt else None) ≡ Some u → b ≡ true
    by_test true e = refl
    by_test false e = absurd (cc)

pub sign_law : (s : List ℕ) (g : Tok → Bool) → Law (sign_at s) (λ (u : Unit {0}). sign s) g
sign_law s g =
    token_law (passed (is s)) (λ (u : Unit {0}). sign s) g
    (λ v front e. (Sign s, e, ap (λ b. if b then Some tt else None) (same_self s)))
    (λ t u e. sign_taken s t u e) tt (Sign s ∷ []) refl

word_taken : (s : List ℕ) (t : Tok) → (u : Unit {0}) → passed (is_word s) t ≡ Some u
    → t ∷ [] ≡ Name s ∷ []
word_taken s t u e = ap (λ x. x ∷ []) (is_name_word s t (by_test (is_word s t) e))
  where
    by_test : (b : Bool) → (if b then Some tt else None) ≡ Some u → b ≡ true
    by_test true e = refl
    by_test false e = absurd (cc)

pub word_law : (s : List ℕ) (g : Tok → Bool) → Law (word_at s) (λ (u : Unit {0}). word s) g
word_law s g =
    token_law (passed (is_word s)) (λ (u : Unit {0}). word s) g
    (λ v front e. (Name s, e, ap (λ b. if b then Some tt else None) (same_self s)))
    (λ t u e. word_taken s t u e) tt (Name s ∷ []) refl

opens_none : (ts : List Tok) → opens_at (λ t. false) ts ≡ false
opens_none [] = refl
opens_none (t ∷ ts) = refl

pub avoids_none : {A : Type 0} (S : A → Lang) (g : Tok → Bool) → Avoids (λ t. false) S g
avoids_none S g = record { first = λ v front rest s stop. opens_none (front ++ rest) }

-- ---- a sign in front, a sign behind

second_pure : {A : Type 0} (u : Unit {0}) (r : Got A)
    → r ≡ bind {A = Unit {0} × A} (bind r (λ a end. Ok ((u, a), end))) (λ x end. Ok (x.1, end))
second_pure u (Ok x) = refl
second_pure u (Err rest) = refl

after_is : {A : Type 0} (p : List Tok → Got A) (r : Got (Unit {0}))
    → bind {A = Unit {0} × A} (bind r (λ u rest. bind (p rest) (λ a end. Ok ((u, a), end))))
    (λ x end. Ok (x.1, end)) ≡ bind r (λ u rest. p rest)
after_is p (Ok x) = sym (second_pure x.0 (p x.1))
after_is p (Err rest) = refl

pub after : {A : Type 0} {p : List Tok → Got A} {S : A → Lang} {g : Tok → Bool} (s : List ℕ)
    → Law p S g → Law (after_at s p) (λ a. sign s · S a) g
after {A = A} {p = p} {S = S} {g = g} s l =
    law_same (after_at s p) (λ ts. after_is p (sign_at s ts))
    (mapped (λ (x : Unit {0} × A). x.1) (λ a. sign s · S a) (λ x ts w. w)
    (λ a ts w. ((tt, a), refl, w))
    (joined (avoids_none S g) (sign_law s (λ t. false)) l))

pub after_word : {A : Type 0} {p : List Tok → Got A} {S : A → Lang} {g : Tok → Bool} (s : List ℕ)
    → Law p S g → Law (after_word_at s p) (λ a. word s · S a) g
after_word {A = A} {p = p} {S = S} {g = g} s l =
    law_same (after_word_at s p) (λ ts. after_is p (word_at s ts))
    (mapped (λ (x : Unit {0} × A). x.1) (λ a. word s · S a) (λ x ts w. w)
    (λ a ts w. ((tt, a), refl, w))
    (joined (avoids_none S g) (word_law s (λ t. false)) l))

closed_tail : {A : Type 0} (a : A) (r : Got (Unit {0}))
    → bind {A = A × Unit {0}} (bind r (λ u end. Ok ((a, u), end))) (λ x end. Ok (x.0, end))
    ≡ bind r (λ u end. Ok (a, end))
closed_tail a (Ok x) = refl
closed_tail a (Err rest) = refl

closed_is : {A : Type 0} (s : List ℕ) (r : Got A)
    → bind {A = A × Unit {0}} (bind r (λ a rest. bind (sign_at s rest) (λ u end. Ok ((a, u), end))))
    (λ x end. Ok (x.0, end)) ≡ bind r (λ a rest. bind (sign_at s rest) (λ u end. Ok (a, end)))
closed_is s (Ok x) = closed_tail x.0 (sign_at s x.1)
closed_is s (Err rest) = refl

pub closed : {A : Type 0} {p : List Tok → Got A} {S : A → Lang} {g : Tok → Bool} (s : List ℕ)
    (h : Tok → Bool) → g (Sign s) ≡ false → Law p S g → Law (closed_at p s) (λ a. S a · sign s) h
closed {A = A} {p = p} {S = S} {g = g} s h apart l =
    law_same (closed_at p s) (λ ts. closed_is s (p ts))
    (mapped (λ (x : A × Unit {0}). x.0) (λ a. S a · sign s) (λ x ts w. w)
    (λ a ts w. ((a, tt), refl, w))
    (joined (avoided (by_token (λ (u : Unit {0}). Sign s) (λ u. apart))) l (sign_law s h)))

-- ---- what may be missing

maybe_to : {A : Type 0} (S : A → Lang) (o : Option A) (ts : List Tok) → made Some S o ts
    ⊎ always None nothing o ts → maybe S o ts
maybe_to S None ts (inl m) = absurd (let e : Some m.from ≡ None = m.value in cc)
maybe_to S None ts (inr m) = m.spelled
maybe_to S (Some a) ts (inl m) = subst (λ b. S b ts) (same_Some m.from a m.value) m.spelled
maybe_to S (Some a) ts (inr m) = absurd (let e : None ≡ Some a = m.value in cc)

maybe_from : {A : Type 0} (S : A → Lang) (o : Option A) (ts : List Tok) → maybe S o ts
    → made Some S o ts ⊎ always None nothing o ts
maybe_from S None ts s = inr (record { from = tt; value = refl; spelled = s })
maybe_from S (Some a) ts s = inl (record { from = a; value = refl; spelled = s })

avoids_missing : {A : Type 0} (test g : Tok → Bool) → ((t : Tok) → g t ≡ false → test t ≡ false)
    → Avoids test (always {B = Option A} None nothing) g
avoids_missing test g less =
    record {
      first = λ v front rest m stop. ap (λ l. opens_at test (l ++ rest)) m.spelled
          ∙ by_rest rest stop;
    }
  where
    by_rest : (rest : List Tok) → opens_at g rest ≡ false → opens_at test rest ≡ false
    by_rest [] e = refl
    by_rest (t ∷ ts) e = less t e

pub optional : {A : Type 0} {p : List Tok → Got A} {S : A → Lang} {g : Tok → Bool}
    (test : Tok → Bool) → ((t : Tok) → g t ≡ false → test t ≡ false) → Starts test true S
    → Law p S g → Law (optional_at test p) (maybe S) g
optional {A = A} {p = p} {S = S} {g = g} test less starts l =
    respelled (maybe S) (maybe_to S) (maybe_from S)
    (either test (begun (by_made Some starts)) (avoids_missing test g less) (making Some l)
    (pure_law None g))

pub avoids_maybe : {A : Type 0} {S : A → Lang} (test g : Tok → Bool)
    → ((t : Tok) → g t ≡ false → test t ≡ false) → Starts test false S → Avoids test (maybe S) g
avoids_maybe {A = A} {S = S} test g less starts =
    record { first = λ o front rest s stop. of o front rest s stop }
  where
    by_rest : (rest : List Tok) → opens_at g rest ≡ false → opens_at test rest ≡ false
    by_rest [] e = refl
    by_rest (t ∷ ts) e = less t e

    of : (o : Option A) (front rest : List Tok) → maybe S o front → opens_at g rest ≡ false
        → opens_at test (front ++ rest) ≡ false
    of None front rest s stop = ap (λ l. opens_at test (l ++ rest)) s ∙ by_rest rest stop
    of (Some a) front rest s stop = let f = starts.first a front s in
        ap (λ l. opens_at test (l ++ rest)) f.2 ∙ f.3

pub by_maybe : {A B : Type 0} {test : Tok → Bool} {v : Bool} {S : A → Lang} {T : B → Lang}
    → Starts test v S → Starts test v T → Starts test v (λ (x : Option A × B). maybe S x.0 · T x.1)
by_maybe {A = A} {B = B} {test = test} {v = v} {S = S} {T = T} first second =
    record { first = λ x front s. of x.0 x.1 front s }
  where
    of : (o : Option A) (b : B) (front : List Tok) → Seq (maybe S o) (T b) front → (t : Tok)
        × (more : List Tok) × (front ≡ t ∷ more) × (test t ≡ v)
    of None b front s =
        let f = second.first b s.back s.second in
        (f.0, f.1, s.parts ∙ ap (λ l. l ++ s.back) s.first ∙ f.2, f.3)
    of (Some a) b front s =
        let f = first.first a s.front s.first in
        (f.0, f.1 ++ s.back, s.parts ∙ ap (λ l. l ++ s.back) f.2, f.3)

-- ---- values in a row

apart_signs : (m : List ℕ) (ms : List (List ℕ)) → among ms (Sign m) ≡ false
    → Apart (is m) (among ms) (among (m ∷ ms))
apart_signs m ms e =
    record {
      begun = λ t i. ap (among ms) (is_sign m t i) ∙ e;
      ended = λ t i. among_first m ms t i;
      stopped = λ t i. among_rest m ms t i;
    }

pub starts_sign : {A : Type 0} (m : List ℕ) (S : A → Lang) → Starts (is m) true (λ a. sign m · S a)
starts_sign m S = by_one (Sign m) (same_self m)

pub more : {A : Type 0} {p : List Tok → Got A} {S : A → Lang} (m : List ℕ) (ms : List (List ℕ))
    → among ms (Sign m) ≡ false → Law p S (among ms)
    → Law (more_at m p) (each (λ a. sign m · S a)) (among (m ∷ ms))
more {A = A} {p = p} {S = S} m ms e l =
    many_law (is m) (among (m ∷ ms)) (begun (starts_sign m S)) (apart_signs m ms e) (after m l)

avoids_more : {A : Type 0} (S : A → Lang) (m : List ℕ) (ms : List (List ℕ))
    → among ms (Sign m) ≡ false → Avoids (among ms) (each (λ a. sign m · S a)) (among (m ∷ ms))
avoids_more {A = A} S m ms e = record { first = λ as' front rest s stop. of as' front rest s stop }
  where
    by_rest : (rest : List Tok) → opens_at (among (m ∷ ms)) rest ≡ false
        → opens_at (among ms) rest ≡ false
    by_rest [] e = refl
    by_rest (t ∷ ts) e = among_rest m ms t e

    of : (as' : List A) (front rest : List Tok) → each (λ a. sign m · S a) as' front
        → opens_at (among (m ∷ ms)) rest ≡ false → opens_at (among ms) (front ++ rest) ≡ false
    of [] front rest s stop = ap (λ l. opens_at (among ms) (l ++ rest)) s ∙ by_rest rest stop
    of (a ∷ others) front rest s stop =
        ap (λ l. opens_at (among ms) (l ++ rest))
        (s.parts ∙ ap (λ l. l ++ s.back)
        (s.first.parts ∙ ap (λ l. l ++ s.first.back) s.first.first)) ∙ e

separated_tail : {A : Type 0} (a : A) (r : Got (List A))
    → bind {A = A × List A} (bind r (λ b end. Ok ((a, b), end))) (λ x end. Ok (x.0 ∷ x.1, end))
    ≡ bind r (λ b end. Ok (a ∷ b, end))
separated_tail a (Ok x) = refl
separated_tail a (Err rest) = refl

separated_is : {A : Type 0} (q : List Tok → Got (List A)) (r : Got A)
    → bind {A = A × List A} (bind r (λ a rest. bind (q rest) (λ b end. Ok ((a, b), end))))
    (λ x end. Ok (x.0 ∷ x.1, end)) ≡ bind r (λ a rest. bind (q rest) (λ b end. Ok (a ∷ b, end)))
separated_is q (Ok x) = separated_tail x.0 (q x.1)
separated_is q (Err rest) = refl

separated_back : {A : Type 0} (m : List ℕ) (S : A → Lang) (as' : List A) (ts : List Tok)
    → separated (Sign m) S as' ts → (x : A × List A) × (x.0 ∷ x.1 ≡ as')
    × Seq (S x.0) (each (λ a. sign m · S a) x.1) ts
separated_back m S [] ts s = absurd s
separated_back m S (a ∷ others) ts s = ((a, others), refl, s)

-- one value, and more behind signs
pub by_sign : {A : Type 0} {p : List Tok → Got A} {S : A → Lang} (m : List ℕ) (ms : List (List ℕ))
    → among ms (Sign m) ≡ false → Law p S (among ms)
    → Law (separated_at m p) (separated (Sign m) S) (among (m ∷ ms))
by_sign {A = A} {p = p} {S = S} m ms e l =
    law_same (separated_at m p) (λ ts. separated_is (more_at m p) (p ts))
    (mapped (λ (x : A × List A). x.0 ∷ x.1) (separated (Sign m) S) (λ x ts s. s)
    (separated_back m S)
    (joined (avoids_more S m ms e) l (more m ms e l)))
