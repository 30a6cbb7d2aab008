-- Reading functions over lists of tokens. A reader answers a value and the tokens after it, or the
-- tokens from the first one on that it can't take.
use Rattle.std.specs.Prelude.{ℕ, zero, suc, Bool, false, List, [], ◌∷◌, length, Option, Some, None}
use Rattle.std.specs.Prelude.{Result, Ok, Err, if◌then◌else◌}
use Rattle.ev_tree.specs.Tok.{Tok, Sign, Name, Class, Int, Time, Text, Odd, same_bytes}

abbrev pub Got : Type 0 → Type 0
Got A = Result (A × List Tok) (List Tok)

-- what a reader of A answers, and then a reader that takes the value and the rest
abbrev pub bind : {A B : Type 0} → Got A → (A → List Tok → Got B) → Got B
bind (Ok x) f = f x.0 x.1
bind (Err rest) f = Err rest

-- the first token passes the test
abbrev pub opens_at : (Tok → Bool) → List Tok → Bool
opens_at test [] = false
opens_at test (t ∷ ts) = test t

abbrev pub taken_token : {A : Type 0} → Option A → Tok → List Tok → Got A
taken_token None t ts = Err (t ∷ ts)
taken_token (Some a) t ts = Ok (a, ts)

-- one token, if it is what is picked
abbrev pub token_at : {A : Type 0} → (Tok → Option A) → List Tok → Got A
token_at pick [] = Err []
token_at pick (t ∷ ts) = taken_token (pick t) t ts

abbrev pub map_at : {A B : Type 0} → (A → B) → (List Tok → Got A) → List Tok → Got B
map_at f p ts = bind (p ts) (λ a rest. Ok (f a, rest))

-- a value and then another
abbrev pub both_at : {A B : Type 0} → (List Tok → Got A) → (List Tok → Got B) → List Tok
    → Got (A × B)
both_at p q ts = bind (p ts) (λ a rest. bind (q rest) (λ b end. Ok ((a, b), end)))

-- this sign or this word
abbrev pub is : List ℕ → Tok → Bool
is bytes (Sign b) = same_bytes b bytes
is bytes _ = false

abbrev pub is_word : List ℕ → Tok → Bool
is_word bytes (Name b) = same_bytes b bytes
is_word bytes _ = false

abbrev pub passed : (Tok → Bool) → Tok → Option (Unit {0})
passed test t = if test t then Some tt else None

abbrev pub sign_at : List ℕ → List Tok → Got (Unit {0})
sign_at bytes ts = token_at (passed (is bytes)) ts

abbrev pub word_at : List ℕ → List Tok → Got (Unit {0})
word_at bytes ts = token_at (passed (is_word bytes)) ts

-- a sign, and what stands behind it; what stands in front of a sign, and that sign
abbrev pub after_at : {A : Type 0} → List ℕ → (List Tok → Got A) → List Tok → Got A
after_at bytes p ts = bind (sign_at bytes ts) (λ _ rest. p rest)

abbrev pub after_word_at : {A : Type 0} → List ℕ → (List Tok → Got A) → List Tok → Got A
after_word_at bytes p ts = bind (word_at bytes ts) (λ _ rest. p rest)

abbrev pub closed_at : {A : Type 0} → (List Tok → Got A) → List ℕ → List Tok → Got A
closed_at p bytes ts = bind (p ts) (λ a rest. bind (sign_at bytes rest) (λ _ end. Ok (a, end)))

-- the first reader where the first token passes the test, else the second
abbrev pub either_at : {A : Type 0} → (Tok → Bool) → (List Tok → Got A) → (List Tok → Got A)
    → List Tok → Got A
either_at test p q ts = if opens_at test ts then p ts else q ts

-- no token
abbrev pub pure_at : {A : Type 0} → A → List Tok → Got A
pure_at a ts = Ok (a, ts)

abbrev pub optional_at : {A : Type 0} → (Tok → Bool) → (List Tok → Got A) → List Tok
    → Got (Option A)
optional_at test p ts = if opens_at test ts then map_at Some p ts else Ok (None, ts)

-- values as long as the first token passes the test, at most n
abbrev pub many_up_at : {A : Type 0} → (Tok → Bool) → (List Tok → Got A) → ℕ → List Tok
    → Got (List A)
many_up_at test p zero ts = Ok ([], ts)
many_up_at test p (suc n) ts =
    if opens_at test ts then bind (p ts)
    (λ a rest. bind (many_up_at test p n rest) (λ more end. Ok (a ∷ more, end))) else Ok
    ([], ts)

-- as many as there are: each takes a token at least
unfoldable pub many_at : {A : Type 0} → (Tok → Bool) → (List Tok → Got A) → List Tok
    → Got (List A)
many_at test p ts = many_up_at test p (length ts) ts

-- more values, each behind a sign
abbrev pub more_at : {A : Type 0} → List ℕ → (List Tok → Got A) → List Tok → Got (List A)
more_at bytes p ts = many_at (is bytes) (after_at bytes p) ts

-- one value, and more behind signs
abbrev pub separated_at : {A : Type 0} → List ℕ → (List Tok → Got A) → List Tok → Got (List A)
separated_at bytes p ts =
    bind (p ts) (λ a rest. bind (more_at bytes p rest) (λ more end. Ok (a ∷ more, end)))
