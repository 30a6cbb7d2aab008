-- A word of JSON is no longer than the bytes that the lexer passes over for it.
use Rattle.std.proofs.Common.{◌≡◌, ℕ, suc, ◌+◌, ◌-◌, ◌≤◌, Bool, true, false, ◌||◌, ◌==◌, cond, List}
use Rattle.std.proofs.Common.{[], ◌∷◌, ◌++◌, length, take, drop, Option, Some, None}
use Rattle.std.proofs.Common.{option_and_then, ⊎_elim, refl, sym, ap, ◌∙◌, subst, arith}
use Rattle.std.proofs.lemmas.Bool.{true≢false, eqb-true, leb-true, and_parts, or_cases}
use Rattle.std.proofs.lemmas.Bool.Decides.{nat_tests}
use Rattle.std.proofs.lemmas.List.{take-append-drop, length-take}
use Rattle.std.proofs.lemmas.Slice.Eq.{bytes_eq-Decides}
use Rattle.std.specs.List.{prefix_len}
use Rattle.std.specs.Char.{is_ascii_digit}
use Rattle.std.specs.Prelude.{⊤}
use Rattle.json.specs.Token.{Token}
use Rattle.json.specs.Word.{is_operator, is_space, head, ends_word, after_digits, after_minus}
use Rattle.json.specs.Word.{after_sign, after_whole, after_fraction, after_exponent, after_number}
use Rattle.json.specs.Word.{number_before, literal, word}
use Rattle.json.specs.Lex.{Class, quote, backslash, operator, space, other, class}
use Rattle.json.specs.Print.{token_text}

-- how many bytes stand before the first operator or space
abbrev pub run_byte : Class → ℕ → ℕ
run_byte quote n = 1 + n
run_byte backslash n = 1 + n
run_byte operator n = 0
run_byte space n = 0
run_byte other n = 1 + n

abbrev pub run : List ℕ → ℕ
run [] = 0
run (x ∷ xs) = run_byte (class x) (run xs)

-- the bytes before `rest` belong to the word
abbrev Before : List ℕ → List ℕ → Type 0
Before t rest = length t + run rest ≤ length rest + run t

-- a byte of a word
abbrev IsInner : ℕ → Type 0
IsInner x = (n : ℕ) → run_byte (class x) n ≡ 1 + n

one : (x : ℕ) (xs : List ℕ) → IsInner x → Before (x ∷ xs) xs
one x xs h = omega (arith, h (run xs))

none : (t : List ℕ) → Before t t
none t = omega arith

chain : (a b c : List ℕ) → Before a b → Before b c → Before a c
chain a b c p q = omega arith

-- `drop 1` of a text that begins with the byte c
first : (c : ℕ) (t : List ℕ) → IsInner c → (head t == c) ≡ true → Before t (drop 1 t)
first c [] h e = none []
first c (x ∷ xs) h e = one x xs (λ n. ap (λ y. run_byte (class y) n) (eqb-true x c e) ∙ h n)

digit_cases : (x : ℕ) (o s q b : Bool) → (o ≡ true → ⊥) → (s ≡ true → ⊥) → (n : ℕ)
    → run_byte (cond q quote (cond b backslash (cond o operator (cond s space other)))) n ≡ 1 + n
digit_cases x o s true b ho hs n = refl
digit_cases x o s false true ho hs n = refl
digit_cases x true s false false ho hs n = absurd (ho refl)
digit_cases x false true false false ho hs n = absurd (hs refl)
digit_cases x false false false false ho hs n = refl

low : (x : ℕ) → is_ascii_digit x ≡ true → 48 ≤ x
low x d = leb-true 48 x (and_parts _ _ d).0

high : (x : ℕ) → is_ascii_digit x ≡ true → x ≤ 57
high x d = leb-true x 57 (and_parts _ _ d).1

no_operator : (x : ℕ) → 48 ≤ x → x ≤ 57 → is_operator x ≡ false
no_operator x l h = grind (arith, nat_tests)

no_space : (x : ℕ) → 48 ≤ x → x ≤ 57 → is_space x ≡ false
no_space x l h = grind (arith, nat_tests)

digit : (x : ℕ) → is_ascii_digit x ≡ true → IsInner x
digit x d =
    digit_cases x (is_operator x) (is_space x) (x == 34) (x == 92)
    (λ e. true≢false (sym e ∙ no_operator x (low x d) (high x d)))
    (λ e. true≢false (sym e ∙ no_space x (low x d) (high x d)))

digits_at : (d : Bool) (x : ℕ) (xs : List ℕ) (n : ℕ) → (d ≡ true → IsInner x)
    → Before xs (drop n xs) → Before (x ∷ xs) (drop (cond d (1 + n) 0) (x ∷ xs))
digits_at false x xs n inner h = none (x ∷ xs)
digits_at true x xs n inner h =
    let e : 1 + n ≡ suc n = omega arith in
    subst (λ (k : ℕ). Before (x ∷ xs) (drop k (x ∷ xs))) (sym e)
    (chain (x ∷ xs) xs (drop n xs) (one x xs (inner refl)) h)

digits : (t : List ℕ) → Before t (drop (prefix_len is_ascii_digit t) t)
digits [] = none []
digits (x ∷ xs) = digits_at (is_ascii_digit x) x xs (prefix_len is_ascii_digit xs) (digit x)
    (digits xs)

-- what is left of a part of a number, where there is such a part
unfoldable Part : List ℕ → Option (List ℕ) → Type 0
Part t None = ⊤
Part t (Some rest) = Before t rest

absent : (t : List ℕ) → Part t None
unfolding Part
absent t = tt

present : (t rest : List ℕ) → Before t rest → Part t (Some rest)
unfolding Part
present t rest h = h

by_test : (t : List ℕ) (b : Bool) (x y : Option (List ℕ)) → (b ≡ true → Part t x) → Part t y
    → Part t (cond b x y)
by_test t true x y f h = f refl
by_test t false x y f h = h

after : (t u : List ℕ) (o : Option (List ℕ)) → Before t u → Part u o → Part t o
unfolding Part
after t u None h p = tt
after t u (Some rest) h p = chain t u rest h p

digits_part : (t : List ℕ) → Part t (after_digits t)
digits_part t = by_test t (prefix_len is_ascii_digit t == 0) None
    (Some (drop (prefix_len is_ascii_digit t) t)) (λ e. absent t) (present t _ (digits t))

either : (a b : ℕ) (t : List ℕ) → IsInner a → IsInner b → ((head t == a) || (head t == b)) ≡ true
    → Before t (drop 1 t)
either a b t p q e = ⊎_elim (first a t p) (first b t q) (or_cases _ _ e)

skipped : (b : Bool) (t : List ℕ) → (b ≡ true → Before t (drop 1 t))
    → Before t (cond b (drop 1 t) t)
skipped true t f = f refl
skipped false t f = none t

sign : (t : List ℕ) → Before t (after_sign t)
sign t = skipped _ t (either 45 43 t (λ n. refl) (λ n. refl))

exponent_part : (t : List ℕ) → Part t (after_exponent t)
exponent_part t =
    by_test t ((head t == 101) || (head t == 69)) (after_digits (after_sign (drop 1 t))) (Some t)
    (λ e. after t (after_sign (drop 1 t)) _
    (chain t (drop 1 t) (after_sign (drop 1 t)) (either 101 69 t (λ n. refl) (λ n. refl) e)
    (sign (drop 1 t))) (digits_part (after_sign (drop 1 t))))
    (present t t (none t))

fraction_part : (t : List ℕ) → Part t (after_fraction t)
fraction_part t =
    by_test t (head t == 46) (after_digits (drop 1 t)) (Some t)
    (λ e. after t (drop 1 t) _ (first 46 t (λ n. refl) e) (digits_part (drop 1 t)))
    (present t t (none t))

whole_part : (t : List ℕ) → Part t (after_whole t)
whole_part t = by_test t (head t == 48) (Some (drop 1 t)) (after_digits t)
    (λ e. present t (drop 1 t) (first 48 t (λ n. refl) e)) (digits_part t)

then : (t : List ℕ) (f : List ℕ → Option (List ℕ)) → ((u : List ℕ) → Part u (f u))
    → (o : Option (List ℕ)) → Part t o → Part t (option_and_then f o)
unfolding Part
then t f p None h = tt
then t f p (Some u) h = after t u (f u) h (p u)

number_part : (t : List ℕ) → Part t (after_number t)
unfolding after_number
number_part t =
    then t after_exponent exponent_part _
    (then t after_fraction fraction_part _
    (after t (after_minus t) _ (skipped (head t == 45) t (first 45 t (λ n. refl)))
    (whole_part (after_minus t))))

-- a token is printed in no more bytes than the word has
unfoldable pub Within : List ℕ → Token → Type 0
Within t k = length (token_text k) ≤ run t

chosen : (t : List ℕ) (b : Bool) (x y : Token) → (b ≡ true → Within t x) → Within t y
    → Within t (cond b x y)
chosen t true x y f h = f refl
chosen t false x y f h = h

no_word : (t : List ℕ) → Within t Token.bad
unfolding Within
no_word t = omega arith

number_within : (t : List ℕ) (o : Option (List ℕ)) → Part t o → Within t (number_before t o)
unfolding Part Within
number_within t None h = no_word t
number_within t (Some rest) h =
    chosen t (ends_word rest) (Token.number (take (length t - length rest) t)) Token.bad
    (λ e. omega (arith, length-take (length t - length rest) t)) (no_word t)

literal_within : (name : List ℕ) (k : Token) (t : List ℕ)
    → ((rest : List ℕ) → Within (name ++ rest) k) → Within t (literal name k t)
literal_within name k t fits =
    chosen t _ k Token.bad
    (λ e. let front : name ≡ take (length name) t =
    (bytes_eq-Decides name (take (length name) t)).0 (and_parts _ _ e).0 in
    subst (λ (l : List ℕ). Within l k) (ap (λ l. l ++ drop (length name) t) front
    ∙ take-append-drop (length name) t) (fits (drop (length name) t)))
    (no_word t)

true_within : (rest : List ℕ) → Within (116 ∷ 114 ∷ 117 ∷ 101 ∷ rest) (Token.boolean true)
unfolding Within
true_within rest = omega arith

false_within : (rest : List ℕ) → Within (102 ∷ 97 ∷ 108 ∷ 115 ∷ 101 ∷ rest) (Token.boolean false)
unfolding Within
false_within rest = omega arith

null_within : (rest : List ℕ) → Within (110 ∷ 117 ∷ 108 ∷ 108 ∷ rest) Token.null
unfolding Within
null_within rest = omega arith

pub word_within : (t : List ℕ) → Within t (word t)
unfolding word
word_within t =
    chosen t (head t == 116) _ _
    (λ e. literal_within (116 ∷ 114 ∷ 117 ∷ 101 ∷ []) (Token.boolean true) t true_within)
    (chosen t (head t == 102) _ _
    (λ e. literal_within (102 ∷ 97 ∷ 108 ∷ 115 ∷ 101 ∷ []) (Token.boolean false) t false_within)
    (chosen t (head t == 110) _ _
    (λ e. literal_within (110 ∷ 117 ∷ 108 ∷ 108 ∷ []) Token.null t null_within)
    (number_within t (after_number t) (number_part t))))
