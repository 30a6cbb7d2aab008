-- The lexemes of a text are printed in no more bytes than it has.
use Rattle.std.proofs.Common.{◌≡◌, ℕ, ◌+◌, ◌≤◌, Bool, true, false, cond, ◌==◌, List, [], ◌∷◌}
use Rattle.std.proofs.Common.{length, Option, Some, None, refl, ap, arith}
use Rattle.std.proofs.lemmas.List.{length-append}
use Rattle.json.specs.Text.{content, plain}
use Rattle.json.specs.Word.{word}
use Rattle.json.specs.Lex.{Lexeme, token, comma, colon, Class, quote, backslash, operator, space}
use Rattle.json.specs.Lex.{other, class, operator_lexeme, string_token, Mode, between, in_word}
use Rattle.json.specs.Lex.{in_string, in_escape, lex_byte, lex}
use Rattle.json.specs.Align.{span_byte, span}
use Rattle.json.specs.Print.{token_text, escape}
use Rattle.fm_line_laws.proofs.Escaped.{AtMost, content-escaped}
use Rattle.fm_line_laws.proofs.WordRuns.{run, run_byte, Within, word_within}

abbrev pub weight : Lexeme → ℕ
weight (token t) = length (token_text t)
weight comma = 1
weight colon = 1

abbrev pub weights : List Lexeme → ℕ
weights [] = 0
weights (l ∷ ls) = weight l + weights ls

-- the bytes that a mode passes over before the next lexeme
abbrev passed : Mode → List ℕ → ℕ
passed between xs = 0
passed in_word xs = run xs
passed in_string xs = span in_string xs
passed in_escape xs = span in_escape xs

chosen : (n : ℕ) (b : Bool) (x y : Lexeme) → weight x ≤ n → weight y ≤ n → weight (cond b x y) ≤ n
chosen n true x y p q = p
chosen n false x y p q = q

operator_weight : (x : ℕ) → weight (operator_lexeme x) ≤ 1
operator_weight x =
    chosen 1 (x == 123) _ _ (omega arith)
    (chosen 1 (x == 125) _ _ (omega arith)
    (chosen 1 (x == 91) _ _ (omega arith) (chosen 1 (x == 93) _ _ (omega arith)
    (chosen 1 (x == 44) _ _ (omega arith) (omega arith)))))

string_weight : (xs : List ℕ) (o : Option (List ℕ)) → AtMost (0 + span in_string xs) o
    → length (token_text (string_token o)) ≤ 1 + span in_string xs
string_weight xs None h = omega arith
string_weight xs (Some s) h = omega (arith, length-append (escape s) (34 ∷ []))

-- the same of one byte of a class
abbrev passed_byte : Mode → Class → List ℕ → ℕ
passed_byte between c xs = 0
passed_byte in_word c xs = run_byte c (run xs)
passed_byte in_string c xs = span_byte in_string c (λ next. span next xs)
passed_byte in_escape c xs = span_byte in_escape c (λ next. span next xs)

word_weight : (x : ℕ) (xs : List ℕ) → class x ≡ other
    → length (token_text (word (x ∷ xs))) ≤ 1 + run xs
unfolding Within
word_weight x xs is = let fits = word_within (x ∷ xs) in let same : run (x ∷ xs) ≡ 1 + run xs =
    ap (λ c. run_byte c (run xs)) is in omega (arith, fits, same)

abbrev Later : List ℕ → Type 0
Later xs = (m : Mode) → weights (lex m xs) + passed m xs ≤ length xs

step : (m : Mode) (c : Class) (x : ℕ) (xs : List ℕ) → class x ≡ c → Later xs
    → weights (lex_byte m c x xs (λ next. lex next xs)) + passed_byte m c xs ≤ 1 + length xs
step between quote x xs is later =
    omega (arith, string_weight xs (content plain xs) (content-escaped plain xs), later in_string)
step between backslash x xs is later = omega (arith, later in_word)
step between operator x xs is later = omega (arith, operator_weight x, later between)
step between space x xs is later = omega (arith, later between)
step between other x xs is later = omega (arith, word_weight x xs is, later in_word)
step in_word quote x xs is later = omega (arith, later in_word)
step in_word backslash x xs is later = omega (arith, later in_word)
step in_word operator x xs is later = omega (arith, operator_weight x, later between)
step in_word space x xs is later = omega (arith, later between)
step in_word other x xs is later = omega (arith, later in_word)
step in_string quote x xs is later = omega (arith, later between)
step in_string backslash x xs is later = omega (arith, later in_escape)
step in_string operator x xs is later = omega (arith, later in_string)
step in_string space x xs is later = omega (arith, later in_string)
step in_string other x xs is later = omega (arith, later in_string)
step in_escape c x xs is later = omega (arith, later in_string)

whole : (m : Mode) (x : ℕ) (xs : List ℕ) → passed m (x ∷ xs) ≡ passed_byte m (class x) xs
unfolding span
whole between x xs = refl
whole in_word x xs = refl
whole in_string x xs = refl
whole in_escape x xs = refl

nothing : (m : Mode) → passed m [] ≡ 0
unfolding span
nothing between = refl
nothing in_word = refl
nothing in_string = refl
nothing in_escape = refl

pub lexed : (xs : List ℕ) (m : Mode) → weights (lex m xs) + passed m xs ≤ length xs
unfolding lex
lexed [] m = omega (arith, nothing m)
lexed (x ∷ xs) m = omega (arith, step m (class x) x xs refl (lexed xs), whole m x xs)
