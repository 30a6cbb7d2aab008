-- A string that was read is printed in no more bytes than it had.
use Rattle.std.proofs.Common.{◌≡◌, ℕ, ◌+◌, ◌/◌, ◌≤◌, Bool, true, false, cond, ◌&&◌, ◌||◌, ◌==◌}
use Rattle.std.proofs.Common.{nat_lt, List, [], ◌∷◌, ◌++◌, length, Option, Some, None}
use Rattle.std.proofs.Common.{option_and_then, IfSome, refl, sym, ap, subst, ◌∙◌, arith}
use Rattle.std.proofs.lemmas.Bool.{false≢true, eqb-true, and_parts}
use Rattle.std.proofs.lemmas.Bool.Decides.{nat_tests}
use Rattle.std.proofs.lemmas.List.{length-append}
use Rattle.std.proofs.lemmas.Option.{cond_some}
use Rattle.std.specs.Prelude.{⊤}
use Rattle.std.specs.Char.{is_digit, encode_utf8}
use lib.Utf8.{next}
use Rattle.json.specs.Text.{code_unit, short_escape, is_high_surrogate, is_low_surrogate}
use Rattle.json.specs.Text.{surrogate_pair, Within, plain, after_backslash, after_u, after_high}
use Rattle.json.specs.Text.{prepend, content}
use Rattle.json.specs.Word.{is_operator, is_space}
use Rattle.json.specs.Lex.{quote, backslash, operator, space, other, Mode, in_string, in_escape}
use Rattle.json.specs.Align.{span_byte, span}
use Rattle.json.specs.Print.{escape_letter, escape_byte, escape}

-- ---- the escapes

pub chosen : {A : Type 0} (P : A → Type 0) (b : Bool) (x y : A) → (b ≡ true → P x)
    → (b ≡ false → P y) → P (cond b x y)
chosen P true x y f g = f refl
chosen P false x y f g = g refl

abbrev Short : ℕ → List ℕ → Type 0
Short n s = length s ≤ n

-- a byte that stands for itself, by its three tests
itself : (x : ℕ) → (nat_lt 0 (escape_letter x)) ≡ false → nat_lt x 32 ≡ false
    → Short 1 (escape_byte x)
unfolding escape_byte
itself x e l =
    chosen (Short 1) (nat_lt 0 (escape_letter x)) _ _ (λ t. absurd (false≢true (sym e ∙ t)))
    (λ f. chosen (Short 1) (nat_lt x 32) _ _ (λ t. absurd (false≢true (sym l ∙ t)))
    (λ g. omega arith))

any_byte : (x : ℕ) → Short 6 (escape_byte x)
unfolding escape_byte
any_byte x = chosen (Short 6) (nat_lt 0 (escape_letter x)) _ _ (λ t. omega arith)
    (λ f. chosen (Short 6) (nat_lt x 32) _ _ (λ t. omega arith) (λ g. omega arith))

plain_byte : (x : ℕ) → (x == 34) ≡ false → (x == 92) ≡ false → nat_lt x 32 ≡ false
    → Short 1 (escape_byte x)
plain_byte x q b l = itself x (grind (arith, nat_tests, q, b, l)) l

high_byte : (x : ℕ) → 128 ≤ x → Short 1 (escape_byte x)
high_byte x h = plain_byte x (grind (arith, nat_tests)) (grind (arith, nat_tests))
    (grind (arith, nat_tests))

escape_append : (a s : List ℕ) → length (escape (a ++ s)) ≡ length (escape a) + length (escape s)
escape_append [] s = omega arith
escape_append (x ∷ a) s =
    omega (
      arith,
      escape_append a s,
      length-append (escape_byte x) (escape (a ++ s)),
      length-append (escape_byte x) (escape a),
    )

-- bytes past ASCII stand for themselves
abbrev AreHigh : List ℕ → Type 0
AreHigh [] = ⊤
AreHigh (x ∷ xs) = (128 ≤ x) × AreHigh xs

high_bytes : (xs : List ℕ) → AreHigh xs → Short (length xs) (escape xs)
high_bytes [] h = omega arith
high_bytes (x ∷ xs) h =
    omega (arith, high_byte x h.0, high_bytes xs h.1, length-append (escape_byte x) (escape xs))

abbrev Fits : List ℕ → Type 0
Fits s = length (escape s) ≤ 6

two : (a b : ℕ) → 128 ≤ a → 128 ≤ b → Fits (a ∷ b ∷ [])
two a b p q = let h = high_bytes (a ∷ b ∷ []) (p, (q, tt)) in omega (arith, h)

three : (a b c : ℕ) → 128 ≤ a → 128 ≤ b → 128 ≤ c → Fits (a ∷ b ∷ c ∷ [])
three a b c p q r = let h = high_bytes (a ∷ b ∷ c ∷ []) (p, (q, (r, tt))) in omega (arith, h)

four : (a b c d : ℕ) → 128 ≤ a → 128 ≤ b → 128 ≤ c → 128 ≤ d → Fits (a ∷ b ∷ c ∷ d ∷ [])
four a b c d p q r s = let h = high_bytes (a ∷ b ∷ c ∷ d ∷ []) (p, (q, (r, (s, tt)))) in
    omega (arith, h)

-- the bytes of a character
encoded : (u : ℕ) → Fits (encode_utf8 u)
unfolding encode_utf8
encoded u =
    chosen Fits (nat_lt u 128) (u ∷ []) _
    (λ e. omega (arith, any_byte u, length-append (escape_byte u) []))
    (λ e. chosen Fits (nat_lt u 2048) ((192 + u / 64) ∷ next u ∷ []) _
    (λ f. two (192 + u / 64) (next u) (omega arith) (omega arith))
    (λ f. chosen Fits (nat_lt u 65536) ((224 + u / 4096) ∷ next (u / 64) ∷ next u ∷ []) _
    (λ g. three (224 + u / 4096) (next (u / 64)) (next u) (omega arith) (omega arith)
    (omega arith))
    (λ g. four (240 + u / 262144) (next (u / 4096)) (next (u / 64)) (next u) (omega arith)
    (omega arith) (omega arith) (omega arith))))

abbrev IsShort : ℕ → Type 0
IsShort c = Short 2 (escape_byte c)

quote_short : IsShort 34
unfolding escape_byte
quote_short = omega arith

backslash_short : IsShort 92
unfolding escape_byte
backslash_short = omega arith

slash_short : IsShort 47
unfolding escape_byte
slash_short = omega arith

backspace_short : IsShort 8
unfolding escape_byte
backspace_short = omega arith

feed_short : IsShort 12
unfolding escape_byte
feed_short = omega arith

newline_short : IsShort 10
unfolding escape_byte
newline_short = omega arith

return_short : IsShort 13
unfolding escape_byte
return_short = omega arith

tab_short : IsShort 9
unfolding escape_byte
tab_short = omega arith

same_short : (x c : ℕ) → IsShort c → (x == c) ≡ true → IsShort x
same_short x c h e = subst IsShort (sym (eqb-true x c e)) h

named : (x : ℕ) (a b c : Bool) → (a ≡ true → IsShort x) → (b ≡ true → IsShort x)
    → (c ≡ true → IsShort x) → (a || b || c) ≡ true → IsShort x
named x true b c f g h e = f refl
named x false true c f g h e = g refl
named x false false c f g h e = h e

unfoldable Shown : Option ℕ → Type 0
Shown o = IfSome o IsShort

shown : (c : ℕ) → IsShort c → Shown (Some c)
unfolding Shown
shown c h = h

unshown : (o : Option ℕ) (c : ℕ) → Shown o → o ≡ Some c → IsShort c
unfolding Shown
unshown o c h e = subst (λ (o : Option ℕ). IfSome o IsShort) e h

shown_none : Shown None
unfolding Shown
shown_none = tt

letter : (x c d : ℕ) (o : Option ℕ) → IsShort d → Shown o → Shown (cond (x == c) (Some d) o)
letter x c d o short h = chosen Shown (x == c) (Some d) o (λ t. shown d short) (λ f. h)

-- what a backslash and one byte stand for
short_escapes : (x : ℕ) → Shown (short_escape x)
unfolding short_escape
short_escapes x =
    chosen Shown ((x == 34) || (x == 92) || (x == 47)) (Some x) _
    (λ e. shown x (named x (x == 34) (x == 92) (x == 47) (same_short x 34 quote_short)
    (same_short x 92 backslash_short) (same_short x 47 slash_short) e))
    (λ e. letter x 98 8 _ backspace_short
    (letter x 102 12 _ feed_short
    (letter x 110 10 _ newline_short
    (letter x 114 13 _ return_short (letter x 116 9 None tab_short shown_none)))))

-- ---- a string and its text

-- the printed text and its closing quote, where there is one
abbrev pub AtMost : ℕ → Option (List ℕ) → Type 0
AtMost n None = ⊤
AtMost n (Some s) = length (escape s) + 1 ≤ n

abbrev mode : Within → Mode
mode plain = in_string
mode after_backslash = in_escape
mode after_u = in_string
mode (after_high h) = in_string

-- the bytes of an escape that were passed
abbrev passed : Within → ℕ
passed plain = 0
passed after_backslash = 1
passed after_u = 2
passed (after_high h) = 6

both : (n : ℕ) (b : Bool) (x y : Option (List ℕ)) → (b ≡ true → AtMost n x)
    → (b ≡ false → AtMost n y) → AtMost n (cond b x y)
both n true x y f g = f refl
both n false x y f g = g refl

then : (n : ℕ) (f : ℕ → Option (List ℕ)) (o : Option ℕ) → ((u : ℕ) → o ≡ Some u → AtMost n (f u))
    → AtMost n (option_and_then f o)
then n f None h = tt
then n f (Some u) h = h u refl

more : (n m : ℕ) (r : Option (List ℕ)) → AtMost m r → m ≤ n → AtMost n r
more n m None h le = tt
more n m (Some s) h le = omega arith

longer : (n m : ℕ) (a : List ℕ) (r : Option (List ℕ)) → AtMost m r → length (escape a) + m ≤ n
    → AtMost n (prepend a r)
longer n m a None h le = tt
longer n m a (Some s) h le = omega (arith, escape_append a s)

passes : (o s : Bool) (k : Mode → ℕ)
    → span_byte in_string (cond o operator (cond s space other)) k ≡ 1 + k in_string
passes true s k = refl
passes false true k = refl
passes false false k = refl

span_quote : (x : ℕ) (xs : List ℕ) → (x == 34) ≡ true → span in_string (x ∷ xs) ≡ 1
unfolding span
span_quote x xs q = ap (λ y. span in_string (y ∷ xs)) (eqb-true x 34 q)

span_plain : (x : ℕ) (xs : List ℕ) → (x == 34) ≡ false → (x == 92) ≡ false
    → span in_string (x ∷ xs) ≡ 1 + span in_string xs
unfolding span
span_plain x xs q b =
    (λ i. span_byte in_string
    (cond (q i) quote (cond (b i) backslash
    (cond (is_operator x) operator (cond (is_space x) space other)))) (λ n. span n xs))
    ∙ passes (is_operator x) (is_space x) (λ n. span n xs)

span_backslash : (x : ℕ) (xs : List ℕ) → (x == 92) ≡ true
    → span in_string (x ∷ xs) ≡ 1 + span in_escape xs
unfolding span
span_backslash x xs b = ap (λ y. span in_string (y ∷ xs)) (eqb-true x 92 b)

span_escape : (x : ℕ) (xs : List ℕ) → span in_escape (x ∷ xs) ≡ 1 + span in_string xs
unfolding span
span_escape x xs = refl

not_this : (c x : ℕ) (t : Bool) → (t ≡ true → x ≡ c) → is_digit c 16 ≡ false → is_digit x 16 ≡ true
    → t ≡ false
not_this c x false e never h = refl
not_this c x true e never h =
    absurd (false≢true (sym never ∙ ap (λ y. is_digit y 16) (sym (e refl)) ∙ h))

span_hex : (x : ℕ) (xs : List ℕ) → is_digit x 16 ≡ true
    → span in_string (x ∷ xs) ≡ 1 + span in_string xs
span_hex x xs h = span_plain x xs (not_this 34 x (x == 34) (eqb-true x 34) refl h)
    (not_this 92 x (x == 92) (eqb-true x 92) refl h)

span_unit : (a b c d u : ℕ) (xs : List ℕ) → code_unit a b c d ≡ Some u
    → span in_string (a ∷ b ∷ c ∷ d ∷ xs) ≡ 4 + span in_string xs
unfolding code_unit
span_unit a b c d u xs h =
    let p = and_parts (is_digit a 16 && is_digit b 16 && is_digit c 16) (is_digit d 16)
    (cond_some _ _ u h).0 in
    let q = and_parts (is_digit a 16 && is_digit b 16) (is_digit c 16) p.0 in
    let r = and_parts (is_digit a 16) (is_digit b 16) q.0 in
    omega (
      arith,
      span_hex a (b ∷ c ∷ d ∷ xs) r.0,
      span_hex b (c ∷ d ∷ xs) r.1,
      span_hex c (d ∷ xs) q.1,
      span_hex d xs p.1,
    )

one : (x : ℕ) → length (escape (x ∷ [])) ≡ length (escape_byte x)
one x = omega (arith, length-append (escape_byte x) [])

pub content-escaped : (w : Within) (xs : List ℕ)
    → AtMost (passed w + span (mode w) xs) (content w xs)
unfolding content
content-escaped plain [] = tt
content-escaped plain (x ∷ xs) =
    let n = 0 + span in_string (x ∷ xs) in
    both n (x == 34) _ _ (λ q. omega (arith, span_quote x xs q))
    (λ q. both n (x == 92) _ _
    (λ b. more n _ _ (content-escaped after_backslash xs)
    (omega (arith, span_backslash x xs b)))
    (λ b. both n (nat_lt x 32) _ _ (λ l. tt)
    (λ l. longer n _ (x ∷ []) _ (content-escaped plain xs)
    (omega (arith, one x, plain_byte x q b l, span_plain x xs q b)))))
content-escaped after_backslash [] = tt
content-escaped after_backslash (x ∷ xs) =
    let n = 1 + span in_escape (x ∷ xs) in
    both n (x == 117) _ _
    (λ u. more n _ _ (content-escaped after_u xs) (omega (arith, span_escape x xs)))
    (λ u. then n _ (short_escape x)
    (λ c f. longer n _ (c ∷ []) _ (content-escaped plain xs)
    (omega (arith, one c, unshown (short_escape x) c (short_escapes x) f, span_escape x xs))))
content-escaped after_u [] = tt
content-escaped after_u (a ∷ []) = tt
content-escaped after_u (a ∷ b ∷ []) = tt
content-escaped after_u (a ∷ b ∷ c ∷ []) = tt
content-escaped after_u (a ∷ b ∷ c ∷ d ∷ xs) =
    let n = 2 + span in_string (a ∷ b ∷ c ∷ d ∷ xs) in
    then n _ (code_unit a b c d)
    (λ u f. both n (is_high_surrogate u) _ _
    (λ h. more n _ _ (content-escaped (after_high u) xs)
    (omega (arith, span_unit a b c d u xs f)))
    (λ h. both n (is_low_surrogate u) _ _ (λ l. tt)
    (λ l. longer n _ (encode_utf8 u) _ (content-escaped plain xs)
    (omega (arith, span_unit a b c d u xs f, encoded u)))))
content-escaped (after_high h) [] = tt
content-escaped (after_high h) (s ∷ []) = tt
content-escaped (after_high h) (s ∷ u ∷ []) = tt
content-escaped (after_high h) (s ∷ u ∷ a ∷ []) = tt
content-escaped (after_high h) (s ∷ u ∷ a ∷ b ∷ []) = tt
content-escaped (after_high h) (s ∷ u ∷ a ∷ b ∷ c ∷ []) = tt
content-escaped (after_high h) (s ∷ u ∷ a ∷ b ∷ c ∷ d ∷ xs) =
    let n = 6 + span in_string (s ∷ u ∷ a ∷ b ∷ c ∷ d ∷ xs) in
    both n ((s == 92) && (u == 117)) _ _
    (λ e. then n _ (code_unit a b c d) (λ v f. both n (is_low_surrogate v) _ _
    (λ y. longer n _ (encode_utf8 (surrogate_pair h v)) _ (content-escaped plain xs)
    (omega (
      arith,
      span_backslash s (u ∷ a ∷ b ∷ c ∷ d ∷ xs) (and_parts _ _ e).0,
      span_escape u (a ∷ b ∷ c ∷ d ∷ xs),
      span_unit a b c d v xs f,
      encoded (surrogate_pair h v),
    ))) (λ y. tt))) (λ e. tt)
