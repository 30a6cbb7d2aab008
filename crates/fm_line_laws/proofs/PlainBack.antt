-- What is printed in the plain form reads as the entry.
use Rattle.std.proofs.Common.{◌≡◌, ℕ, zero, suc, ◌+◌, ◌-◌, ◌^◌, ◌<◌, ◌≤◌, ◌==◌, ◌++◌, ◌∷◌, []}
use Rattle.std.proofs.Common.{List, false, cond, length, take, Some, None, Err, IsTrue}
use Rattle.std.proofs.Common.{refl, ap, ◌∙◌, arith, nat_lt, get_or, slice_index, length-append}
use Rattle.std.proofs.Common.{decimal}
use Rattle.std.specs.Char.{digit_value}
use Rattle.std.specs.Str.{IsAscii}
use Rattle.std.specs.Str.Parse.{AllDigits}
use Rattle.std.proofs.lemmas.Bool.{lt-ltb, le-ltb, ltb-true, and_right}
use Rattle.std.proofs.lemmas.Bool.Decides.{nat_tests}
use Rattle.std.proofs.lemmas.Fmt.{decimal_is_IsNumeral, decimal_nonempty}
use Rattle.std.proofs.lemmas.List.{get_or-append_right}
use Rattle.std.proofs.lemmas.List.Splits.{slice_split_none, slice_split_at}
use Rattle.std.proofs.lemmas.List.Sums.{AllPass-from_list_all}
use Rattle.std.proofs.lemmas.Str.{is_utf8-from_IsUtf8, IsUtf8-from_ascii}
use Rattle.std.proofs.lemmas.Str.Parse.{digit_from_value}
use Rattle.fm_bytes.proofs.Booleans.{and_parts, and_true}
use Rattle.fm_entry.proofs.Graphic.{is_graphic, graphic}
use Rattle.fm_line.specs.declared.fault.LineFault.TheVariants.{TooLong}
use Rattle.fm_line.specs.Forms.{text_of, words, is_space, without_return, is_json, json_entry}
use Rattle.fm_line.specs.Forms.{content_entry, words_entry, line_entry}
use Rattle.fm_line.specs.Lines.{line_limit}

-- ---- texts without spaces

graphic_at : (w : List ℕ) (k d : ℕ) → IsTrue (graphic w) → k < length w
    → IsTrue (is_graphic (get_or w k d))
graphic_at w k d h below = AllPass-from_list_all is_graphic w h k d below

no_space : (b : ℕ) → IsTrue (is_graphic b) → is_space b ≡ false
no_space b h = let low = ltb-true 32 b (and_parts (nat_lt 32 b) (nat_lt b 128) h).0 in
    grind (arith, nat_tests, low)

no_return : (b : ℕ) → IsTrue (is_graphic b) → (b == 13) ≡ false
no_return b h = let low = ltb-true 32 b (and_parts (nat_lt 32 b) (nat_lt b 128) h).0 in
    grind (arith, nat_tests, low)

words_one : (w : List ℕ) → IsTrue (graphic w) → words w ≡ w ∷ []
unfolding words
words_one w h = slice_split_none is_space w
    (λ k d below. no_space (get_or w k d) (graphic_at w k d h below))

words_more : (w rest : List ℕ) → IsTrue (graphic w) → words (w ++ 32 ∷ rest) ≡ w ∷ words rest
unfolding words
words_more w rest h =
    slice_split_at is_space w 32 rest
    (λ k d below. no_space (get_or w k d) (graphic_at w k d h below)) refl

graphic_ascii : (w : List ℕ) → IsTrue (graphic w) → IsAscii w
graphic_ascii [] h i = omega arith
graphic_ascii (b ∷ bs) h zero =
    ltb-true b 128 (and_parts (nat_lt 32 b) (nat_lt b 128)
    (and_parts (is_graphic b) (graphic bs) h).0).1
graphic_ascii (b ∷ bs) h (suc i) = graphic_ascii bs (and_parts (is_graphic b) (graphic bs) h).1 i

-- a word without spaces is a text
pub text_of_graphic : (w : List ℕ) → IsTrue (graphic w) → text_of w ≡ Some w
unfolding text_of
text_of_graphic w h =
    ap (λ t. cond t (Some w) None) (is_utf8-from_IsUtf8 w (IsUtf8-from_ascii w (graphic_ascii w h)))

-- ---- numbers

digit_graphic : (b : ℕ) → digit_value b < 10 → IsTrue (is_graphic b)
digit_graphic b h =
    let range = digit_from_value b h in
    and_true (nat_lt 32 b) (nat_lt b 128) (lt-ltb 32 b (omega arith)) (lt-ltb b 128 (omega arith))

digits_graphic : (ds : List ℕ) → AllDigits 10 ds → IsTrue (graphic ds)
digits_graphic [] h = refl
digits_graphic (d ∷ ds) h =
    and_true (is_graphic d) (graphic ds) (digit_graphic d h.0) (digits_graphic ds h.1)

pub decimal_graphic : (n : ℕ) → n < 2 ^ 64 → IsTrue (graphic (decimal n))
decimal_graphic n h = digits_graphic (decimal n) (decimal_is_IsNumeral n h).0.1

-- ---- lines

last_is : (front back : List ℕ) → 0 < length back
    → slice_index (front ++ back) (length (front ++ back) - 1) ≡ slice_index back (length back - 1)
last_is front back some =
    let place : length (front ++ back) - 1 ≡ length front + (length back - 1) =
    omega (arith, length-append front back) in
    let rest : length front + (length back - 1) - length front ≡ length back - 1 = omega arith in
    ap (λ n. get_or (front ++ back) n 0) place
    ∙ get_or-append_right front back (length front) (length front + (length back - 1)) 0 refl
    (omega arith)
    ∙ ap (λ n. get_or back n 0) rest

-- a line has bytes, and its last is no carriage return
pub record EndsPlainly (line : List ℕ) : Type 0 where
  pub some : 0 < length line
  pub last : (slice_index line (length line - 1) == 13) ≡ false

pub ends_behind : (front back : List ℕ) → EndsPlainly back → EndsPlainly (front ++ back)
ends_behind front back h =
    record {
      some = omega (arith, length-append front back, h.some);
      last =
          ap (λ b. b == 13) (last_is front back h.some) ∙ h.last;
    }

pub decimal_ends : (n : ℕ) → n < 2 ^ 64 → EndsPlainly (decimal n)
decimal_ends n fits =
    let some : 0 < length (decimal n) = decimal_nonempty n fits in
    record {
      some = some;
      last = no_return (get_or (decimal n) (length (decimal n) - 1) 0)
          (graphic_at (decimal n) (length (decimal n) - 1) 0 (decimal_graphic n fits)
          (omega arith));
    }

-- such a line keeps its last byte
return_kept : (line : List ℕ) → EndsPlainly line → without_return line ≡ line
unfolding without_return
return_kept line h =
    ap (λ t. cond t (take (length line - 1) line) line)
    (and_right (nat_lt 0 (length line)) (slice_index line (length line - 1) == 13) h.last)

-- a line within the limit is what its content says
pub line_is : (line : List ℕ) → length line ≤ line_limit → EndsPlainly line
    → line_entry line ≡ content_entry line
unfolding line_entry
line_is line short h =
    ap (λ t. cond t (Err TooLong) (content_entry (without_return line)))
    (le-ltb line_limit (length line) short) ∙ ap content_entry (return_kept line h)

-- a line in the plain form is what its words say
plain_is : (line : List ℕ) → length line ≤ line_limit → EndsPlainly line → is_json line ≡ false
    → line_entry line ≡ words_entry (words line)
unfolding content_entry
plain_is line short h plain = line_is line short h
    ∙ ap (λ t. cond t (json_entry line) (words_entry (words line))) plain

-- a line of a word and a number
pub two_is : (w : List ℕ) (n : ℕ) → IsTrue (graphic w) → n < 2 ^ 64
    → length (w ++ 32 ∷ decimal n) ≤ line_limit → is_json (w ++ 32 ∷ decimal n) ≡ false
    → line_entry (w ++ 32 ∷ decimal n) ≡ words_entry (w ∷ decimal n ∷ [])
two_is w n hw fits short plain =
    plain_is (w ++ 32 ∷ decimal n) short
    (ends_behind w (32 ∷ decimal n) (ends_behind (32 ∷ []) (decimal n) (decimal_ends n fits)))
    plain
    ∙ ap words_entry (words_more w (decimal n) hw
    ∙ ap (λ ws. w ∷ ws) (words_one (decimal n) (decimal_graphic n fits)))

-- a line of two words and a number
pub three_is : (w b : List ℕ) (n : ℕ) → IsTrue (graphic w) → IsTrue (graphic b) → n < 2 ^ 64
    → length (w ++ 32 ∷ (b ++ 32 ∷ decimal n)) ≤ line_limit
    → is_json (w ++ 32 ∷ (b ++ 32 ∷ decimal n)) ≡ false
    → line_entry (w ++ 32 ∷ (b ++ 32 ∷ decimal n)) ≡ words_entry (w ∷ b ∷ decimal n ∷ [])
three_is w b n hw hb fits short plain =
    plain_is (w ++ 32 ∷ (b ++ 32 ∷ decimal n)) short
    (ends_behind w (32 ∷ (b ++ 32 ∷ decimal n)) (ends_behind (32 ∷ []) (b ++ 32 ∷ decimal n)
    (ends_behind b (32 ∷ decimal n) (ends_behind (32 ∷ []) (decimal n) (decimal_ends n fits)))))
    plain
    ∙ ap words_entry (words_more w (b ++ 32 ∷ decimal n) hw
    ∙ ap (λ ws. w ∷ ws) (words_more b (decimal n) hb
    ∙ ap (λ ws. b ∷ ws) (words_one (decimal n) (decimal_graphic n fits))))

-- a line of three words and a number
pub four_is : (w b c : List ℕ) (n : ℕ) → IsTrue (graphic w) → IsTrue (graphic b)
    → IsTrue (graphic c) → n < 2 ^ 64
    → length (w ++ 32 ∷ (b ++ 32 ∷ (c ++ 32 ∷ decimal n))) ≤ line_limit
    → is_json (w ++ 32 ∷ (b ++ 32 ∷ (c ++ 32 ∷ decimal n))) ≡ false
    → line_entry (w ++ 32 ∷ (b ++ 32 ∷ (c ++ 32 ∷ decimal n)))
    ≡ words_entry (w ∷ b ∷ c ∷ decimal n ∷ [])
four_is w b c n hw hb hc fits short plain =
    plain_is (w ++ 32 ∷ (b ++ 32 ∷ (c ++ 32 ∷ decimal n))) short
    (ends_behind w (32 ∷ (b ++ 32 ∷ (c ++ 32 ∷ decimal n)))
    (ends_behind (32 ∷ []) (b ++ 32 ∷ (c ++ 32 ∷ decimal n))
    (ends_behind b (32 ∷ (c ++ 32 ∷ decimal n)) (ends_behind (32 ∷ []) (c ++ 32 ∷ decimal n)
    (ends_behind c (32 ∷ decimal n) (ends_behind (32 ∷ []) (decimal n) (decimal_ends n fits)))))))
    plain
    ∙ ap words_entry (words_more w (b ++ 32 ∷ (c ++ 32 ∷ decimal n)) hw
    ∙ ap (λ ws. w ∷ ws) (words_more b (c ++ 32 ∷ decimal n) hb
    ∙ ap (λ ws. b ∷ ws) (words_more c (decimal n) hc
    ∙ ap (λ ws. c ∷ ws) (words_one (decimal n) (decimal_graphic n fits)))))
