-- Decimal digits, one after the other.
use Rattle.std.proofs.Common.{◌≡◌, ℕ, ◌+◌, ◌-◌, ◌*◌, ◌<◌, ◌≤◌, ◌∷◌, [], List, true, false}
use Rattle.std.proofs.Common.{cond, length, refl, sym, ◌∙◌, ap, subst, arith, drop, drop-cons}
use Rattle.std.proofs.Common.{add-one, nat_lt, nat_le, get_or, Some, None}
use Rattle.std.specs.List.{list_all}
use Rattle.std.specs.Str.Parse.{digits_value_after}
use Rattle.std.specs.Char.{is_ascii_digit, digit_value}
use Rattle.std.proofs.lemmas.Bool.Decides.{nat_tests}
use Rattle.std.proofs.lemmas.List.Sums.{AllPass-from_list_all}
use Rattle.fm_bytes.specs.Decimals.{are_digits, number_of, within}
use Rattle.fm_bytes.proofs.Booleans.{and_parts}

-- more digits make no number less
pub value_grows : (n : ℕ) (digits : List ℕ) → n ≤ digits_value_after 10 n digits
value_grows n [] = omega arith
value_grows n (d ∷ ds) = omega (arith, value_grows (n * 10 + digit_value d) ds)

-- a text of digits has only digits
pub text_digit : (text : List ℕ) (i : ℕ) → are_digits text ≡ true → i < length text
    → is_ascii_digit (get_or text i 0) ≡ true
text_digit text i is below =
    AllPass-from_list_all is_ascii_digit text
    (and_parts (nat_lt 0 (length text)) (list_all is_ascii_digit text) is).1 i 0 below

within_none : (most n : ℕ) → within most n ≡ None → most < n
within_none most n none =
    elim (nat_le n most) as (λ t. nat_le n most ≡ t → cond t (Some n) None ≡ None → most < n) [
      | true ↦ λ e some. cc
      | false ↦ λ e same. grind (arith, nat_tests)
    ] refl none

not_within : (most n : ℕ) → most < n → nat_le n most ≡ false
not_within most n past = grind (arith, nat_tests)

-- a number that passes the limit on the way is past it, whatever digits follow
pub number_stops : (most : ℕ) (text : List ℕ) (n i : ℕ) → i < length text
    → digits_value_after 10 0 text ≡ digits_value_after 10 n (drop i text)
    → within most (n * 10 + digit_value (get_or text i 0)) ≡ None
    → None ≡ within most (number_of text)
number_stops most text n i below so_far none =
    let next = n * 10 + digit_value (get_or text i 0) in
    let more : drop i text ≡ get_or text i 0 ∷ drop (i + 1) text =
    rw add-one (drop-cons text i 0 below) in
    let all : digits_value_after 10 0 text ≡ digits_value_after 10 next (drop (i + 1) text) =
    so_far ∙ ap (digits_value_after 10 n) more in
    let past : most < digits_value_after 10 0 text =
    subst (λ m. most < m) (sym all)
    (omega (arith, value_grows next (drop (i + 1) text), within_none most next none)) in
    sym (ap (λ t. cond t (Some (digits_value_after 10 0 text)) None)
    (not_within most (digits_value_after 10 0 text) past))

-- what a digit says
pub digit_says : (d : ℕ) → is_ascii_digit d ≡ true → digit_value d ≡ d - 48
digit_says d is = grind (arith, nat_tests)
