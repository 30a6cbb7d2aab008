-- The numbers of a case name.
use Rattle.std.proofs.Common.{◌≡◌, ℕ, ◌+◌, ◌-◌, ◌≤◌, ◌^◌, [], List, length, position, Option, Some}
use Rattle.std.proofs.Common.{None, refl, sym, ap, ◌∙◌, arith, take, drop}
use Rattle.std.specs.List.{position_or_len, before_first, after_first}
use Rattle.std.proofs.Math.ListN.{drop_of_length-le}
use Rattle.fm_entry.proofs.Places.{place_is, place_none}
use Rattle.fm_entry.specs.CaseText.{is_slash, case_of, case_numbers}
use Rattle.fm_bytes.specs.Decimals.{numeral_within}

pub numbers_at : (text : List ℕ) (at : ℕ) → position is_slash text ≡ Some at
    → case_of (numeral_within 7 (take at text)) (numeral_within (2 ^ 63 - 1) (drop (at + 1) text))
    ≡ case_numbers text
unfolding case_numbers
numbers_at text at found =
    ap (λ n. case_of (numeral_within 7 (take n text))
    (numeral_within (2 ^ 63 - 1) (drop (n + 1) text))) (sym (place_is is_slash text at found).0)

no_case : (m : Option ℕ) → case_of m None ≡ None
no_case None = refl
no_case (Some m) = refl

pub no_number : numeral_within (2 ^ 63 - 1) [] ≡ None
unfolding numeral_within
no_number = refl

pub numbers_none : (text : List ℕ) → position is_slash text ≡ None → None ≡ case_numbers text
unfolding case_numbers
numbers_none text none =
    let past : length text ≤ position_or_len is_slash text = place_none is_slash text none in
    let rest : after_first is_slash text ≡ [] = drop_of_length-le text (omega arith) in
    sym (ap (λ l. case_of (numeral_within 7 (before_first is_slash text))
    (numeral_within (2 ^ 63 - 1) l)) rest
    ∙ ap (case_of (numeral_within 7 (before_first is_slash text))) no_number
    ∙ no_case (numeral_within 7 (before_first is_slash text)))
