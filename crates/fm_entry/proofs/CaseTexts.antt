-- A text reads as a case name just where it is the text of the case name.
use Rattle.std.proofs.Common.{◌≡◌, ℕ, suc, ◌+◌, ◌-◌, ◌^◌, ◌<◌, ◌≤◌, ◌==◌, ◌++◌, ◌∷◌, [], List, Bool}
use Rattle.std.proofs.Common.{true, false, cond, not, length, take, drop, get_or, codes, decimal}
use Rattle.std.proofs.Common.{nat_eq, nat_lt, Option, Some, None, IfSome, IsTrue, refl, sym, ap}
use Rattle.std.proofs.Common.{◌∙◌, subst, arith}
use Rattle.std.specs.List.{before_first, after_first, position_or_len, list_all, starts_with}
use Rattle.std.specs.Str.Parse.{AllDigits}
use Rattle.std.proofs.Math.Seq.{take-append_seam}
use Rattle.std.proofs.Math.ListN.{drop_of_length-le}
use Rattle.std.proofs.lemmas.Bool.{eqb-true, ltb-true, ltb-false, false≢true}
use Rattle.std.proofs.lemmas.Bool.Decides.{nat_tests}
use Rattle.std.proofs.lemmas.Fmt.{decimal_is_IsNumeral}
use Rattle.std.proofs.lemmas.List.Sums.{split_at_first, passes_at_first}
use Rattle.std.proofs.lemmas.Str.Parse.{digit_from_value}
use Rattle.fm_bytes.proofs.Booleans.{and_parts, and_true}
use Rattle.fm_entry.specs.declared.case_name.CaseName.{CaseName}
use Rattle.fm_entry.specs.CaseText.{case_text, is_slash, case_of, case_numbers, case_named}
use Rattle.fm_bytes.specs.Decimals.{numeral_within}
use Rattle.fm_entry.specs.Entries.{IsCaseName}
use Rattle.fm_entry.proofs.CaseNumbers.{no_number}
use Rattle.fm_bytes.proofs.Numerals.{numeral_back, numeral_spelled}

-- ---- from a case name to its text

abbrev no_slash : ℕ → Bool
no_slash b = not (is_slash b)

slash_at : (xs ys : List ℕ) → IsTrue (list_all no_slash xs)
    → position_or_len is_slash (xs ++ 47 ∷ ys) ≡ length xs
slash_at [] ys h = refl
slash_at (x ∷ xs) ys h =
    let parts = and_parts (no_slash x) (list_all no_slash xs) h in
    let one : position_or_len is_slash (x ∷ (xs ++ 47 ∷ ys))
    ≡ 1 + position_or_len is_slash (xs ++ 47 ∷ ys) =
    ap (λ t. cond t (1 + position_or_len is_slash (xs ++ 47 ∷ ys)) 0) parts.0 in
    omega (arith, one, slash_at xs ys parts.1)

drop_seam : (xs ys : List ℕ) (y : ℕ) → drop (suc (length xs)) (xs ++ y ∷ ys) ≡ ys
drop_seam [] ys y = refl
drop_seam (x ∷ xs) ys y = drop_seam xs ys y

digits_no_slash : (ds : List ℕ) → AllDigits 10 ds → IsTrue (list_all no_slash ds)
digits_no_slash [] h = refl
digits_no_slash (d ∷ ds) h =
    let range = digit_from_value d h.0 in
    let other : (d == 47) ≡ false = grind (arith, nat_tests) in
    and_true (no_slash d) (list_all no_slash ds) (ap not other) (digits_no_slash ds h.1)

numbers_back : (m k : ℕ) → m < 8 → k < 2 ^ 63
    → case_numbers (decimal m ++ 47 ∷ decimal k) ≡ Some (record { «module» = m; case = k })
unfolding case_numbers
numbers_back m k hm hk =
    let free : IsTrue (list_all no_slash (decimal m)) =
    digits_no_slash (decimal m) (decimal_is_IsNumeral m (omega arith)).0.1 in
    let place : position_or_len is_slash (decimal m ++ 47 ∷ decimal k) ≡ length (decimal m) =
    slash_at (decimal m) (decimal k) free in
    let before : before_first is_slash (decimal m ++ 47 ∷ decimal k) ≡ decimal m =
    ap (λ n. take n (decimal m ++ 47 ∷ decimal k)) place
    ∙ take-append_seam (decimal m) (47 ∷ decimal k) in
    let past : position_or_len is_slash (decimal m ++ 47 ∷ decimal k) + 1
    ≡ suc (length (decimal m)) = omega (arith, place) in
    let after : after_first is_slash (decimal m ++ 47 ∷ decimal k) ≡ decimal k =
    ap (λ n. drop n (decimal m ++ 47 ∷ decimal k)) past
    ∙ drop_seam (decimal m) (decimal k) 47 in
    ap (λ l. case_of (numeral_within 7 l)
    (numeral_within (2 ^ 63 - 1) (after_first is_slash (decimal m ++ 47 ∷ decimal k)))) before
    ∙ ap (λ l. case_of (numeral_within 7 (decimal m)) (numeral_within (2 ^ 63 - 1) l)) after
    ∙ ap (λ n. case_of n (numeral_within (2 ^ 63 - 1) (decimal k)))
    (numeral_back 7 m (omega arith) (omega arith))
    ∙ ap (case_of (Some m)) (numeral_back (2 ^ 63 - 1) k (omega arith) (omega arith))

-- the text of a case name reads as the case name
pub case_back : (name : CaseName) → IsCaseName name → case_named (case_text name) ≡ Some name
unfolding case_named
case_back name is = numbers_back name.module name.case is.module_fits is.case_fits

-- ---- from a text to its case name

-- what a case name is, whose text is `dx` and this
abbrev IsBehind : List ℕ → CaseName → Type 0
IsBehind text name = (text ≡ decimal name.module ++ (codes "/" ++ decimal name.case))
    × IsCaseName name

-- two numbers that are there, and the text that has them
pair_spelled : (text before after : List ℕ) (m k : Option ℕ)
    → IfSome m (λ m. (before ≡ decimal m) × (m ≤ 7))
    → IfSome k (λ k. (after ≡ decimal k) × (k ≤ 2 ^ 63 - 1))
    → (IfSome k (λ k. text ≡ before ++ 47 ∷ after))
    → IfSome (case_of m k) (IsBehind text)
pair_spelled text before after None k hm hk cut = tt
pair_spelled text before after (Some m) None hm hk cut = tt
pair_spelled text before after (Some m) (Some k) hm hk cut =
    let small = hm.1 in
    let less = hk.1 in (
      cut ∙ ap (λ l. l ++ 47 ∷ after) hm.0 ∙ ap (λ l. decimal m ++ 47 ∷ l) hk.0,
      record { module_fits = omega arith; case_fits = omega arith },
    )

if_any : {A P : Type 0} (o : Option A) → P → IfSome o (λ _. P)
if_any None h = tt
if_any (Some x) h = h

-- a slash parts the text
slash_cut : (text : List ℕ) → position_or_len is_slash text < length text
    → text ≡ before_first is_slash text ++ 47 ∷ after_first is_slash text
slash_cut text below =
    let slash : get_or text (position_or_len is_slash text) 0 ≡ 47 =
    eqb-true (get_or text (position_or_len is_slash text) 0) 47
    (passes_at_first is_slash text 0 below) in
    split_at_first is_slash text 0 below
    ∙ ap (λ b. before_first is_slash text ++ b ∷ after_first is_slash text) slash

-- where no slash stands, no number does
no_slash_no_number : (text : List ℕ) → length text ≤ position_or_len is_slash text
    → numeral_within (2 ^ 63 - 1) (after_first is_slash text) ≡ None
no_slash_no_number text past =
    ap (numeral_within (2 ^ 63 - 1)) (drop_of_length-le text (omega arith)) ∙ no_number

number_cut : (text : List ℕ)
    → IfSome (numeral_within (2 ^ 63 - 1) (after_first is_slash text))
    (λ _. text ≡ before_first is_slash text ++ 47 ∷ after_first is_slash text)
number_cut text =
    let P : Type 0 = text ≡ before_first is_slash text ++ 47 ∷ after_first is_slash text in
    elim (nat_lt (position_or_len is_slash text) (length text)) as
    (λ t. nat_lt (position_or_len is_slash text) (length text) ≡ t
    → IfSome (numeral_within (2 ^ 63 - 1) (after_first is_slash text)) (λ _. P)) [
      | true ↦ λ e. if_any (numeral_within (2 ^ 63 - 1) (after_first is_slash text))
          (slash_cut text (ltb-true (position_or_len is_slash text) (length text) e))
      | false ↦ λ e. subst (λ o. IfSome o (λ _. P))
          (sym (no_slash_no_number text
          (ltb-false (position_or_len is_slash text) (length text) e))) tt
    ] refl

numbers_spelled : (text : List ℕ) → IfSome (case_numbers text) (IsBehind text)
unfolding case_numbers
numbers_spelled text =
    let before = before_first is_slash text in
    let after = after_first is_slash text in
    pair_spelled text before after (numeral_within 7 before) (numeral_within (2 ^ 63 - 1) after)
    (numeral_spelled 7 before (omega arith)) (numeral_spelled (2 ^ 63 - 1) after (omega arith))
    (number_cut text)

front : (text : List ℕ) → starts_with nat_eq text (codes "dx") ≡ true
    → text ≡ codes "dx" ++ drop 2 text
front [] h = absurd (false≢true h)
front (x ∷ []) h = absurd (false≢true (and_parts _ _ h).1)
front (x ∷ y ∷ text) h =
    let first = and_parts (nat_eq 100 x) _ h in
    let second = and_parts (nat_eq 120 y) _ first.1 in
    let d : 100 ≡ x = eqb-true 100 x first.0 in
    let e : 120 ≡ y = eqb-true 120 y second.0 in
    cc

-- what is said of a text
abbrev IsTextOf : List ℕ → CaseName → Type 0
IsTextOf text name = (text ≡ case_text name) × IsCaseName name

behind_dx : (text : List ℕ) (o : Option CaseName) → text ≡ codes "dx" ++ drop 2 text
    → IfSome o (IsBehind (drop 2 text)) → IfSome o (IsTextOf text)
behind_dx text None begins h = tt
behind_dx text (Some name) begins h = (begins ∙ ap (λ l. codes "dx" ++ l) h.0, h.1)

-- a text that reads as a case name is its text
pub case_spelled : (text : List ℕ)
    → IfSome (case_named text) (λ name. (text ≡ case_text name) × IsCaseName name)
unfolding case_named
case_spelled text =
    elim (starts_with nat_eq text (codes "dx")) as (λ t. starts_with nat_eq text (codes "dx") ≡ t
    → IfSome (cond t (case_numbers (drop 2 text)) None) (IsTextOf text)) [
      | true ↦ λ e. behind_dx text (case_numbers (drop 2 text)) (front text e)
          (numbers_spelled (drop 2 text))
      | false ↦ λ e. tt
    ] refl

-- what is answered as the case name that a text is
pub named_spelled : (text : List ℕ) (answer : Option CaseName) → answer ≡ case_named text
    → IfSome answer (λ name. (text ≡ case_text name) × IsCaseName name)
named_spelled text answer is = subst (λ o. IfSome o (IsTextOf text)) (sym is) (case_spelled text)

pub named_read : (text : List ℕ) (answer : Option CaseName) → answer ≡ case_named text
    → (name : CaseName) → text ≡ case_text name → IsCaseName name → answer ≡ Some name
named_read text answer is name same fits = is ∙ ap case_named same ∙ case_back name fits

-- the answer is the case name that has the text, where one has
pub ruleset named = (named_spelled, named_read)
