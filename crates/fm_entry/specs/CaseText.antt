-- The text of a case name: `dx`, the module's number, `/` and the case's number, both decimal
-- without leading zeros.
use Rattle.std.specs.Prelude.{ℕ, ◌^◌, ◌-◌, ◌==◌, ◌++◌, Bool, List, drop, codes, decimal, nat_eq}
use Rattle.std.specs.Prelude.{if◌then◌else◌, Option, None, option_map, option_and_then}
use Rattle.std.specs.List.{before_first, after_first, starts_with}
use Rattle.fm_entry.specs.declared.case_name.CaseName.{CaseName}
use Rattle.fm_bytes.specs.Decimals.{numeral_within}

-- the text of a case name
abbrev pub case_text : CaseName → List ℕ
case_text name = codes "dx" ++ (decimal name.module ++ (codes "/" ++ decimal name.case))

abbrev pub is_slash : ℕ → Bool
is_slash b = b == 47

-- the case name of two numbers, where both are there
abbrev pub case_of : Option ℕ → Option ℕ → Option CaseName
case_of m n = option_and_then (λ m. option_map (λ n. record { «module» = m; case = n }) n) m

-- the case name of what follows `dx`; where no slash stands, nothing stands for the case's number
unfoldable pub case_numbers : List ℕ → Option CaseName
case_numbers text =
    case_of (numeral_within 7 (before_first is_slash text))
    (numeral_within (2 ^ 63 - 1) (after_first is_slash text))

-- the case name that a text is: a module below 8 and a case below 2^63
unfoldable pub case_named : List ℕ → Option CaseName
case_named text = if starts_with nat_eq text (codes "dx") then case_numbers (drop 2 text) else None
