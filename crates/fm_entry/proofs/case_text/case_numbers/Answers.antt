use Rattle.std.proofs.Common.{◌∙◌, ◌+◌, ◌-◌, ◌^◌, sym, ap, take}
use Rattle.fm_entry.specs.CaseText.{case_of}
use Rattle.fm_bytes.specs.Decimals.{numeral_within}
use Rattle.fm_entry.proofs.CaseNumbers.{numbers_at, numbers_none}
use Rattle.fm_entry.proofs.Places.{drop_whole}
use Rattle.fm_entry.proofs.case_text.case_numbers.Goals as goal

pub returns-in_err-at : goal.returns-in_err-at
returns-in_err-at c = c.from_residual.ensures
    ∙ numbers_none c.args.text.now (sym c.slash_place.ensures ∙ c.in_err-at.was)

pub returns : goal.returns
returns c =
    c.case_of.ensures
    ∙ ap (λ r. case_of r c.read_numeral-2.result) c.read_numeral.ensures.value
    ∙ ap (case_of (numeral_within 7 (take c.in_ok-at.at c.args.text.now)))
    (c.read_numeral-2.ensures.value
    ∙ ap (numeral_within (2 ^ 63 - 1)) (drop_whole (c.in_ok-at.at + 1) c.args.text.now))
    ∙ numbers_at c.args.text.now c.in_ok-at.at (sym c.slash_place.ensures ∙ c.in_ok-at.was)
