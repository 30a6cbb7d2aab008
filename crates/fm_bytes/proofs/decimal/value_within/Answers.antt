use Rattle.std.proofs.Common.{◌∙◌, sym}
use Rattle.fm_bytes.proofs.Digits.{text_digit, number_stops}
use Rattle.fm_bytes.proofs.decimal.value_within.Goals as goal

pub with_digit-requires : goal.with_digit-requires
with_digit-requires c = record {
  digit = text_digit c.args.digits.now c.loop-digit.digit-index c.requires c.loop-digit-test.true;
}

pub returns-in_err-number-clause-value : goal.returns-in_err-number-clause-value
returns-in_err-number-clause-value c =
    c.from_residual.ensures
    ∙ number_stops c.args.most c.args.digits.now c.loop-digit.number c.loop-digit.digit-index
    c.loop-digit-test.true c.loop-digit.invariant.0 (sym c.with_digit.ensures ∙ c.in_err-number.was)
