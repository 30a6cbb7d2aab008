use Rattle.std.proofs.Common.{ℕ, List, get_or, subst, refl}
use Rattle.std.proofs.lemmas.List.{take_all}
use Rattle.dx_case.specs.Numbers.{IsMask}
use Rattle.dx_case.proofs.Masks.{mask_none, mask_more}
use Rattle.dx_case.proofs.numbers.mask_of.Goals as goal

pub loop-number-init : goal.loop-number-init
loop-number-init c = mask_none

pub loop-number-preserved : goal.loop-number-preserved
loop-number-preserved c =
    let numbers = c.args.numbers.now in
    let i = c.loop-number.number-index in
    let x = get_or numbers i 0 in
    let l = c.loop-number-test.true in
    mask_more c.loop-number.mask x 0 numbers i l refl c.loop-number.invariant

pub returns : goal.returns
returns c =
    let P : List ℕ → Type 0 = IsMask c.loop-number.mask in
    subst P (take_all c.loop-number.number-index c.args.numbers.now c.loop-number-test.false)
    c.loop-number.invariant
