use Rattle.std.proofs.Common.{◌∙◌, ap, ◌/◌, ◌%◌, arith, ◌++◌}
use Rattle.std.proofs.lemmas.List.{length-set, length-drop, take_all}
use Rattle.fm_text.proofs.Writing.{nine_at_most, twenty_at_most, written}
use Rattle.fm_text.proofs.times.write_time.Goals as goal

pub write_digits-requires : goal.write_digits-requires
write_digits-requires c =
    let short = nine_at_most (c.args.moment % 1000000000) (omega arith) in omega (arith, short)

pub write_digits-begin-requires : goal.write_digits-begin-requires
write_digits-begin-requires c =
    let short = twenty_at_most (c.args.moment / 1000000000) (omega arith) in
    let same = length-set c.write_digits.new.buf 20 46 in
    omega (arith, short, same, c.write_digits.auto.buf)

pub returns-clause-ok : goal.returns-clause-ok
returns-clause-ok c =
    let first = c.write_digits in
    let second = c.write_digits-begin in
    let same = length-set first.new.buf 20 46 in
    let left = length-drop second.result second.new.buf in
    c.in_ok-extend_from_slice.ensures.items
    ∙ ap (λ text. c.args.out.now.items ++ text)
    (take_all _ _ (omega (arith, left, same, second.auto.buf, first.auto.buf))
    ∙ written c.args.moment first.result second.result first.new.buf second.new.buf
    first.ensures.start first.ensures.written first.ensures.before second.ensures.written)
