use Rattle.std.proofs.Common.{◌≡◌, ◌<◌, ◌≤◌, ◌∙◌, ap, sym, subst, length, arith}
use Rattle.std.proofs.lemmas.Result.{err_from_is_err_and}
use Rattle.std.specs.Prelude.{◌&&◌, nat_le, ◌^◌}
use Rattle.fm_bytes.specs.Numbers.{AllBytes}
use Rattle.fm_bytes.specs.Reading.{number_from}
use Rattle.fm_core.specs.Counts.{is_ordered, total_of}
use Rattle.fm_core.proofs.Decoding.{misspelled, no_header, no_each, no_rest, not_lawful}
use Rattle.fm_core.proofs.Decoding.{read_lawful, read_same}
use Rattle.fm_core.proofs.saving.read_counts.Goals as goal

pub returns-in_err-many-clause-bad : goal.returns-in_err-many-clause-bad
returns-in_err-many-clause-bad c =
    let p = err_from_is_err_and c.from_residual.result c.from_residual.ensures.1 in
    rw (p.1, p.2)
    (λ bad. no_header c.args.bytes.now
    (ap (number_from 8) (sym c.new-input.ensures)
    ∙ c.in_err-many.ensures.err (misspelled c.in_err-many.field-0.0 bad)))

pub returns-in_err-counts-clause-bad : goal.returns-in_err-counts-clause-bad
returns-in_err-counts-clause-bad c =
    let p = err_from_is_err_and c.from_residual-in_err-counts.result
    c.from_residual-in_err-counts.ensures.1 in
    rw (p.1, p.2)
    (λ bad. no_each c.args.bytes.now c.take_u64.new.self c.in_ok-many.many
    (ap (number_from 8) (sym c.new-input.ensures) ∙ c.in_ok-many.ensures.ok)
    (c.in_err-counts.ensures.bad bad))

pub returns-then-left-gt0-clause-bad : goal.returns-then-left-gt0-clause-bad
returns-then-left-gt0-clause-bad c = λ bad.
    no_rest c.args.bytes.now c.take_u64.new.self c.read_each.new.input c.in_ok-many.many
    c.in_ok-counts.counts.items
    (ap (number_from 8) (sym c.new-input.ensures) ∙ c.in_ok-many.ensures.ok)
    c.in_ok-counts.ensures.many c.in_ok-counts.ensures.read
    c.in_ok-counts.ensures.each (subst (λ n. 0 < n) c.left.ensures.left c.if-left-gt0.true)

pub returns-then-are_lawful-clause-lawful : goal.returns-then-are_lawful-clause-lawful
returns-then-are_lawful-clause-lawful c =
    read_lawful c.in_ok-counts.counts.items c.in_ok-counts.ensures.each
    (ap (λ xs. is_ordered xs && nat_le (total_of xs) (2 ^ 46)) (sym c.deref.ensures.value)
    ∙ sym c.are_lawful.ensures ∙ c.if-are_lawful.true)

pub returns-then-are_lawful-clause-same : goal.returns-then-are_lawful-clause-same
returns-then-are_lawful-clause-same c =
    let none : c.left.result ≤ 0 = c.if-left-gt0.false in
    let at : c.left.result ≡ length c.read_each.new.input = c.left.ensures.left in
    read_same c.args.bytes.now c.take_u64.new.self c.read_each.new.input c.in_ok-many.many
    c.in_ok-counts.counts.items
    (subst AllBytes c.new-input.ensures c.left-whole.ensures.bytes)
    (ap (number_from 8) (sym c.new-input.ensures) ∙ c.in_ok-many.ensures.ok)
    c.in_ok-counts.ensures.many c.in_ok-counts.ensures.read
    (omega arith)

pub returns-else-are_lawful-clause-bad : goal.returns-else-are_lawful-clause-bad
returns-else-are_lawful-clause-bad c = λ bad.
    not_lawful c.args.bytes.now c.take_u64.new.self c.read_each.new.input c.in_ok-many.many
    c.in_ok-counts.counts.items
    (ap (number_from 8) (sym c.new-input.ensures) ∙ c.in_ok-many.ensures.ok)
    c.in_ok-counts.ensures.many c.in_ok-counts.ensures.read
    c.in_ok-counts.ensures.each
    (ap (λ xs. is_ordered xs && nat_le (total_of xs) (2 ^ 46)) (sym c.deref.ensures.value)
    ∙ sym c.are_lawful.ensures ∙ c.if-are_lawful.false)
