use Rattle.std.proofs.lemmas.Result.{err_from_is_err_and}
use Rattle.fm_core.proofs.Decoding.{misspelled, no_text, no_class, no_number, no_count, read_count}
use Rattle.fm_core.proofs.saving.read_one.Goals as goal

pub returns-in_err-text-clause-bad : goal.returns-in_err-text-clause-bad
returns-in_err-text-clause-bad c =
    let p = err_from_is_err_and c.from_residual.result c.from_residual.ensures.1 in
    rw (p.1, p.2) (λ bad.
    no_text c.args.input.now
    (c.in_err-text.ensures.err (misspelled c.in_err-text.field-0.0 bad)))

pub returns-in_err-class-clause-bad : goal.returns-in_err-class-clause-bad
returns-in_err-class-clause-bad c =
    let p = err_from_is_err_and c.from_residual-in_err-class.result
    c.from_residual-in_err-class.ensures.1 in
    rw (p.1, p.2) (λ bad. no_class c.args.input.now c.in_ok-text.text.now c.take_short_text.new.self
    c.in_ok-text.ensures.ok (c.in_err-class.ensures.bad bad))

pub returns-in_err-count-clause-bad : goal.returns-in_err-count-clause-bad
returns-in_err-count-clause-bad c =
    let p = err_from_is_err_and c.from_residual-in_err-count.result
    c.from_residual-in_err-count.ensures.1 in
    rw (p.1, p.2)
    (λ bad. no_number c.args.input.now c.in_ok-text.text.now c.take_short_text.new.self
    c.in_ok-text.ensures.ok
    (c.in_err-count.ensures.err (misspelled c.in_err-count.field-0.0 bad)))

pub returns-then-count-eq0-clause-bad : goal.returns-then-count-eq0-clause-bad
returns-then-count-eq0-clause-bad c = λ bad.
    no_count c.args.input.now c.in_ok-text.text.now c.take_short_text.new.self c.take_u64.new.self
    c.in_ok-count.count c.in_ok-text.ensures.ok
    c.in_ok-count.ensures.ok c.if-count-eq0.true

pub returns-clause-read : goal.returns-clause-read
returns-clause-read c =
    rw c.in_ok-class.ensures.same
    (read_count c.args.input.now c.in_ok-text.text.now c.take_short_text.new.self
    c.take_u64.new.self
    c.in_ok-count.count c.requires
    c.left-left.ensures.bytes c.in_ok-text.ensures.ok c.in_ok-count.ensures.ok)
