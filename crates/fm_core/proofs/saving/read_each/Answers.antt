use Rattle.std.proofs.Common.{◌≡◌, ◌+◌, ◌++◌, ◌∷◌, [], ◌∙◌, ap, sym, subst, length, length-append}
use Rattle.std.proofs.Common.{arith}
use Rattle.std.proofs.lemmas.Result.{err_from_is_err_and}
use Rattle.std.specs.List.{AllByRecursion}
use Rattle.std.specs.Prelude.{flat_map}
use Rattle.fm_core.specs.Counts.{count_bytes}
use Rattle.fm_core.specs.Loading.{IsKept}
use Rattle.fm_core.proofs.Decoding.{none_read, read_more, kept_more, bytes_more}
use Rattle.fm_core.proofs.saving.read_each.Goals as goal

pub returns-in_err-read_one-clause-bad : goal.returns-in_err-read_one-clause-bad
returns-in_err-read_one-clause-bad c =
    let p = err_from_is_err_and c.from_residual.result c.from_residual.ensures.1 in
    let size : length c.loop-i.counts.items ≡ c.loop-i._i = c.loop-i.invariant.0 in
    rw (p.1, p.2)
    (λ bad. none_read c.args.input.now c.loop-i.input c.loop-i.counts.items c.args.many
    c.loop-i.invariant.1 c.loop-i.invariant.2
    (omega (arith, c.loop-i-test.true)) (c.in_err-read_one.ensures.bad bad))

pub loop-i-preserved : goal.loop-i-preserved
loop-i-preserved c =
    let size : length c.loop-i.counts.items ≡ c.loop-i._i = c.loop-i.invariant.0 in
    let items = c.in_ok-push.ensures.items in (
      ap length items ∙ length-append c.loop-i.counts.items (c.in_ok-read_one.field-0 ∷ [])
          ∙ ap (λ n. n + 1) size,
      subst (λ ys. c.args.input.now ≡ flat_map count_bytes ys ++ c.read_one.new.input) (sym items)
          (read_more c.args.input.now c.loop-i.input c.read_one.new.input c.loop-i.counts.items
          c.in_ok-read_one.field-0 c.loop-i.invariant.1
          c.in_ok-read_one.ensures.read),
      subst (AllByRecursion IsKept) (sym items)
          (kept_more c.loop-i.counts.items c.in_ok-read_one.field-0 c.loop-i.invariant.2
          c.in_ok-read_one.ensures.kept),
      bytes_more c.loop-i.input c.read_one.new.input c.in_ok-read_one.field-0
          c.in_ok-read_one.ensures.read c.loop-i.invariant.3,
    )
