use Rattle.std.proofs.Common.{◌<◌, ◌≤◌, ◌++◌, refl, arith, ap, ◌∙◌}
use Rattle.fm_nv.specs.Data.{Pairs, count}
use Rattle.fm_nv.specs.Spelled.{is_counted, is_pair_name, value_fits, pairs_fit, body_bytes}
use Rattle.fm_bytes.proofs.Booleans.{and_parts}
use Rattle.fm_nv.proofs.Places.{from_zero}
use Rattle.fm_nv.proofs.Steps.{fit_at, push_pair, pushed_all}
use Rattle.fm_nv.proofs.write.+writing.Goals as goal

pub put_pairs-pairs-init : goal.put_pairs-pairs-init
put_pairs-pairs-init t c =
    let all = from_zero c.args.nv.now 0 refl in (
      ap (λ (ps : Pairs). c.args.out.now.items ++ body_bytes ps) all,
      ap pairs_fit all ∙ (and_parts (is_counted c.args.nv.now) _
          c.depth-deep.ensures.spelled.fits).1,
    )

pub put_pairs-put_pair-requires : goal.put_pairs-put_pair-requires
put_pairs-put_pair-requires t c =
    let here : c.pairs.at < count c.args.nv.now =
    omega (arith, c.len-count.ensures.count, c.pairs-test.true) in
    let fit = fit_at c.args.nv.now c.pairs.at here c.pairs.invariant.1 in (
      omega (arith, c.value.ensures.smaller, c.decreases),
      (
        ap is_pair_name c.name_bytes.ensures.name ∙ fit.0,
        ap value_fits c.value.ensures.value
            ∙ fit.1,
      ),
    )

pub put_pairs-pairs-preserved : goal.put_pairs-pairs-preserved
put_pairs-pairs-preserved t c =
    let here : c.pairs.at < count c.args.nv.now =
    omega (arith, c.len-count.ensures.count, c.pairs-test.true) in
    let fit = fit_at c.args.nv.now c.pairs.at here c.pairs.invariant.1 in (
      push_pair c.args.nv.now c.pairs.at _ _ _ _ _ here c.name_bytes.ensures.name
          c.value.ensures.value c.pairs.invariant.0 c.in_ok-put_pair.ensures.ok,
      fit.2,
    )

pub put_pairs-returns : goal.put_pairs-returns
put_pairs-returns t c =
    let past : count c.args.nv.now ≤ c.pairs.at =
    omega (arith, c.len-count.ensures.count, c.pairs-test.false) in
    record { ok = pushed_all c.args.nv.now c.pairs.at _ _ past c.pairs.invariant.0 }
