use Rattle.std.proofs.Common.{sym, arith, inl, inr}
use Rattle.ev_incidence.proofs.Ranked.{most_more}
use Rattle.ev_incidence.proofs.ranks.most_of.Goals as goal
use Rattle.ev_incidence.proofs.ranks.most_of.Goals.{then-most-value, else-most-value}

pub loop-number-preserved : goal.loop-number-preserved
loop-number-preserved c =
    let ns = c.args.numbers.now in
    let vs = c.args.values.now in
    let i = c.loop-number.number-index in
    let v = c.number_at-value.result in
    let e = sym c.number_at-value.ensures in
    elim c.if-most-value.branch [
      | then-most-value w ↦ most_more ns vs i c.loop-number.most v c.if-most-value.most
          (omega arith) c.loop-number.invariant e (omega arith) (omega arith) (omega arith)
          (inr w.most-is)
      | else-most-value w ↦ most_more ns vs i c.loop-number.most v c.if-most-value.most
          (omega arith) c.loop-number.invariant e (omega arith) (omega arith) (omega arith)
          (inl w.most-is)
    ]
