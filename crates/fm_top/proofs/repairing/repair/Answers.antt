use Rattle.std.proofs.Common.{inl, inr, refl, rules, Some, []}
use Rattle.std.proofs.lemmas.Result.{err_from_is_err_and}
use Rattle.fm_answers.specs.StreamsAt.{SourceAt}
use Rattle.fm_top.proofs.RepairDoing.{settled_from}
use Rattle.fm_top.proofs.TasksDone.{repair_did}
use Rattle.fm_top.proofs.repairing.repair.Goals as goal

-- a source of no bytes
unread : SourceAt
unread = record { left = Some []; failures = 0 }

pub returns-clause-ran : goal.returns-clause-ran
returns-clause-ran g c =
    let did = repair_did _ c.in_ok-done.done c.in-Repaired.repaired unread unread _ _ _ _
    (search rules) c.in_ok-done.ensures.ran in
    inr (record {
      one = c.in-Repaired.repaired;
      store = did.1;
      settled = settled_from _ _ _ _ _ _ _ c.settle_repair.result did.0 c.settle_repair.ensures;
    })

pub returns-in_err-done-clause-ran : goal.returns-in_err-done-clause-ran
returns-in_err-done-clause-ran g c =
    let p = err_from_is_err_and c.from_residual.result c.from_residual.ensures.1 in
    rw (p.1, p.2) (inl (record {
      stop = c.in_err-done.field-0.0;
      told = refl;
      store = c.in_err-done.ensures.ran.1;
      unsaid = c.in_err-done.ensures.ran.0;
      unmoved = refl;
    }))
