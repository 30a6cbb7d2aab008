use Rattle.std.proofs.Common.{inl, inr, refl, rules, Some, []}
use Rattle.std.proofs.lemmas.Result.{err_from_is_err_and}
use Rattle.fm_answers.specs.StreamsAt.{SourceAt}
use Rattle.fm_top.proofs.RepairDoing.{settled_from}
use Rattle.fm_top.proofs.TasksDone.{generate_did}
use Rattle.fm_top.proofs.generating.generate.Goals as goal

-- a source of no bytes
unread : SourceAt
unread = record { left = Some []; failures = 0 }

pub returns-clause-ran : goal.returns-clause-ran
returns-clause-ran g c =
    let did = generate_did _ c.in_ok-done.done c.in-Concluded.conclusion unread unread _ _ _ _
    (search rules) c.in_ok-done.ensures.ran in
    inr (record {
      conclusion = c.in-Concluded.conclusion;
      store = did.1;
      settled = settled_from _ _ _ _ _ _ _ c.settle.result did.0 c.settle.ensures.ends;
    })

pub returns-in_err-done-clause-ran : goal.returns-in_err-done-clause-ran
returns-in_err-done-clause-ran g c =
    let p = err_from_is_err_and c.from_residual.result c.from_residual.ensures.1 in
    rw (p.1, p.2) (inl (record {
      stop = c.in_err-done.field-0.0;
      told = refl;
      store = c.in_err-done.ensures.ran.1;
      unsaid = c.in_err-done.ensures.ran.0;
      unmoved = refl;
    }))
