-- The hands have the states of the drained book.
use Rattle.std.proofs.Common.{◌∙◌}
use Rattle.dx_engine.specs.Diagnosers.{diagnosers}
use Rattle.fm_conclude.proofs.OpenCases.{summary_is}
use Rattle.fm_conclude.proofs.summing.write_drained.Goals as goal

pub returns-clause-drained : goal.returns-clause-drained
returns-clause-drained c = λ k at count status.
    summary_is diagnosers c.write_summary.result k c.args.hands.now c.args.entries
    c.deref.result.now c.args.status.now c.args.out.now.items c.write_summary.new.out.items at
    count status (c.deref.ensures.value ∙ c.in_ok-cases.ensures) c.write_summary.ensures.ok
