-- The rows of a module are its open cases.
use Rattle.std.proofs.Common.{◌≡◌, ◌++◌, OnOk, ◌∙◌, subst}
use Rattle.dx_engine.specs.Standing.{state_of}
use Rattle.fm_conclude.proofs.OpenCases.{rows_are}
use Rattle.fm_conclude.proofs.open_cases.push_open_reports.Goals as goal

pub returns : goal.returns
returns c =
    subst (λ l. OnOk c.push_rows.result (c.push_rows.new.cases.items
    ≡ c.args.cases.now.items ++ l))
    (rows_are c.args.diagnoser.now.rules.own (state_of c.args.diagnoser.now.standing).open_cases
    c.deref.result.now (c.deref.ensures.value ∙ c.in_ok-rows.ensures)) c.push_rows.ensures
