use Rattle.std.proofs.Common.{[], map}
use Rattle.ev_tree.specs.Rule.{view_statement}
use Rattle.ev_parse.specs.Toks.{toks}
use Rattle.ev_parse.proofs.Whole.{file_found, file_one, stop_faults, stop_only}
use Rattle.ev_parse.proofs.parser.parse.Goals as goal

pub returns-in-Ok-clause-found : goal.returns-in-Ok-clause-found
returns-in-Ok-clause-found c =
    file_found (toks c.args.text.now c.args.tokens.now) (map view_statement c.in-Ok.statements, [])
    c.in-Ok.ensures.gives

pub returns-in-Ok-clause-only : goal.returns-in-Ok-clause-only
returns-in-Ok-clause-only c =
    λ rules s. file_one (toks c.args.text.now c.args.tokens.now)
    (map view_statement c.in-Ok.statements, []) rules c.in-Ok.ensures.gives s

pub returns-in-Err-clause-only : goal.returns-in-Err-clause-only
returns-in-Err-clause-only c =
    λ rules s. rw c.fault_at.ensures
    (stop_only c.args.text.now c.args.tokens.now c.in-Err.stop rules c.in-Err.ensures.gives s)

pub returns-in-Err-clause-fault : goal.returns-in-Err-clause-fault
returns-in-Err-clause-fault c =
    rw c.fault_at.ensures
    (stop_faults c.args.text.now c.args.tokens.now c.in-Err.stop c.in-Err.ensures.gives)
