-- What a line gives has a spelling, and is no reload.
use Rattle.fm_line.proofs.Spelling.{entry_spelled, entry_no_reload}
use Rattle.fm_line.proofs.read.read_line.Goals as goal

pub returns-clause-spelled : goal.returns-clause-spelled
returns-clause-spelled c =
    entry_spelled c.args.line.now c.in_ok-entry.entry c.in_ok-entry.ensures.ok
    c.prove_payload.ensures

pub returns-clause-no_reload : goal.returns-clause-no_reload
returns-clause-no_reload c =
    entry_no_reload c.args.line.now c.in_ok-entry.entry c.in_ok-entry.ensures.ok
