-- What was printed reads back, since it is no longer than what was read.
use Rattle.fm_line.specs.Sound.{ReadsAsJson}
use Rattle.fm_line_laws.specs.Printing.{LineReadsBack}
use Rattle.fm_line_laws.proofs.Back.{line_back, ok_then}
use Rattle.fm_line_laws.proofs.Lengths.{printed_shortest, printed_within}
use Rattle.fm_line_laws.proofs.printing.print_back.Goals as goal

pub returns-clause-back : goal.returns-clause-back
returns-clause-back c =
    ok_then (ReadsAsJson c.args.entry.now) (LineReadsBack c.args.entry.now) c.print_line.result
    c.print_line.ensures.reads
    (λ said line is. line_back line c.args.entry.now is c.prove_payload.ensures said
    (printed_within line c.args.entry.now is))

pub returns-clause-shortest : goal.returns-clause-shortest
returns-clause-shortest c = printed_shortest c.args.entry.now
