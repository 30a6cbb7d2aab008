use Rattle.std.proofs.Common.{map, Ok, Err}
use Rattle.clap.specs.declared.parser.matches.ArgMatches.{ArgMatches}
use Rattle.fm_dump.proofs.Commands.{found_is, faults_are, taken, refused_is}
use Rattle.fm_dump.proofs.command.find_options.Goals as goal

pub returns-in-Ok-clause-found : goal.returns-in-Ok-clause-found
returns-in-Ok-clause-found c =
    found_is c.in_ok-command.command (map (λ w. w.now) c.args.words.now) c.in-Ok.matches
    c.in_ok-command.ensures c.in-Ok.ensures.matches

pub returns-in-Ok-clause-taken : goal.returns-in-Ok-clause-taken
returns-in-Ok-clause-taken c =
    taken (map (λ w. w.now) c.args.words.now)
    (faults_are {T = ArgMatches} c.in_ok-command.command (map (λ w. w.now) c.args.words.now)
    (Ok c.in-Ok.matches) c.in_ok-command.ensures c.in-Ok.ensures.kinds)

pub returns-in-Err-clause-usage : goal.returns-in-Err-clause-usage
returns-in-Err-clause-usage c =
    refused_is (map (λ w. w.now) c.args.words.now) c.in-Err.error c.kind.result c.fault_by.result
    (faults_are {T = ArgMatches} c.in_ok-command.command (map (λ w. w.now) c.args.words.now)
    (Err c.in-Err.error) c.in_ok-command.ensures c.in-Err.ensures.kinds)
    c.kind.ensures c.fault_by.ensures
