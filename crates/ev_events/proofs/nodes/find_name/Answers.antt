-- A search in event order finds the name where it is.
use Rattle.std.proofs.Common.{arith}
use Rattle.ev_events.proofs.Finding.{name_found, name_missing, names_rise}
use Rattle.ev_events.proofs.nodes.find_name.Goals as goal

pub returns-in-Ok : goal.returns-in-Ok
returns-in-Ok c =
    name_found c.args.names.now c.args.name.now c.in-Ok.at
    (omega (arith, c.in-Ok.ensures.bound)) c.in-Ok.ensures.position

pub returns-in-Err : goal.returns-in-Err
returns-in-Err c =
    name_missing c.args.names.now c.args.name.now c.in-Err.field-0
    (c.in-Err.ensures.position (names_rise c.args.names.now c.args.name.now c.requires))
