use Rattle.std.proofs.Common.{length}
use Rattle.std.proofs.lemmas.Option.{slice_get_past}
use Rattle.dx_said.proofs.Pushing.{none_made, past_end}
use Rattle.dx_said.proofs.naming.push_name.Goals as goal

pub returns-in-None : goal.returns-in-None
returns-in-None c =
    none_made (λ n. n.name) c.args.nodes.now c.args.number c.args.names.now.items
    (slice_get_past c.args.nodes.now c.args.number
    (past_end c.args.number (length c.args.nodes.now) c.in-None.ensures.lookup.0))
