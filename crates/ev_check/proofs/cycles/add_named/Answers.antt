use Rattle.std.proofs.Common.{◌++◌, option_to_list, sym, ap, ◌∙◌}
use Rattle.std.proofs.lemmas.List.{append-nil}
use Rattle.std.proofs.lemmas.Option.{slice_get_past}
use Rattle.ev_check.proofs.cycles.add_named.Goals as goal

pub returns-in-None : goal.returns-in-None
returns-in-None c =
    let kept = c.args.members.now.items in
    sym (ap (λ o. kept ++ option_to_list o)
    (slice_get_past c.args.events.now c.args.number c.in-None.ensures.lookup.3)
    ∙ append-nil kept)
