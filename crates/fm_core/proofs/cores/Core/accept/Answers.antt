use Rattle.fm_core.proofs.Calls.{few_more, accept_lawful}
use Rattle.fm_core.proofs.cores.Core.accept.Goals as goal

pub returns-clause-lawful : goal.returns-clause-lawful
returns-clause-lawful g c =
    accept_lawful g.M.Module
    (record {
      base = c.self.inside.base;
      kept = c.self.inside.kept.items;
      entries = c.self.inside.entries.items;
      hands = c.self.inside.hands.items;
      records = c.self.inside.records.items;
    })
    c.args.entry c.push.new.self.items c.in_ok-push.ensures.items
    (rw (← c.self.view_is) at c.requires.lawful)

pub invariant_of-self-2 : goal.invariant_of-self-2
invariant_of-self-2 g c =
    few_more c.self.inside.base c.self.inside.entries.items c.args.entry c.push.new.self.items
    c.in_ok-push.ensures.items c.self.invariant c.requires.admitted
    (rw (← c.self.view_is) at c.requires.fits)
