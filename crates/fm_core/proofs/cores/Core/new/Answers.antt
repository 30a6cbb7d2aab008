use Rattle.fm_core.proofs.Calls.{new_lawful}
use Rattle.fm_core.proofs.cores.Core.new.Goals as goal

pub returns-clause-lawful : goal.returns-clause-lawful
returns-clause-lawful g c =
    new_lawful g.M.Module c.args.base c.args.hands.items c.args.kept.items c.new.result.items
    c.new-2.result.items
    c.new.ensures.items c.new-2.ensures.items c.requires.fresh c.requires.equal
