use Rattle.fm_config.proofs.Gathered.{events_once}
use Rattle.fm_config.proofs.reports.keep_once.Goals as goal

pub returns : goal.returns
returns c =
    events_once c.args.events.items c.sort_unstable.new.self.items c.dedup.new.self.items
    c.sort_unstable.ensures.permutation c.sort_unstable.ensures.sorted c.dedup.ensures.filtered
