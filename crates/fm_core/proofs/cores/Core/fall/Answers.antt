use Rattle.fm_core.specs.Seen.{CoreOf}
use Rattle.fm_core.proofs.Calls.{read_at, fall_book, fall_lawful}
use Rattle.fm_core.proofs.cores.Core.fall.Goals as goal
use Rattle.fm_core.proofs.cores.Core.fall.Given.{Over}

-- the core at the call
abbrev before : (g : Over) → goal.After-self-1 g → CoreOf g.row.M.Denot
before g c =
    record {
      base = c.self.inside.base;
      kept = c.self.inside.kept.items;
      entries = c.self.inside.entries.items;
      hands = c.self.inside.hands.items;
      records = c.self.inside.records.items;
    }

pub returns-clause-fallen : goal.returns-clause-fallen
returns-clause-fallen g c =
    rw (← c.self.view_is)
    (fall_book g.M.Module (before g c) c.args.module c.index_mut-own.result.now c.args.hand
    c.replace.new.dest
    (rw (← c.self.view_is) at c.requires.known) c.index_mut-own.ensures.value
    c.replace.ensures.after
    (rw (← c.self.view_is) at c.requires.lawful) (rw (← c.self.view_is) at c.requires.may))

pub returns-clause-back : goal.returns-clause-back
returns-clause-back g c =
    rw (← c.self.view_is)
    (read_at c.self.inside.hands.items c.args.module c.index_mut-own.result.now c.replace.result
    (rw (← c.self.view_is) at c.requires.known) c.index_mut-own.ensures.value
    c.replace.ensures.value)

pub returns-clause-lawful : goal.returns-clause-lawful
returns-clause-lawful g c =
    fall_lawful g.M.Module (before g c) c.args.module c.index_mut-own.result.now c.args.hand
    c.replace.new.dest
    (rw (← c.self.view_is) at c.requires.known) c.index_mut-own.ensures.value
    c.replace.ensures.after
    (rw (← c.self.view_is) at c.requires.lawful) (rw (← c.self.view_is) at c.requires.may)
