use Rattle.fm_core.specs.Seen.{CoreOf}
use Rattle.fm_core.proofs.Calls.{place_low, place_is, place_cursor}
use Rattle.fm_core.proofs.cores.Core.next_place.Goals as goal
use Rattle.fm_core.proofs.cores.Core.next_place.Given.{Over}

-- the core at the call
abbrev before : (g : Over) → goal.After-cursor g → CoreOf g.row.M.Denot
before g c =
    record {
      base = c.self.inside.base;
      kept = c.self.inside.kept.items;
      entries = c.self.inside.entries.items;
      hands = c.self.inside.hands.items;
      records = c.self.inside.records.items;
    }

pub overflow_sub-result : goal.overflow_sub-result
overflow_sub-result g c =
    place_low g.M.Module (before g c) c.args.at c.index-hand.result.now c.cursor.result
    (rw (← c.self.view_is) at c.requires.inside) c.index-hand.ensures c.cursor.ensures
    (rw (← c.self.view_is) at c.requires.lawful)

pub returns-clause-hand : goal.returns-clause-hand
returns-clause-hand g c =
    rw (← c.self.view_is)
    (place_is g.M.Module (before g c) c.args.at c.index-hand.result.now c.cursor.result
    (rw (← c.self.view_is) at c.requires.inside) c.index-hand.ensures c.cursor.ensures
    (rw (← c.self.view_is) at c.requires.lawful))

pub returns-clause-cursor : goal.returns-clause-cursor
returns-clause-cursor g c =
    rw (← c.self.view_is)
    (place_cursor g.M.Module (before g c) c.args.at c.index-hand.result.now c.cursor.result
    (rw (← c.self.view_is) at c.requires.inside) c.index-hand.ensures c.cursor.ensures
    (rw (← c.self.view_is) at c.requires.lawful))
