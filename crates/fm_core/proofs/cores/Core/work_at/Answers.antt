use Rattle.std.proofs.Common.{◌∙◌, ◌++◌, ap}
use Rattle.fm_core.specs.Outcome.{kept_record}
use Rattle.fm_core.specs.Seen.{CoreOf}
use Rattle.fm_core.proofs.Calls.{Works, work_idle, work_number, work_done}
use Rattle.fm_core.proofs.cores.Core.work_at.Goals as goal
use Rattle.fm_core.proofs.cores.Core.work_at.Given.{Over}

-- the core at the call
abbrev idle_before : (g : Over) → goal.Then-place-len g → CoreOf g.row.M.Denot
idle_before g c =
    record {
      base = c.self.inside.base;
      kept = c.self.inside.kept.items;
      entries = c.self.inside.entries.items;
      hands = c.self.inside.hands.items;
      records = c.self.inside.records.items;
    }

pub returns-then-place-len-clause-answer : goal.returns-then-place-len-clause-answer
returns-then-place-len-clause-answer g c =
    rw (← c.self.view_is)
    ((work_idle g.M.Module (idle_before g c) c.args.at c.next_place-place.result c.len.result
    (rw (← c.self.view_is) at c.requires.lawful) (rw (← c.self.view_is) at c.requires.inside)
    (rw (← c.self.view_is) at c.next_place-place.ensures.hand)
    (c.len.ensures ∙ c.self.inside.entries.ok.0) c.if-place-len.true).0)

pub returns-then-place-len-clause-worked : goal.returns-then-place-len-clause-worked
returns-then-place-len-clause-worked g c =
    rw (← c.self.view_is)
    ((work_idle g.M.Module (idle_before g c) c.args.at c.next_place-place.result c.len.result
    (rw (← c.self.view_is) at c.requires.lawful) (rw (← c.self.view_is) at c.requires.inside)
    (rw (← c.self.view_is) at c.next_place-place.ensures.hand)
    (c.len.ensures ∙ c.self.inside.entries.ok.0) c.if-place-len.true).1)

pub advance_at-requires-clause-number : goal.advance_at-requires-clause-number
advance_at-requires-clause-number g c κs = λ alive.
    work_number g.M.Module
    (record {
      base = c.self.inside.base;
      kept = c.self.inside.kept.items;
      entries = c.self.inside.entries.items;
      hands = c.self.inside.hands.items;
      records = c.self.inside.records.items;
    })
    c.args.at c.next_place-place.result c.len.result
    (rw (← c.self.view_is) at c.next_place-place.ensures.hand)
    (c.len.ensures ∙ c.self.inside.entries.ok.0)
    c.if-place-len.false c.self.invariant.few

-- the core at the call, where the step answered
abbrev done_before : (g : Over) → goal.After-settle g → CoreOf g.row.M.Denot
done_before g c =
    record {
      base = c.self.inside.base;
      kept = c.self.inside.kept.items;
      entries = c.self.inside.entries.items;
      hands = c.self.inside.hands.items;
      records = c.self.inside.records.items;
    }

done : (g : Over) → (c : goal.After-settle g)
    → Works g.M.Module (done_before g c)
    (record (done_before g c) {
      hands = c.advance_at.new.hands.items;
      records =
          c.settle.new.records.items;
    }) c.args.at c.settle.result
done g c =
    work_done g.M.Module (done_before g c) c.args.at c.next_place-place.result c.len.result
    c.index.result.now c.advance_at.new.hands.items c.settle.new.records.items c.in_ok-spoken.spoken
    c.settle.result
    (rw (← c.self.view_is) at c.requires.lawful) (rw (← c.self.view_is) at c.requires.inside)
    (rw (← c.self.view_is) at c.next_place-place.ensures.hand)
    (c.len.ensures ∙ c.self.inside.entries.ok.0) c.if-place-len.false c.index.ensures
    c.in_ok-spoken.ensures.hand c.in_ok-spoken.ensures.words
    (c.settle.ensures.records
    ∙ ap (λ rs. rs ++ kept_record c.in_ok-spoken.spoken) c.reserve.ensures.items)
    c.settle.ensures.answer

pub returns-clause-answer : goal.returns-clause-answer
returns-clause-answer g c = rw (← c.self.view_is) ((done g c).answered)

pub returns-clause-worked : goal.returns-clause-worked
returns-clause-worked g c = rw (← c.self.view_is) ((done g c).worked)

pub returns-clause-lawful : goal.returns-clause-lawful
returns-clause-lawful g c = (done g c).lawful
