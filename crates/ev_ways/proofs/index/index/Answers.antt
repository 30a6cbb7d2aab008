use Rattle.std.proofs.Common.{◌≡◌, ◌++◌, length, take, drop, rules}
use Rattle.ev_ways.proofs.Membership.{index_all, index_below, turned_of, given_back}
use Rattle.ev_ways.proofs.index.index.Goals as goal

back : (c : goal.In_ok-note_all)
    → take c.in_ok-uses.uses.len
    (c.note_all.new.uses ++ drop (length c.note_all.new.uses) c.in_ok-uses.uses.items)
    ≡ c.note_all.new.uses
back c = given_back c.in_ok-uses.uses.len c.note_all.new.uses
    (drop (length c.note_all.new.uses) c.in_ok-uses.uses.items) (search rules)

pub returns-clause-index : goal.returns-clause-index
returns-clause-index c = rw (back c)
    (turned_of (index_all c.args.rows.now c.note_all.new.uses c.in_ok-note_all.ensures.index))

pub returns-clause-below : goal.returns-clause-below
returns-clause-below c =
    rw (back c) (index_below c.args.rows.now c.note_all.new.uses c.in_ok-note_all.ensures.index)
