-- What is bound so far with what is left is all.
use Rattle.std.proofs.Common.{arith, get_or, refl}
use Rattle.ev_events.proofs.BoundNames.{name_added, names_past, names_spent, copied_none}
use Rattle.ev_events.proofs.BoundNames.{copied_some}
use Rattle.ev_events.proofs.asking.add_down.Goals as goal

pub returns-in-None : goal.returns-in-None
returns-in-None c =
    names_past c.args.names.now c.args.binding.now c.args.found.now.items c.names.found.items
    c.names.at c.names.invariant (copied_none c.name.result c.in-None.is c.name.ensures)

pub names-preserved : goal.names-preserved
names-preserved c =
    name_added c.args.names.now c.args.binding.now c.args.found.now.items c.names.found.items
    c.names.at c.names.invariant c.in-Some.name.now (get_or c.args.binding.now c.names.at 0)
    c.add_bound.new.found.items (copied_some c.name.result c.in-Some.name c.in-Some.is
    c.name.ensures)
    c.names-test.true refl c.in_ok-add_bound-in-Some.ensures

pub returns : goal.returns
returns c =
    names_spent c.args.names.now c.args.binding.now c.args.found.now.items c.names.found.items
    c.names.at c.names.invariant (omega (arith, c.names-test.false, c.names.auto.at-end))
