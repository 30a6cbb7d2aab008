-- The statements are those at which no phase finds a fault, and the lists are theirs.
use Rattle.std.proofs.Common.{sym, subst}
use Rattle.ev_check.specs.CheckedFile.{IsFileOf}
use Rattle.ev_check.proofs.Building.{built}
use Rattle.ev_check.proofs.build.build.Goals as goal

pub new-requires : goal.new-requires
new-requires c = record {
  statements = c.args.statements.now;
  checked = c.requires.checked;
  file = built _ _ _ _ _ _ c.requires.events c.requires.engines c.in_ok-event_list.ensures
      c.in_ok-engine_list.ensures c.in_ok-prop_list.ensures;
}

pub returns : goal.returns
returns c =
    subst (IsFileOf c.args.statements.now) (sym c.new.ensures)
    (built _ _ _ _ _ _ c.requires.events c.requires.engines c.in_ok-event_list.ensures
    c.in_ok-engine_list.ensures c.in_ok-prop_list.ensures)
