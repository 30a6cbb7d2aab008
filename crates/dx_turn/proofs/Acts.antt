-- How entries act: what was told makes the turn, and the cases stay.
use Rattle.std.proofs.Common.{◌≡◌, sym, ap}
use Rattle.std.proofs.Common.{◌∙◌, subst}
use Rattle.dx_step.specs.Turns.{Turn}
use Rattle.dx_turn.specs.declared.ground.Ground.{Ground}
use Rattle.dx_turn.specs.declared.work.Work.{Work}
use Rattle.dx_turn.specs.Turning.{HasTurned}
use Rattle.dx_turn.specs.Tracking.{opens_in}
use Rattle.dx_turn.specs.Joining.{turn_of, IsWork, HasGone}

-- what was told made the turn, and the cases stayed
pub told_gone : (d : Ground) (f : Turn → Turn) (a b : Work) → IsWork d a
    → b ≡ record a { told = b.told } → HasTurned d f a.told b.told → HasGone d f a b
told_gone d f a b h e t = record {
  turn = ap (turn_of d) e ∙ t.turn a.next (opens_in a.cases.items);
  work = subst (IsWork d) (sym e) (record {
    told = t.told;
    current = h.current;
    starts = h.starts;
  });
}
