use Rattle.std.proofs.Common.{sym, ◌∙◌, ap, ◌++◌, option_to_list}
use Rattle.ev_check.specs.Drawn.{numbered}
use Rattle.ev_check.proofs.Drawings.{given_more}
use Rattle.ev_check.proofs.arrows.side_numbers.Goals as goal

pub loop-pattern-preserved : goal.loop-pattern-preserved
loop-pattern-preserved c =
    let x = c.pattern-item.result in
    record {
      found = c.in_ok-add.ensures.found
          ∙ ap (λ y. y ++ option_to_list (numbered c.args.events.now x))
          c.loop-pattern.invariant.found
          ∙ sym (given_more (numbered c.args.events.now) c.args.side.now
          c.loop-pattern.pattern-index x c.loop-pattern-test.true c.pattern-item.is);
      below = c.in_ok-add.ensures.below;
    }
