use Rattle.std.proofs.Common.{sym, ◌∙◌, ap, ◌++◌, option_to_list, arith}
use Rattle.ev_check.specs.Drawn.{causes_of, effects_of}
use Rattle.ev_check.proofs.Drawings.{given_more}
use Rattle.ev_check.proofs.arrows.draw.Goals as goal

pub loop-statement-preserved : goal.loop-statement-preserved
loop-statement-preserved c =
    let x = c.statement-item.result in
    record {
      nodes = c.in_ok-draw_one.ensures.nodes;
      causes = c.in_ok-draw_one.ensures.causes
          ∙ ap (λ y. y ++ option_to_list (causes_of c.args.events.now x))
          c.loop-statement.invariant.causes
          ∙ sym (given_more (causes_of c.args.events.now) c.args.statements.now
          c.loop-statement.statement-index x c.loop-statement-test.true c.statement-item.is);
      effects = c.in_ok-draw_one.ensures.effects
          ∙ ap (λ y. y ++ option_to_list (effects_of c.args.events.now x))
          c.loop-statement.invariant.effects
          ∙ sym (given_more (effects_of c.args.events.now) c.args.statements.now
          c.loop-statement.statement-index x c.loop-statement-test.true c.statement-item.is);
      few = omega (arith, c.in_ok-draw_one.ensures.few, c.loop-statement.invariant.few);
    }
