use Rattle.std.proofs.Common.{sym, subst, ◌∙◌}
use Rattle.fm_act.specs.Changes.{TakesPaths}
use Rattle.fm_act.proofs.Growing.{next_of, takes_more}
use Rattle.fm_act.proofs.settling.unretire_all.Goals as goal

pub paths-preserved : goal.paths-preserved
paths-preserved g c = (
  subst (λ ps. TakesPaths ps (g.A.ActCalls.held c.args.act.now)
      (g.A.ActCalls.held c.unretire.new.self))
      (sym (next_of (λ p. p.now) c.args.paths.now c.paths.path-index c.path-item.result
      c.paths-test.true c.path-item.is))
      (takes_more _ _ _ (g.A.ActCalls.held c.paths.act) _ c.paths.invariant.0
      c.in_ok-unretire.ensures.ok),
  c.in_ok-unretire.ensures.kind ∙ c.paths.invariant.1,
  c.in_ok-unretire.ensures.cause.quiet ∙ c.paths.invariant.2,
)
