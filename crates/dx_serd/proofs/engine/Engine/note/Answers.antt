use Rattle.std.proofs.Common.{◌∙◌, IsTrue, ap, sym, subst}
use Rattle.std.proofs.lemmas.Bool.{and_parts}
use Rattle.dx_serd.specs.Rates.{rate_of, is_rising, are_kept}
use Rattle.dx_serd.proofs.Decides.{stays_kept}
use Rattle.dx_serd.proofs.engine.Engine.note.Goals as goal

pub invariant_of-self : goal.invariant_of-self
invariant_of-self c = (
  c.self.invariant.0,
  ap (λ b. b.capacity) c.note_in.ensures.kept ∙ c.self.invariant.1,
  subst (λ b. IsTrue (are_kept c.self.inside.n c.self.inside.t b.items))
      (sym c.note_in.ensures.kept)
      (stays_kept c.self.inside.n c.self.inside.t c.self.inside.ring.items c.args.moment
      c.self.invariant.0.some
      (and_parts (is_rising c.self.inside.ring.items) _ c.self.invariant.2).0
      (rw (← c.self.view_is) at c.requires)).are,
)

pub returns-clause-fired : goal.returns-clause-fired
returns-clause-fired c = rw (← c.self.view_is) c.note_in.ensures.fired

pub returns-clause-kept : goal.returns-clause-kept
returns-clause-kept c =
    rw (← c.self.view_is)
    (ap (λ b. rate_of c.self.inside.n c.self.inside.t b.items) c.note_in.ensures.kept)
