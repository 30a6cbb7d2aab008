use Rattle.std.proofs.Common.{sym, subst, ◌∙◌, ◌+◌, ◌++◌, ◌∷◌, []}
use Rattle.fm_act.proofs.Listing.{IsFront, listed_more}
use Rattle.fm_act.proofs.settling.listed_paths.Goals as goal

pub places-preserved : goal.places-preserved
places-preserved g c = (
  subst (λ ps. IsFront (g.A.ActCalls.held c.listed.new.self) (c.places.at + 1) ps)
      (sym c.in_ok-push-in-Some.ensures.items)
      (subst (λ h. IsFront h (c.places.at + 1) (c.places.paths.items ++ c.in-Some.path ∷ []))
      (sym c.in_ok-path.ensures.same)
      (listed_more (g.A.ActCalls.held c.places.act) c.places.at c.places.paths.items
      c.in_ok-path.field-0 c.in-Some.path c.places.invariant.0 c.in_ok-path.ensures.found
      c.in-Some.is)),
  c.in_ok-path.ensures.same ∙ c.places.invariant.1,
  c.in_ok-path.ensures.kind ∙ c.places.invariant.2,
  c.in_ok-path.ensures.cause.quiet ∙ c.places.invariant.3,
)
