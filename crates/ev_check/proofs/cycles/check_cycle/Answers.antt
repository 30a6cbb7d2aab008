use Rattle.std.proofs.Common.{ℕ, List, ◌<◌, length, slice_index, sym, ap, subst, ◌∙◌, Ok}
use Rattle.ev_ways.specs.Ways.{Reaches}
use Rattle.ev_ways.specs.Cycle.{IsFirstCycle}
use Rattle.ev_check.specs.Declarations.{events_in}
use Rattle.ev_check.specs.Drawn.{causes_in, effects_in}
use Rattle.ev_check.proofs.Answering.{at_both, at_some}
use Rattle.ev_check.proofs.Bounds.{causes_below}
use Rattle.ev_check.proofs.Drawings.{first_below, places_length}
use Rattle.ev_check.proofs.cycles.check_cycle.Goals as goal

pub cycle_fault-requires-clause-below : goal.cycle_fault-requires-clause-below
cycle_fault-requires-clause-below c =
    let ss = c.args.statements.now in
    let members = c.as_slice-in-Ok-Some.result.now in
    let cycle : IsFirstCycle (causes_in ss) (effects_in ss) members =
    at_both (λ a b. IsFirstCycle a b members) _ _ (causes_in ss) (effects_in ss) c.requires.causes
    c.requires.effects
    (subst (λ (m : List ℕ). IsFirstCycle c.args.arrows.now.causes c.args.arrows.now.effects m)
    (sym c.as_slice-in-Ok-Some.ensures.value)
    (at_some (λ ms. IsFirstCycle c.args.arrows.now.causes c.args.arrows.now.effects ms.items)
    c.in-Ok-Some.field-0 c.in-Ok-Some.numbers c.in-Ok-Some.field-0-is
    c.in-Ok-Some.ensures.found)) in
    let P : ℕ → Type 0 = λ n. slice_index members 0 < n in
    subst P (sym (places_length ss))
    (first_below (length (events_in ss)) (causes_in ss) (effects_in ss) members
    (causes_below (events_in ss) ss) cycle)

pub returns-in-Ok-None-clause-ok : goal.returns-in-Ok-None-clause-ok
returns-in-Ok-None-clause-ok c =
    let ss = c.args.statements.now in
    record {
      each = at_both (λ a b. (x : ℕ) → Reaches a b x x → ⊥) _ _ (causes_in ss)
          (effects_in ss) c.requires.causes c.requires.effects
          (c.first_cycle.ensures.none (c.in-Ok-None.is ∙ ap Ok c.in-Ok-None.field-0-is));
    }
