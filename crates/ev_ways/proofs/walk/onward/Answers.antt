use Rattle.std.proofs.Common.{◌≡◌, ℕ, zero, suc, ◌<◌, ◌+◌, Option, Some, List, ap, sym, ◌∙◌, subst}
use Rattle.std.proofs.Common.{arith}
use Rattle.std.specs.Option.{unwrap_or}
use Rattle.ev_ways.specs.Ways.{Leads}
use Rattle.ev_ways.specs.Search.{far}
use Rattle.ev_ways.specs.Best.{IsBest, IsBestOf, AreTowards}
use Rattle.ev_ways.specs.declared.step.Step.{Step}
use Rattle.ev_ways.proofs.Cycles.{closer}
use Rattle.ev_ways.proofs.walk.onward.Goals as goal

away : (causes effects : List (List ℕ)) (aim : ℕ) (dist : List (Option ℕ)) (x : ℕ) (d : ℕ)
    → AreTowards causes effects aim dist → far dist x ≡ Some d → 0 < d
    → (best : Option Step) → IsBestOf (Leads causes effects x) dist best → (s : Step)
    × (best ≡ Some s) × (s.distance + 1 ≡ d)
away causes effects aim dist x zero t e lt best h = absurd (omega (arith, lt))
away causes effects aim dist x (suc d) t e lt best h = let c =
    closer causes effects aim dist x d t e best h in (c.0, c.1, omega (arith, c.2))

step_is : (c : goal.After-unwrap_or) → (s : Step) × (c.best_step-best.result ≡ Some s)
    × (s.distance + 1 ≡ c.args.step.distance)
step_is c = away c.args.links.now.causes.now c.args.links.now.effects.now c.args.goal
    c.args.distance.now c.args.step.node c.args.step.distance c.requires.towards c.requires.on
    c.requires.away c.best_step-best.result c.best_step-best.ensures

got : (c : goal.After-unwrap_or) → c.unwrap_or.result ≡ (step_is c).0
got c = c.unwrap_or.ensures ∙ ap (λ o. unwrap_or o c.args.step) (step_is c).1

pub returns-clause-best : goal.returns-clause-best
returns-clause-best c =
    let P : Option Step → Type 0 =
    λ o. IsBestOf (Leads c.args.links.now.causes.now c.args.links.now.effects.now
    c.args.step.node) c.args.distance.now o in
    let Q : Step → Type 0 =
    λ s. IsBest (Leads c.args.links.now.causes.now c.args.links.now.effects.now
    c.args.step.node) c.args.distance.now s in
    subst Q (sym (got c)) (subst P (step_is c).1 c.best_step-best.ensures)

pub returns-clause-closer : goal.returns-clause-closer
returns-clause-closer c = let Q : Step → Type 0 = λ s. s.distance + 1 ≡ c.args.step.distance in
    subst Q (sym (got c)) (step_is c).2
