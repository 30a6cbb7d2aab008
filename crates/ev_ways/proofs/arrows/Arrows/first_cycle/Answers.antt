use Rattle.std.proofs.Common.{◌≡◌, ℕ, List, ap, sym, ◌∙◌, subst}
use Rattle.ev_ways.specs.Ways.{Reaches}
use Rattle.ev_ways.proofs.arrows.Arrows.first_cycle.Goals as goal

pub returns-clause-none : goal.returns-clause-none
returns-clause-none c =
    let causes : c.as_slice.result.now ≡ c.args.self.now.causes = c.as_slice.ensures.value
    ∙ ap (λ d. d.causes) c.self.view_is in
    let effects : c.as_slice-2.result.now ≡ c.args.self.now.effects = c.as_slice-2.ensures.value
    ∙ ap (λ d. d.effects) c.self.view_is in
    λ e x r. c.first_cycle.ensures.none e x
    (let P : List (List ℕ) → Type 0 = λ xs. Reaches xs c.as_slice-2.result.now x x in
    let Q : List (List ℕ) → Type 0 = λ xs. Reaches c.args.self.now.causes xs x x in
    subst P (sym causes) (subst Q (sym effects) r))
