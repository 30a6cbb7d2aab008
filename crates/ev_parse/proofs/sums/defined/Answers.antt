use Rattle.std.proofs.Common.{◌≡◌, ◌∙◌, ap, sym, Ok}
use Rattle.ev_tree.specs.Condition.{Condition, Defined, layer, view_cond}
use Rattle.ev_tree.specs.declared.tree.Cond.{Defined as cond_defined, Cond-F, fold-roll-Cond}
use Rattle.ev_tree.specs.declared.tree.Cond.TheVariants.{rolls-Defined}
use Rattle.ev_parse.specs.Read.{bind}
use Rattle.ev_parse.specs.Toks.{toks}
use Rattle.ev_parse.proofs.sums.defined.Goals as goal

pub returns : goal.returns
returns c =
    let rolled = fold-roll-Cond Condition layer (Cond-F.Defined c.in_ok-name.name) in
    let seen : view_cond (cond_defined c.in_ok-name.name) ≡ Defined c.in_ok-name.name =
    ap view_cond (sym (rolls-Defined c.in_ok-name.name)) ∙ rolled in
    ap (λ r. bind r (λ a rest. Ok (Defined a, rest))) c.in_ok-name.ensures
    ∙ ap (λ d. Ok (d, toks c.args.text.now c.in_ok-name.rest.now)) (sym seen)
