use Rattle.std.proofs.Common.{◌≡◌, ◌∙◌, sym, subst}
use Rattle.std.proofs.lemmas.Result.{IfErr-weaker}
use Rattle.ev_tree.specs.Rule.{view_tree}
use Rattle.ev_print_laws.specs.Spells.{Causes, Spells}
use Rattle.ev_print_laws.specs.declared.unread.Unread.TheVariants.{NoMemory}
use Rattle.ev_print_laws.proofs.Spelled.{spelled_again, ok_half, err_half}
use Rattle.ev_print_laws.proofs.again.read_again.Goals as goal

pub returns-clause-again : goal.returns-clause-again
returns-clause-again c =
    let rules = view_tree c.args.tree.now in
    let spells : Spells c.as_slice.result.now rules =
    subst (λ t. Spells t rules) (sym (c.as_slice.ensures.value ∙ c.in_ok-text.ensures))
    (spelled_again rules c.requires) in
    ok_half c.tree_of.result (λ read. view_tree read ≡ rules) (λ e. e ≡ NoMemory)
    (c.tree_of.ensures rules spells)

pub returns-clause-causes : goal.returns-clause-causes
returns-clause-causes c =
    let rules = view_tree c.args.tree.now in
    let spells : Spells c.as_slice.result.now rules =
    subst (λ t. Spells t rules) (sym (c.as_slice.ensures.value ∙ c.in_ok-text.ensures))
    (spelled_again rules c.requires) in
    IfErr-weaker c.tree_of.result (λ e. e ≡ NoMemory) (Causes rules)
    (λ e is. subst (Causes rules) (sym is) tt)
    (err_half c.tree_of.result (λ read. view_tree read ≡ rules) (λ e. e ≡ NoMemory)
    (c.tree_of.ensures rules spells))
