use Rattle.std.proofs.Common.{[], ◌∷◌, ◌++◌, ◌∙◌, ap, sym, codes}
use Rattle.std.proofs.lemmas.Result.{on_ok_weaker}
use Rattle.ev_tree.specs.Condition.{view_cond}
use Rattle.ev_tree.specs.Pattern.{view_option}
use Rattle.ev_tree.specs.Printing.{guard_tokens, show}
use Rattle.ev_tree.specs.Text.{text_of}
use Rattle.ev_tree.specs.Tok.{Sign}
use Rattle.ev_tree.specs.declared.print_conditions.Level.TheVariants.{Whole}
use Rattle.ev_tree.proofs.Texts.{then_text}
use Rattle.ev_tree.proofs.print_conditions.print_guard.Goals as goal

pub returns-in_ok-print_cond-in-Some : goal.returns-in_ok-print_cond-in-Some
returns-in_ok-print_cond-in-Some c =
    let old = c.args.out.now.items in
    let end = c.put-in-Some.new.out.items in
    let shown = show Whole (view_cond c.in-Some.cond) in
    on_ok_weaker c.put-in-Some.result
    (λ e. then_text old c.put.new.out.items end (Sign (codes "{") ∷ [])
    (shown ++ Sign (codes "}") ∷ []) c.in_ok-put-in-Some.ensures
    (then_text c.put.new.out.items c.print_cond.new.out.items end shown (Sign (codes "}") ∷ [])
    c.in_ok-print_cond-in-Some.ensures e)
    ∙ ap (λ o. old ++ text_of (guard_tokens (view_option o))) (sym c.in-Some.is))
    c.put-in-Some.ensures
