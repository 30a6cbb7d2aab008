use Rattle.std.proofs.Common.{[], ◌∷◌, ◌++◌, ◌∙◌, ap}
use Rattle.std.proofs.lemmas.Result.{on_ok_weaker}
use Rattle.ev_tree.specs.Printing.{sum_tokens, compare_sign}
use Rattle.ev_tree.specs.Text.{text_of}
use Rattle.ev_tree.specs.Tok.{Sign}
use Rattle.ev_tree.proofs.Texts.{then_text}
use Rattle.ev_tree.proofs.print_conditions.print_compares.Goals as goal

pub returns : goal.returns
returns c =
    let right = sum_tokens c.args.right.now in
    let how = Sign (compare_sign c.args.how) ∷ [] in
    let end = c.print_sum-2.new.out.items in
    on_ok_weaker c.print_sum-2.result
    (λ e. then_text c.args.out.now.items c.print_sum.new.out.items end (sum_tokens c.args.left.now)
    (how ++ right) (c.in_ok-print_sum.ensures
    ∙ ap (λ l. c.args.out.now.items ++ text_of (sum_tokens l)) c.as_slice.ensures)
    (then_text c.print_sum.new.out.items c.print_compare.new.out.items end how right
    c.in_ok-print_compare.ensures
    (e ∙ ap (λ l. c.print_compare.new.out.items ++ text_of (sum_tokens l))
    c.as_slice-2.ensures)))
    c.print_sum-2.ensures
