use Rattle.std.proofs.Common.{[], ◌∷◌, ◌++◌, ◌∙◌, ap, codes, map}
use Rattle.std.proofs.lemmas.Result.{on_ok_weaker}
use Rattle.ev_tree.specs.Pattern.{view_pattern}
use Rattle.ev_tree.specs.Printing.{arrow_count_tokens, side_tokens}
use Rattle.ev_tree.specs.Text.{text_of}
use Rattle.ev_tree.specs.Tok.{Sign}
use Rattle.ev_tree.proofs.Texts.{then_text}
use Rattle.ev_tree.proofs.print.print_prop.Goals as goal

pub returns : goal.returns
returns c =
    let end = c.put_end.new.out.items in
    let left = side_tokens (map view_pattern c.args.left.now) in
    let n = arrow_count_tokens c.args.n in
    let arrow = Sign (codes "->") ∷ [] in
    let k = arrow_count_tokens c.args.k in
    let right = side_tokens (map view_pattern c.args.right.now) in
    let semi = Sign (codes ";") ∷ [] in
    on_ok_weaker c.put_end.result
    (λ e. then_text c.args.out.now.items c.put.new.out.items end (Sign (codes "prop") ∷ [])
    (left ++ (n ++ (arrow ++ (k ++ (right ++ semi))))) c.in_ok-put.ensures
    (then_text c.put.new.out.items c.print_side.new.out.items end left
    (n ++ (arrow ++ (k ++ (right ++ semi)))) (c.in_ok-print_side.ensures
    ∙ ap (λ l. c.put.new.out.items ++ text_of (side_tokens (map view_pattern l)))
    c.as_slice.ensures)
    (then_text c.print_side.new.out.items c.print_count.new.out.items end n
    (arrow ++ (k ++ (right ++ semi))) c.in_ok-print_count.ensures
    (then_text c.print_count.new.out.items c.put-2.new.out.items end arrow (k ++ (right ++ semi))
    c.in_ok-put-2.ensures
    (then_text c.put-2.new.out.items c.print_count-2.new.out.items end k (right ++ semi)
    c.in_ok-print_count-2.ensures
    (then_text c.print_count-2.new.out.items c.print_side-2.new.out.items end right semi
    (c.in_ok-print_side-2.ensures
    ∙ ap (λ l. c.print_count-2.new.out.items ++ text_of (side_tokens (map view_pattern l)))
    c.as_slice-2.ensures) e))))))
    c.put_end.ensures
