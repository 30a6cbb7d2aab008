use Rattle.std.proofs.Common.{[], ◌∷◌, ◌++◌, ◌∙◌, ap, codes}
use Rattle.std.proofs.lemmas.Result.{on_ok_weaker}
use Rattle.ev_tree.specs.Pattern.{view_option}
use Rattle.ev_tree.specs.Printing.{between, guard_tokens, part_tokens}
use Rattle.ev_tree.specs.Text.{text_of}
use Rattle.ev_tree.specs.Tok.{Class, Sign}
use Rattle.ev_tree.proofs.Texts.{then_text}
use Rattle.ev_tree.proofs.print.print_pattern.Goals as goal

pub returns : goal.returns
returns c =
    let end = c.print_guard.new.out.items in
    let guard = guard_tokens (view_option c.args.pattern.now.cond) in
    let parts = between (codes "/") part_tokens c.args.pattern.now.parts in
    on_ok_weaker c.print_guard.result
    (λ e. then_text c.args.out.now.items c.put_class.new.out.items end
    (Class c.args.pattern.now.class ∷ []) (Sign (codes "@") ∷ (parts ++ guard))
    c.in_ok-put_class.ensures
    (then_text c.put_class.new.out.items c.put.new.out.items end (Sign (codes "@") ∷ [])
    (parts ++ guard) c.in_ok-put.ensures
    (then_text c.put.new.out.items c.print_parts.new.out.items end parts guard
    (c.in_ok-print_parts.ensures
    ∙ ap (λ l. c.put.new.out.items ++ text_of (between (codes "/") part_tokens l))
    c.as_slice.ensures) e)))
    c.print_guard.ensures
