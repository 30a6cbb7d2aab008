use Rattle.std.proofs.Common.{[], ◌∷◌, ◌++◌, ◌∙◌, ap, codes}
use Rattle.std.proofs.lemmas.Result.{on_ok_weaker}
use Rattle.ev_tree.specs.Printing.{behind, declared_tokens, engine_attr_tokens}
use Rattle.ev_tree.specs.Text.{text_of}
use Rattle.ev_tree.specs.Tok.{Sign}
use Rattle.ev_tree.proofs.Texts.{then_text}
use Rattle.ev_tree.proofs.print.print_engine.Goals as goal

pub returns : goal.returns
returns c =
    let end = c.put_end.new.out.items in
    let declared = declared_tokens c.args.engine.now in
    let attrs = behind (codes ",") engine_attr_tokens c.args.attrs.now in
    let semi = Sign (codes ";") ∷ [] in
    on_ok_weaker c.put_end.result
    (λ e. then_text c.args.out.now.items c.put.new.out.items end (Sign (codes "engine") ∷ [])
    (declared ++ (attrs ++ semi)) c.in_ok-put.ensures
    (then_text c.put.new.out.items c.print_declared.new.out.items end declared (attrs ++ semi)
    c.in_ok-print_declared.ensures
    (then_text c.print_declared.new.out.items c.print_engine_attrs.new.out.items end attrs semi
    (c.in_ok-print_engine_attrs.ensures
    ∙ ap (λ l. c.print_declared.new.out.items
    ++ text_of (behind (codes ",") engine_attr_tokens l)) c.as_slice.ensures) e)))
    c.put_end.ensures
