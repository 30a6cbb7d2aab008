use Rattle.std.proofs.Common.{rules, ◌≡◌, ◌++◌, ◌∙◌, sym, ap, false, Some}
use Rattle.dx_turn.proofs.Marks.{marked_none, marked_some}
use Rattle.dx_turn.proofs.marking.mark.Goals as goal

pub returns-then-not-may_mark : goal.returns-then-not-may_mark
returns-then-not-may_mark g c =
    let off : c.may_mark.result ≡ false = search rules in
    marked_none c.args.ground.now c.args.told.now (g.C.Choice.chosen c.args.choice.now)
    c.args.with c.requires.told (sym c.may_mark.ensures ∙ off)

pub returns : goal.returns
returns g c =
    let d = c.args.ground.now in
    let old = c.args.told.now in
    let m = c.in_ok-marked.marked in
    marked_some d old _ (g.C.Choice.chosen c.args.choice.now) c.args.with c.deref.result.now m.left
    m.said c.requires.told (c.deref.ensures.value ∙ c.in_ok-words.ensures)
    c.in_ok-marked.ensures.left c.in_ok-marked.ensures.said
    (λ i. record old {
      marked = Some m.left;
      solved = (c.new-2.ensures ∙ c.new.ensures.items) i;
      words =
          (c.in_ok-append.ensures ∙ ap (λ ws. old.words ++ ws) c.as_slice.ensures) i;
    })
