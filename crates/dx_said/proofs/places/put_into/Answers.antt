use Rattle.std.proofs.Common.{rules, ◌≡◌, ◌<◌, ◌∙◌, sym, subst, ap, get_or, length, IsTrue}
use Rattle.ev_incidence.specs.Sets.{ascends}
use Rattle.dx_state.specs.LawfulState.{solved_numbers}
use Rattle.dx_said.specs.Making.{IsWordPlace}
use Rattle.dx_said.proofs.Placed.{put_new, put_there, stay_ascending}
use Rattle.dx_said.proofs.places.put_into.Goals.{else-at-len-via-then-at-len+else-index-word}
use Rattle.dx_said.proofs.places.put_into.Goals.{else-at-len-via-else-at-len}
use Rattle.dx_said.proofs.places.put_into.Goals as goal

pub returns-then-index-word-clause-put : goal.returns-then-index-word-clause-put
returns-then-index-word-clause-put c =
    let p = subst (λ ws. IsWordPlace c.args.word.case.case ws c.place_of-at.result)
    c.deref.ensures.value c.place_of-at.ensures in
    let low : c.place_of-at.result < length c.args.words.now.items = search rules in
    let same : (get_or c.args.words.now.items c.place_of-at.result c.index.result.now).case.case
    ≡ c.args.word.case.case = ap (λ w. w.case.case) (sym c.index.ensures) ∙ c.if-index-word.true in
    sym (put_there c.args.word c.args.words.now.items c.place_of-at.result c.index.result.now low
    p.before same)

pub returns-clause-put : goal.returns-clause-put
returns-clause-put c =
    let p = subst (λ ws. IsWordPlace c.args.word.case.case ws c.place_of-at.result)
    c.deref.ensures.value c.place_of-at.ensures in
    let ws = c.args.words.now.items in
    let at = c.place_of-at.result in
    c.in-Ok.ensures.items
    ∙ elim c.else-at-len.branch [
      | else-at-len-via-then-at-len+else-index-word w ↦
          put_new c.args.word ws at w.index.result.now p.within p.before p.after
          (λ low same. w.if-index-word.false (ap (λ x. x.case.case) w.index.ensures ∙ same))
      | else-at-len-via-else-at-len w ↦
          put_new c.args.word ws at c.args.word p.within p.before p.after
          (λ low same. let never : ⊥ = search rules in never)
    ]

pub returns-clause-ascend : goal.returns-clause-ascend
returns-clause-ascend c =
    subst (λ ws. IsTrue (ascends (solved_numbers ws))) (sym (returns-clause-put c))
    (stay_ascending c.args.word c.args.words.now.items c.requires.ascend)
