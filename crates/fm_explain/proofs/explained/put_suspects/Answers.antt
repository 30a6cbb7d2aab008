use Rattle.std.proofs.Common.{◌≡◌, ◌+◌, ◌++◌, ◌∙◌, List, [], ◌∷◌, ℕ, take, sym, ap, subst}
use Rattle.std.proofs.lemmas.List.{append_assoc, take_more}
use Rattle.fm_entry.specs.declared.suspect.Suspect.{Suspect}
use Rattle.fm_explain.specs.Explained.{AreSuspectsTold}
use Rattle.fm_explain.proofs.Told.{told_push}
use Rattle.fm_explain.proofs.explained.put_suspects.Goals as goal

pub suspects-preserved : goal.suspects-preserved
suspects-preserved c =
    let g = c.args.ground.now.graph.now in
    let less = c.args.ground.now.less.items in
    let reports = c.args.ground.now.reports.items in
    let suspects = c.args.suspects.now in
    let i = c.suspects.suspect-index in
    let one = c.in_ok-put_suspect.ensures in
    let before = c.suspects.invariant in
    let item = c.suspect-item.result in
    let text = before.0 ++ one.0 in
    let more : take (i + 1) suspects ≡ take i suspects ++ item ∷ [] =
    take_more suspects i item c.suspects-test.true
    ∙ ap (λ (s : Suspect). take i suspects ++ s ∷ []) (sym c.suspect-item.is) in
    let told : AreSuspectsTold g less reports (take i suspects ++ item ∷ []) text =
    told_push g less reports (take i suspects) item before.0 one.0 before.1 one.1 in (
      text,
      subst (λ (xs : List Suspect). AreSuspectsTold g less reports xs text) (sym more) told,
      one.2 ∙ (ap (λ (z : List ℕ). z ++ one.0) before.2
          ∙ append_assoc c.args.out.now.items before.0 one.0),
    )
