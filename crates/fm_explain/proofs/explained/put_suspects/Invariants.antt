use Rattle.std.proofs.Common.{◌≡◌, ◌++◌, ℕ, List, take}
use Rattle.fm_explain.specs.Explained.{AreSuspectsTold}
use Rattle.fm_explain.proofs.explained.put_suspects.Given as goal

abbrev pub invariant-suspects : goal.invariant-suspects
invariant-suspects l = (text : List ℕ)
    × AreSuspectsTold l.ground.graph.now l.ground.less.items l.ground.reports.items
    (take l.suspect-index l.suspects) text
    × (l.out.items ≡ l.initial.out.items ++ text)
