use Rattle.std.proofs.Common.{◌≡◌, map, take}
use Rattle.fm_act.specs.Changes.{TakesPaths}
use Rattle.fm_act.proofs.settling.unretire_all.Given as goal

abbrev pub invariant-paths : goal.invariant-paths
invariant-paths g l =
    TakesPaths (take l.path-index (map (λ p. p.now) l.paths))
    (g.A.ActCalls.held l.initial.act) (g.A.ActCalls.held l.act)
    × (g.A.ActCalls.kind_text l.act ≡ g.A.ActCalls.kind_text l.initial.act)
    × (g.A.ActCalls.act_failures l.act ≡ g.A.ActCalls.act_failures l.initial.act)
