use Rattle.std.proofs.Common.{◌≡◌}
use Rattle.fm_act.proofs.Listing.{IsFront}
use Rattle.fm_act.proofs.settling.listed_paths.Given as goal

abbrev pub invariant-places : goal.invariant-places
invariant-places g l =
    IsFront (g.A.ActCalls.held l.act) l.at l.paths.items
    × (g.A.ActCalls.held l.act ≡ g.A.ActCalls.held l.initial.act)
    × (g.A.ActCalls.kind_text l.act ≡ g.A.ActCalls.kind_text l.initial.act)
    × (g.A.ActCalls.act_failures l.act ≡ g.A.ActCalls.act_failures l.initial.act)
