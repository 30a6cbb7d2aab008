-- Whether all are guarded links is whether the rest is.
use Rattle.std.proofs.Common.{◌≡◌, drop}
use Rattle.std.specs.List.{list_all}
use Rattle.dx_lawful.specs.Trials.{is_guarded_link}
use Rattle.dx_lawful.proofs.cases.are_guarded_links.Given as goal

abbrev pub invariant-loop-link : goal.invariant-loop-link
invariant-loop-link g l =
    list_all (is_guarded_link (g.C.CutTest.is_cut l.guarded) l.observed)
    (drop l.link-index l.broken)
    ≡ list_all (is_guarded_link (g.C.CutTest.is_cut l.guarded) l.observed) l.broken
