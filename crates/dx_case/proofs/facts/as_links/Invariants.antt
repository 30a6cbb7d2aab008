use Rattle.std.proofs.Common.{◌≡◌, take, map}
use Rattle.dx_explain.specs.Cases.{broken_of}
use Rattle.dx_case.proofs.facts.as_links.Given as goal

abbrev pub invariant-loop-link : goal.invariant-loop-link
invariant-loop-link l = map broken_of l.links.items ≡ take l.link-index l.broken
