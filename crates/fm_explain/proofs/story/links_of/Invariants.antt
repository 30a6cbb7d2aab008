use Rattle.std.proofs.Common.{◌≡◌, map, take}
use Rattle.fm_explain.specs.Explained.{broken_link}
use Rattle.fm_explain.proofs.story.links_of.Given as goal

abbrev pub invariant-links : goal.invariant-links
invariant-links l = l.links.items ≡ map broken_link (take l.link-index l.broken)
