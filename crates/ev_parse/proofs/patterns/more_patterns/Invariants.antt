use Rattle.std.proofs.Common.{◌≡◌, ◌∷◌, [], codes, length, map}
use Rattle.ev_parse.specs.Gives.{onto}
use Rattle.ev_parse.specs.Read.{more_at}
use Rattle.ev_parse.specs.Reading.{pattern_at}
use Rattle.ev_parse.specs.Toks.{toks}
use Rattle.ev_tree.specs.Pattern.{view_pattern}
use Rattle.ev_parse.proofs.patterns.more_patterns.Given as goal

-- the values at hand, in front of those to be read
abbrev pub invariant-more : goal.invariant-more
invariant-more l =
    onto (map view_pattern l.items.items) (more_at (codes ",") pattern_at (toks l.text l.rest))
    ≡ onto (view_pattern l.fn.first ∷ [])
    (more_at (codes ",") pattern_at (toks l.text l.tokens))

abbrev pub decreases-more : goal.decreases-more
decreases-more l = length l.rest
