use Rattle.std.proofs.Common.{◌≡◌, ◌∷◌, [], codes, length}
use Rattle.ev_parse.specs.Gives.{onto}
use Rattle.ev_parse.specs.Read.{more_at}
use Rattle.ev_parse.specs.Reading.{name_at}
use Rattle.ev_parse.specs.Toks.{toks}
use Rattle.ev_parse.proofs.parts.more_names.Given as goal

-- the values at hand, in front of those to be read
abbrev pub invariant-more : goal.invariant-more
invariant-more l =
    onto l.items.items (more_at (codes "/") name_at (toks l.text l.rest))
    ≡ onto (l.fn.first ∷ []) (more_at (codes "/") name_at (toks l.text l.tokens))

abbrev pub decreases-more : goal.decreases-more
decreases-more l = length l.rest
