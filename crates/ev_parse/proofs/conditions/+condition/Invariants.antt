use Rattle.std.proofs.Common.{◌≡◌, ◌+◌, ◌*◌, ◌∷◌, [], codes, length, map}
use Rattle.ev_tree.specs.Condition.{view_cond}
use Rattle.ev_parse.specs.Gives.{onto}
use Rattle.ev_parse.specs.Read.{more_at}
use Rattle.ev_parse.specs.Reading.{unary_at, all_of_at}
use Rattle.ev_parse.specs.Toks.{toks}
use Rattle.ev_parse.proofs.conditions.+condition.Given as goal

abbrev pub decreases-unary : goal.decreases-unary
decreases-unary l = 8 * l.depth + 0

abbrev pub decreases-and_unary : goal.decreases-and_unary
decreases-and_unary l = 8 * l.depth + 1

abbrev pub decreases-more_all : goal.decreases-more_all
decreases-more_all l = 8 * l.depth + 2

abbrev pub decreases-all_of : goal.decreases-all_of
decreases-all_of l = 8 * l.depth + 3

abbrev pub decreases-or_all : goal.decreases-or_all
decreases-or_all l = 8 * l.depth + 4

abbrev pub decreases-more_any : goal.decreases-more_any
decreases-more_any l = 8 * l.depth + 5

abbrev pub decreases-any_of : goal.decreases-any_of
decreases-any_of l = 8 * l.depth + 6

abbrev pub decreases-nested : goal.decreases-nested
decreases-nested l = 8 * l.depth + 7

-- the values at hand, in front of those to be read
abbrev pub invariant-more_all-more : goal.invariant-more_all-more
invariant-more_all-more l =
    onto (map view_cond l.items.items)
    (more_at (codes "&&") (unary_at l.depth) (toks l.text l.rest))
    ≡ onto (view_cond l.fn.first ∷ [])
    (more_at (codes "&&") (unary_at l.depth) (toks l.text l.tokens))

abbrev pub decreases-more_all-more : goal.decreases-more_all-more
decreases-more_all-more l = length l.rest

-- the values at hand, in front of those to be read
abbrev pub invariant-more_any-more : goal.invariant-more_any-more
invariant-more_any-more l =
    onto (map view_cond l.items.items)
    (more_at (codes "||") (all_of_at (unary_at l.depth)) (toks l.text l.rest))
    ≡ onto (view_cond l.fn.first ∷ [])
    (more_at (codes "||") (all_of_at (unary_at l.depth)) (toks l.text l.tokens))

abbrev pub decreases-more_any-more : goal.decreases-more_any-more
decreases-more_any-more l = length l.rest
