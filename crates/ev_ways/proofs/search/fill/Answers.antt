use Rattle.std.proofs.Common.{◌≡◌, ℕ, length, Some, subst, List, Option, Bool}
use Rattle.ev_ways.specs.Lists.{marked}
use Rattle.ev_ways.specs.Search.{far}
use Rattle.ev_ways.proofs.Searches.{fresh_front, far_none, taken_none, starts_searched}
use Rattle.ev_ways.proofs.search.fill.Goals as goal

pub give-requires-clause-front : goal.give-requires-clause-front
give-requires-clause-front c =
    rw (c.new-front.ensures.items, c.requires.unreached) (fresh_front (length c.args.distance.now))

pub search-requires-clause-searched : goal.search-requires-clause-searched
search-requires-clause-searched c =
    starts_searched c.args.links.now.causes.now c.args.links.now.effects.now c.args.starts.now
    c.args.distance.now c.give.new.distance c.give.new.front.items c.args.taken.now
    (λ x d e. far_none (length c.args.distance.now) x d (let P : List (Option ℕ)
    → Type 0 = λ o. far o x ≡ Some d in subst P c.requires.unreached e))
    (λ j m. taken_none (length c.args.taken.now) j (let P : List Bool → Type 0 = λ o. marked o j in
    subst P c.requires.untaken m))
    c.in_ok-give.ensures.front c.in_ok-give.ensures.grown
