use Rattle.std.proofs.Common.{◌≡◌, ◌++◌, ◌∷◌, [], ◌+◌, ◌<◌, ℕ, List, subst, sym, ap, ◌∙◌}
use Rattle.std.proofs.Common.{sum_by}
use Rattle.std.proofs.Common.{rules, arith}
use Rattle.std.proofs.lemmas.List.Sums.{sum_by_push}
use Rattle.ev_join.specs.Candidates.{links_at}
use Rattle.ev_join.specs.Search.{IsFirstCandidate}
use Rattle.ev_join.proofs.Collecting.{Collected, candidates_more, collected_more, some_link}
use Rattle.ev_join.proofs.joined.collect.Goals as goal

pub returns-in-None-clause-many : goal.returns-in-None-clause-many
returns-in-None-clause-many c =
    let tables = c.args.tables.now in
    let b = c.next.new.front.items in
    let bs = c.candidates.bindings in
    let first : IsFirstCandidate tables c.args.count
    (c.candidates.front.items ++ c.candidates.value ∷ []) b = search rules in
    let more : c.candidates.left < links_at tables b =
    subst (λ k. c.candidates.left < links_at tables k) c.as_slice.ensures.value c.in-None.ensures in
    let linked = c.candidates.invariant.linked in
    let sum = sum_by_push (links_at tables) bs b in
    λ e. (
      bs ++ b ∷ [],
      (
        candidates_more tables c.args.count c.candidates.front.items
            c.candidates.value bs b c.candidates.invariant.collected first,
        omega (arith, more, linked, sum),
      ),
    )

pub candidates-smaller : goal.candidates-smaller
candidates-smaller c =
    let tables = c.args.tables.now in
    let b = c.next.new.front.items in
    let first : IsFirstCandidate tables c.args.count
    (c.candidates.front.items ++ c.candidates.value ∷ []) b = search rules in
    let less : c.in-Some.rest + links_at tables b ≡ c.candidates.left =
    subst (λ k. c.in-Some.rest + links_at tables k ≡ c.candidates.left) c.as_slice.ensures.value
    c.in-Some.ensures in
    let some = some_link tables b c.requires.some first.candidate.fits in
    omega (arith, less, some)

pub candidates-preserved : goal.candidates-preserved
candidates-preserved c =
    let tables = c.args.tables.now in
    let b = c.next.new.front.items in
    let bs = c.candidates.bindings in
    let first : IsFirstCandidate tables c.args.count
    (c.candidates.front.items ++ c.candidates.value ∷ []) b = search rules in
    let less : c.in-Some.rest + links_at tables b ≡ c.candidates.left =
    subst (λ k. c.in-Some.rest + links_at tables k ≡ c.candidates.left) c.as_slice.ensures.value
    c.in-Some.ensures in
    let linked = c.candidates.invariant.linked in
    let sum = sum_by_push (links_at tables) bs b in
    let pushed : c.push.new.self ≡ bs ++ b ∷ [] =
    c.in_ok-push.ensures.ok
    ∙ ap (λ y. bs ++ y ∷ []) (c.in_ok-copy_of.ensures ∙ c.as_slice-in-candidates.ensures.value) in
    let total : c.in-Some.rest + sum_by (links_at tables) (bs ++ b ∷ []) ≡ c.args.limit =
    omega (arith, less, linked, sum) in
    record {
      collected = subst (Collected tables c.args.count c.raise-value.new.front.items
          c.raise-value.result) (sym pushed)
          (collected_more tables c.args.count c.candidates.front.items c.candidates.value bs b
          c.candidates.invariant.collected first c.raise-value.new.front.items
          c.raise-value.result c.raise-value.ensures);
      linked = ap (λ (y : List (List ℕ)). c.in-Some.rest + sum_by (links_at tables) y) pushed
          ∙ total;
    }
