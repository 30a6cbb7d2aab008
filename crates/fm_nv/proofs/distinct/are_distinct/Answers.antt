-- One name more, from the end.
use Rattle.std.proofs.Common.{rules, ◌≡◌, ◌<◌, ◌≤◌, Bool, true, false, not, Bor, List, ℕ, refl, sym}
use Rattle.std.proofs.Common.{ap, ◌∙◌, arith, nat_cmp}
use Rattle.std.proofs.lemmas.Bool.{false≢true}
use Rattle.std.specs.BTreeSet.{contains}
use Rattle.std.specs.Cmp.Lexicographic.{slice_cmp}
use Rattle.fm_nv.specs.Data.{no_pairs, count, has, from}
use Rattle.fm_nv.specs.Spelled.{distinct}
use Rattle.fm_nv.proofs.Apart.{twice_there, new_there, one_more}
use Rattle.fm_nv.proofs.Places.{from_past, from_zero}
use Rattle.fm_nv.proofs.distinct.are_distinct.Goals as goal

of_not : (a b : Bool) → a ≡ not b → a ≡ false → b ≡ true
of_not a true e h = refl
of_not a false e h = sym h ∙ e

of_new : (a b : Bool) → a ≡ not b → a ≡ true → b ≡ false
of_new a true e h = absurd (false≢true (sym e ∙ h))
of_new a false e h = refl

pub pairs-init : goal.pairs-init
pairs-init c =
    let none : from c.len-at.result c.args.pairs.now ≡ no_pairs =
    from_past c.args.pairs.now c.len-at.result (omega (arith, c.len-at.ensures.count)) in (
      omega (arith, c.len-at.ensures.count),
      λ q.
          let empty : contains (λ (a b : Bor (List ℕ)). slice_cmp nat_cmp a.now b.now)
          c.new-behind.result q ≡ false = search rules in
          empty ∙ sym (ap (has q.now) none),
      ap distinct none,
    )

pub returns-then-not-branch : goal.returns-then-not-branch
returns-then-not-branch c =
    let there = of_not _ _ c.in_ok-insert.ensures.added c.if-not-branch.true in
    let known = sym (c.pairs.invariant.1 c.name_bytes.result) ∙ there in
    let above : 0 < c.pairs.at = omega arith in
    let name = c.name_bytes.ensures.name in
    sym (twice_there _ _ c.pairs.invariant.0 above
    (ap (λ (k : List ℕ). has k (from c.pairs.at c.args.pairs.now)) (sym name) ∙ known))

pub pairs-preserved : goal.pairs-preserved
pairs-preserved c =
    let new = of_new _ _ c.in_ok-insert.ensures.added c.if-not-branch.false in
    let known = sym (c.pairs.invariant.1 c.name_bytes.result) ∙ new in
    let above : 0 < c.pairs.at = omega arith in
    let name = c.name_bytes.ensures.name in
    let within : c.pairs.at ≤ count c.args.pairs.now = c.pairs.invariant.0 in (
      omega (arith, within),
      λ q. one_more _ _ c.name_bytes.result.now q.now _ _ within above name
          (c.in_ok-insert.ensures.updates.0 q) (c.pairs.invariant.1 q),
      new_there _ _ within above
          (ap (λ (k : List ℕ). has k (from c.pairs.at c.args.pairs.now)) (sym name) ∙ known)
          c.pairs.invariant.2,
    )

pub returns : goal.returns
returns c =
    let all : from c.pairs.at c.args.pairs.now ≡ c.args.pairs.now =
    from_zero c.args.pairs.now c.pairs.at (omega arith) in
    sym (sym (ap distinct all) ∙ c.pairs.invariant.2)
