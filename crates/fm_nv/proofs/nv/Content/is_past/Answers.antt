-- The last name is compared, where it is known to be the greatest.
use Rattle.std.proofs.Common.{◌≡◌, ◌-◌, suc, ℕ, List, arith, ap, ◌∙◌, nat_cmp}
use Rattle.std.specs.Ordering.{is_lt}
use Rattle.std.specs.Cmp.Lexicographic.{slice_cmp}
use Rattle.fm_nv.specs.Data.{count}
use Rattle.fm_nv.proofs.Greatest.{past_last}
use Rattle.fm_nv.proofs.nv.Content.is_past.Goals as goal

pub returns-then-self : goal.returns-then-self
returns-then-self c =
    let last : suc (c.len-count.result - 1) ≡ count c.args.self.now =
    omega (arith, c.len-count.ensures.count, c.if-count-eq0.false) in
    past_last c.self.inside.ascending c.is_lt.result c.args.name.now c.name_bytes.result.now
    c.args.self.now _ (c.len-count.result - 1) c.if-self.true c.self.invariant.greatest
    c.self.view_is last c.name_bytes.ensures.name
    (c.is_lt.ensures ∙ ap is_lt (c.cmp.ensures ∙ ap
    (λ (k : List ℕ). slice_cmp nat_cmp c.name_bytes.result.now k) c.as_bytes.ensures.value))
