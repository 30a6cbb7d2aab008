use Rattle.std.proofs.Common.{rules, ◌∙◌, subst, ap, ◌≡◌, ◌≤◌, ◌-◌, ℕ, Bool, true, false, List}
use Rattle.std.proofs.Common.{length, take, drop}
use Rattle.std.specs.List.{AllWithin}
use Rattle.std.specs.List.Sorted.{IsPartitionedBy, IsPartitionPoint}
use Rattle.fm_topo.specs.Property.{Properties}
use Rattle.std.specs.Ordering.{is_le}
use Rattle.fm_name.specs.Path.{parts_of}
use Rattle.fm_name.specs.Order.{parts_cmp}
use Rattle.fm_topo.specs.Query.{lies_under}
use Rattle.std.proofs.lemmas.Fn.{always_returns_same}
use Rattle.fm_topo.proofs.Ranges.{counted, rest_all, first_parts, then_parts, range_of}
use Rattle.fm_topo.proofs.topo.Topo.children.Goals as goal

pub returns-clause-first : goal.returns-clause-first
returns-clause-first c =
    let es = c.self.inside.places.items in
    let b = rw c.deref.ensures.value at c.partition_point-first.ensures.bound in
    let p = c.partition_point-first.ensures.partitioned
    (λ e. is_le (parts_cmp (parts_of e.0) (parts_of c.args.above.now)))
    (always_returns_same _ _ _ (λ a r q k. search rules))
    (rw c.deref.ensures.value (first_parts es c.args.above.now c.self.invariant.order)) in
    let t = rw c.deref.ensures.value at p in
    rw (← c.self.view_is)
    (counted (λ e. is_le (parts_cmp (parts_of e.0) (parts_of c.args.above.now))) es
    c.partition_point-first.result b t.0 t.1)

pub returns-clause-range : goal.returns-clause-range
returns-clause-range c =
    let es = c.self.inside.places.items in
    let b = rw c.deref.ensures.value at c.partition_point-first.ensures.bound in
    let p = c.partition_point-first.ensures.partitioned
    (λ e. is_le (parts_cmp (parts_of e.0) (parts_of c.args.above.now)))
    (always_returns_same _ _ _ (λ a r q k. search rules))
    (rw c.deref.ensures.value (first_parts es c.args.above.now c.self.invariant.order)) in
    let t = rw c.deref.ensures.value at p in
    let i = c.partition_point-first.result in
    let n = c.partition_point-count.result in
    let r : take (length c.deref-2.result.now - i) (drop i c.deref-2.result.now) ≡ drop i es =
    ap (λ xs. take (length xs - i) (drop i xs)) c.deref-2.ensures.value ∙ rest_all i es in
    let q : List ℕ × Properties → Bool = λ e. lies_under e.0 c.args.above.now in
    let d = c.partition_point-count.ensures.partitioned q
    (always_returns_same _ _ _ (λ a r q k. search rules)) in
    let m : AllWithin (λ y. q y ≡ true) (drop i es) 0 n
    × AllWithin (λ y. q y ≡ false) (drop i es) n (length (drop i es)) =
    subst (λ (xs : List (List ℕ × Properties)). IsPartitionedBy q xs
    → IsPartitionPoint (λ y. q y ≡ true) (λ y. q y ≡ false) xs n) r d
    (then_parts es c.args.above.now c.self.invariant.order i b t.1) in
    let k : n ≤ length (drop i es) =
    subst (λ (xs : List (List ℕ × Properties)). n ≤ length xs) r
    c.partition_point-count.ensures.bound in
    rw (← c.self.view_is) (range_of es c.args.above.now c.self.invariant.order i n b t.0 k m.0 m.1)
