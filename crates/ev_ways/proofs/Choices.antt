-- The choice of the best step.
use Rattle.std.proofs.Common.{◌≡◌, ◌⊎◌, ℕ, List, Option, Some, None, length, inl, inr, subst, sym}
use Rattle.std.proofs.Common.{refl, arith, get_or, ◌<◌, ◌+◌}
use Rattle.ev_ways.specs.Lists.{IsIn, row, IsIndex}
use Rattle.ev_ways.specs.Ways.{Leads}
use Rattle.ev_ways.specs.Search.{far, IsEffectOf}
use Rattle.ev_ways.specs.Best.{IsAtMost, IsBestOf, IsBetter}
use Rattle.ev_ways.specs.declared.step.Step.{Step}
use Rattle.ev_ways.proofs.Membership.{in_place}
use Rattle.ev_ways.proofs.Searches.{one_more}

at_most_from : (t s : Step) (e z : ℕ) → IsAtMost t s.distance s.node → IsAtMost s e z
    → IsAtMost t e z
at_most_from t s e z (inl a) (inl b) = inl (omega (arith, a, b))
at_most_from t s e z (inl a) (inr b) = inl (omega (arith, a, b.0))
at_most_from t s e z (inr a) (inl b) = inl (omega (arith, a.0, b))
at_most_from t s e z (inr a) (inr b) = inr (omega (arith, a.0, b.0), omega (arith, a.1, b.1))

abbrev is_empty_option : Option Step → Type 0
is_empty_option None = Unit {0}
is_empty_option (Some s) = ⊥

pub at_most_same : (s : Step) → IsAtMost s s.distance s.node
at_most_same s = inr (refl, omega arith)

pub better_none : (done all : ℕ → Type 0) (dist : List (Option ℕ)) (old : Option Step)
    → ((z : ℕ) → done z → ⊥) → IsBetter done all dist old old
better_none done all dist old none =
    record {
      from = λ s e. inl e;
      kept = λ s e. (s, e, at_most_same s);
      each =
          λ z e d f. absurd (none z d);
    }

pub better_more : (done more both all part : ℕ → Type 0) (dist : List (Option ℕ))
    (old mid new : Option Step) → IsBetter done all dist old mid → IsBetter more part dist mid new
    → ((z : ℕ) → both z → done z ⊎ more z) → ((z : ℕ) → part z → all z)
    → IsBetter both all dist old new
better_more done more both all part dist old mid new h g split within = record {
  from = λ s e. elim (g.from s e)
      [ inl was ↦ h.from s was | inr fresh ↦ inr (within s.node fresh.0, fresh.1) ];
  kept = λ s e. let m = h.kept s e in let n = g.kept m.0 m.1 in
      (n.0, n.1, at_most_from n.0 m.0 s.distance s.node n.2 m.2);
  each = λ z e b f. elim (split z b) [
    | inl d ↦ let m = h.each z e d f in let n = g.kept m.0 m.1 in
        (n.0, n.1, at_most_from n.0 m.0 e z n.2 m.2)
    | inr m ↦ g.each z e m f
  ];
}

pub better_as : (done done2 all all2 : ℕ → Type 0) (dist : List (Option ℕ)) (old new : Option Step)
    → IsBetter done all dist old new
    → ((z : ℕ) → done2 z → done z) → ((z : ℕ) → all z → all2 z) → IsBetter done2 all2 dist old new
better_as done done2 all all2 dist old new h d a = record {
  from = λ s e. elim (h.from s e)
      [ inl was ↦ inl was | inr fresh ↦ inr (a s.node fresh.0, fresh.1) ];
  kept = h.kept;
  each = λ z e w f. h.each z e (d z w) f;
}

none_is_some : (t : Step) → None ≡ Some t → ⊥
none_is_some t e = let f : Option Step → Type 0 = λ o. is_empty_option o in subst f e tt

pub best_of : (all : ℕ → Type 0) (dist : List (Option ℕ)) (new : Option Step)
    → IsBetter all all dist None new → IsBestOf all dist new
best_of all dist None h = λ z e a f. let t = h.each z e a f in none_is_some t.0 t.1
best_of all dist (Some s) h = record {
  one = (made (h.from s refl)).0;
  stands = (made (h.from s refl)).1;
  least = λ z e a f. let t = h.each z e a f in let same : s ≡ t.0 = some_is (t.1) in
      let P : Step → Type 0 = λ u. IsAtMost u e z in subst P (sym same) t.2;
} where
  made : (None ≡ Some s) ⊎ (all s.node × (far dist s.node ≡ Some s.distance)) → all s.node
      × (far dist s.node ≡ Some s.distance)
  made (inl e) = absurd (none_is_some s e)
  made (inr p) = p

  some_is : {t : Step} → Some s ≡ Some t → s ≡ t
  some_is e = cc

pub best_more : (causes effects uses : List (List ℕ)) (x : ℕ) (dist : List (Option ℕ))
    (best : Option Step) → IsIndex causes uses
    → IsBetter (IsEffectOf effects (row uses x) (length (row uses x))) (Leads causes effects x) dist
    None best → IsBestOf (Leads causes effects x) dist best
best_more causes effects uses x dist best index h = best_of (Leads causes effects x) dist best
    (better_as (IsEffectOf effects (row uses x) (length (row uses x))) (Leads causes effects x)
    (Leads causes effects x) (Leads causes effects x) dist None best h
    (λ y l. let used = index.to x l.arrow l.cause in (
      used.place,
      used.within,
      (let P : ℕ → Type 0 = λ z. IsIn y (row effects z) in subst P (sym used.stands) l.effect),
    ))
    (λ y l. l))

-- one more arrow of the node x
pub best_grows : (causes effects uses : List (List ℕ)) (x k : ℕ) (dist : List (Option ℕ))
    (old mid new : Option Step) → IsIndex causes uses → k < length (row uses x)
    → IsBetter (IsEffectOf effects (row uses x) k) (Leads causes effects x) dist old mid
    → IsBetter (λ y. IsIn y (row effects (get_or (row uses x) k 0)))
    (λ y. IsIn y (row effects (get_or (row uses x) k 0))) dist mid new
    → IsBetter (IsEffectOf effects (row uses x) (k + 1)) (Leads causes effects x) dist old new
best_grows causes effects uses x k dist old mid new index lt h g =
    better_more (IsEffectOf effects (row uses x) k)
    (λ y. IsIn y (row effects (get_or (row uses x) k 0)))
    (IsEffectOf effects (row uses x) (k + 1)) (Leads causes effects x)
    (λ y. IsIn y (row effects (get_or (row uses x) k 0))) dist old mid new h g
    (λ y w. one_more {P = λ a. IsIn y (row effects (get_or (row uses x) a 0))} k w)
    (λ y w. record {
      arrow = get_or (row uses x) k 0;
      cause = index.from x (get_or (row uses x) k 0) (in_place (row uses x) k lt);
      effect = w;
    })
