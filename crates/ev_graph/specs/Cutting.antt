-- The graph without some links.
use Rattle.std.specs.Prelude.{◌≡◌, ◌==◌, ◌&&◌, ◌||◌, not, ℕ, Bool, true, nat_lt}
use Rattle.std.specs.Prelude.{List, Some, slice_get}
use Rattle.std.specs.List.{list_any, filter}
use Rattle.ev_incidence.specs.Sets.{is_member, ascends_by}
use Rattle.ev_incidence.specs.Wiring.{Wiring}
use Rattle.ev_graph.specs.declared.instances.Link.{Link}

-- links are in order of instance, then effect
abbrev pub is_before_link : Link → Link → Bool
is_before_link a b = nat_lt a.instance b.instance ||
    (a.instance == b.instance && nat_lt a.effect b.effect)

-- these links, as a test of instance and effect
abbrev pub is_cut : List Link → ℕ → ℕ → Bool
is_cut less j e = list_any (λ l. l.instance == j && l.effect == e) less

-- the wiring without the links that a test says are cut: N, K and the causes of each instance stay,
-- and each effect whose link is cut is none any more
abbrev pub without : Wiring → (ℕ → ℕ → Bool) → Wiring
without w cut = record {
  causes = w.causes;
  effects = λ j. filter (λ e. not (cut j e)) (w.effects j);
  n = w.n;
  k = w.k;
}

-- links of the wiring, in order
pub record AreLinks (w : Wiring) (less : List Link) : Type 0 where
  pub ascend : ascends_by is_before_link less ≡ true
  pub links : (i : ℕ) (l : Link) → slice_get less i ≡ Some l
      → is_member (w.effects l.instance) l.effect ≡ true
