-- The links of guards as a list: which ones are cut by it, and that a payload breaks no other.
use Rattle.std.proofs.Common.{◌≡◌, ◌<◌, ◌+◌, ◌++◌, ◌&&◌, ◌||◌, ◌==◌, ℕ, zero, suc, Bool, true}
use Rattle.std.proofs.Common.{false, List, [], ◌∷◌, map, filter, slice_get, Option, Some, None}
use Rattle.std.proofs.Common.{refl, sym, ap, ◌∙◌, arith, append_assoc}
use Rattle.std.specs.List.{list_any, list_all}
use Rattle.std.proofs.lemmas.Bool.{eq-eqb, ne_eqb, or_right}
use Rattle.std.proofs.lemmas.List.Folds.{list_any-append}
use Rattle.fm_bytes.proofs.Booleans.{and_true}
use Rattle.ev_expr.specs.declared.settings.Prop.{Prop}
use Rattle.ev_graph.specs.Cutting.{is_cut}
use Rattle.ev_graph.specs.declared.instances.Link.{Link}
use Rattle.ev_guards.specs.Guards.{GuardsValue, broken_by, broken_on, guard_instance, guarded_links}
use Rattle.ev_guards.specs.Guards.{guards_if_any, is_broken, is_guard_of, is_guarded, link_to}
use Rattle.ev_guards.specs.Guards.{links_to}
use Rattle.ev_guards.specs.declared.guards.Guard.{Guard}
use Rattle.ev_guards.specs.declared.guards.GuardedNode.{GuardedNode}

same_effect : (i at e : ℕ) → at ≡ e → (gs : List Guard)
    → is_cut (map (link_to at) gs) i e ≡ list_any (is_guard_of i) gs
same_effect i at e same [] = refl
same_effect i at e same (g ∷ gs) =
    let here : (at == e) ≡ true = eq-eqb at e same in
    (λ j. (g.instance == i && here j) || same_effect i at e same gs j)
    ∙ ap (λ (b : Bool). b || list_any (is_guard_of i) gs) (and_so (g.instance == i)) where
      and_so : (b : Bool) → (b && true) ≡ b
      and_so true = refl
      and_so false = refl

other_effect : (i at e : ℕ) → (at ≡ e → ⊥) → (gs : List Guard)
    → is_cut (map (link_to at) gs) i e ≡ false
other_effect i at e other [] = refl
other_effect i at e other (g ∷ gs) =
    let there : (at == e) ≡ false = ne_eqb at e other in
    (λ j. (g.instance == i && there j) || other_effect i at e other gs j)
    ∙ ap (λ (b : Bool). b || false) (and_not (g.instance == i)) where
      and_not : (b : Bool) → (b && false) ≡ false
      and_not true = refl
      and_not false = refl

cut_both : (i e : ℕ) (xs ys : List Link) → is_cut (xs ++ ys) i e ≡ (is_cut xs i e || is_cut ys i e)
cut_both i e xs ys = list_any-append (λ l. l.instance == i && l.effect == e) xs ys

none_before : (i at e : ℕ) → e < at → (ns : List GuardedNode)
    → is_cut (links_to at ns) i e ≡ false
none_before i at e less [] = refl
none_before i at e less (n ∷ ns) =
    cut_both i e (map (link_to at) n.guards.items) (links_to (suc at) ns)
    ∙ (λ j. other_effect i at e (λ same. omega (arith, less, same)) n.guards.items j
    || none_before i (suc at) e (omega (arith, less)) ns j)

cut_at : (i at k : ℕ) (ns : List GuardedNode) → is_cut (links_to at ns) i (at + k)
    ≡ list_any (is_guard_of i) (guards_if_any (slice_get ns k))
cut_at i at k [] = refl
cut_at i at zero (n ∷ ns) =
    cut_both i (at + 0) (map (link_to at) n.guards.items) (links_to (suc at) ns)
    ∙ (λ j. same_effect i at (at + 0) (omega arith) n.guards.items j
    || none_before i (suc at) (at + 0) (omega arith) ns j)
    ∙ or_none (list_any (is_guard_of i) n.guards.items) where
      or_none : (b : Bool) → (b || false) ≡ b
      or_none true = refl
      or_none false = refl
cut_at i at (suc k) (n ∷ ns) =
    let moved : at + suc k ≡ suc at + k = omega arith in
    cut_both i (at + suc k) (map (link_to at) n.guards.items) (links_to (suc at) ns)
    ∙ (λ j. other_effect i at (at + suc k) (λ same. omega (arith, same)) n.guards.items j
    || is_cut (links_to (suc at) ns) i (moved j))
    ∙ cut_at i (suc at) k ns

pub cut_same : (v : GuardsValue) (i e : ℕ) → is_cut (guarded_links v) i e ≡ is_guarded v i e
cut_same v i e =
    let from : e ≡ 0 + e = omega arith in
    ap (is_cut (guarded_links v) i) from ∙ cut_at i 0 e v.nodes

-- ---- a payload breaks guarded links alone
here_any : (front gs : List Guard) (g : Guard)
    → list_any (is_guard_of g.instance) (front ++ g ∷ gs) ≡ true
here_any [] gs g =
    ap (λ (b : Bool). b || list_any (is_guard_of g.instance) gs)
    (eq-eqb g.instance g.instance refl)
here_any (x ∷ front) gs g =
    or_right (is_guard_of g.instance x) (list_any (is_guard_of g.instance) (front ++ g ∷ gs))
    (here_any front gs g)

only_in : (p : Guard → Bool) (front gs : List Guard)
    → list_all (λ i. list_any (is_guard_of i) (front ++ gs)) (map guard_instance (filter p gs))
    ≡ true
only_in p front [] = refl
only_in p front (g ∷ gs) =
    let moved : (front ++ g ∷ []) ++ gs ≡ front ++ g ∷ gs = append_assoc front (g ∷ []) gs in
    let rest : list_all (λ i. list_any (is_guard_of i) (front ++ g ∷ gs))
    (map guard_instance (filter p gs)) ≡ true =
    ap (λ (all : List Guard). list_all (λ i. list_any (is_guard_of i) all)
    (map guard_instance (filter p gs))) (sym moved) ∙ only_in p (front ++ g ∷ []) gs in
    by (p g) refl rest where
      by : (b : Bool) → p g ≡ b
          → list_all (λ i. list_any (is_guard_of i) (front ++ g ∷ gs))
          (map guard_instance (filter p gs)) ≡ true
          → list_all (λ i. list_any (is_guard_of i) (front ++ g ∷ gs))
          (map guard_instance (filter p (g ∷ gs))) ≡ true
      by true is rest =
          rw is (and_true (list_any (is_guard_of g.instance) (front ++ g ∷ gs))
          (list_all (λ i. list_any (is_guard_of i) (front ++ g ∷ gs))
          (map guard_instance (filter p gs))) (here_any front gs g) rest)
      by false is rest = rw is rest

pub only_guarded : (v : GuardsValue) (e : ℕ) (props : List Prop)
    → list_all (λ i. is_guarded v i e) (broken_by v e props) ≡ true
only_guarded v e props = by (slice_get v.nodes e) where
  by : (o : Option GuardedNode) → list_all (λ i. list_any (is_guard_of i) (guards_if_any o))
      (broken_on v.topology props o) ≡ true
  by None = refl
  by (Some n) = only_in (is_broken v.topology n.path props) [] n.guards.items

pub only_cut : (v : GuardsValue) (e : ℕ) (props : List Prop)
    → list_all (λ i. is_cut (guarded_links v) i e) (broken_by v e props) ≡ true
only_cut v e props =
    same_all (broken_by v e props) ∙ only_guarded v e props where
      same_all : (is : List ℕ) → list_all (λ i. is_cut (guarded_links v) i e) is
          ≡ list_all (λ i. is_guarded v i e) is
      same_all [] = refl
      same_all (i ∷ is) = λ j. cut_same v i e j && same_all is j
