-- The candidates of a rule file are determined, and so is what each instance is made of.
use Rattle.std.proofs.Common.{◌≡◌, ◌<◌, ◌++◌, ◌⊎◌, ℕ, zero, suc}
use Rattle.std.proofs.Common.{List, [], ◌∷◌, map, filter, slice_get, Some}
use Rattle.std.proofs.Common.{refl, sym, ap, ◌∙◌, subst, arith, inl, inr, append_assoc}
use Rattle.std.proofs.lemmas.Option.{same_Some}
use Rattle.fm_topo.specs.Topology.{Topology}
use Rattle.ev_check.specs.CheckedFile.{Linking}
use Rattle.ev_join.specs.Order.{IsNotBefore}
use Rattle.ev_join.specs.Candidates.{IsAmong}
use Rattle.ev_join.proofs.Ordering.{not_before_itself}
use Rattle.ev_graph.specs.declared.instances.Instance.{Instance}
use Rattle.ev_graph.specs.declared.nodes.Node.{Node}
use Rattle.ev_events.specs.Bindings.{AreAllBindings}
use Rattle.ev_events.proofs.Places.{none_is_not}
use Rattle.ev_inst.specs.Guarding.{Derivation, derivation, derivations}
use Rattle.ev_inst.specs.Instances.{AreCandidatesOf, instances_of_all}
use Rattle.ev_inst.specs.Outcomes.{instance_of, is_made}

-- ---- lists of bindings, each before the next
total : (c b : List ℕ) → IsNotBefore c b ⊎ IsNotBefore b c
total c [] = inl tt
total [] (y ∷ ys) = inr tt
total (x ∷ xs) (y ∷ ys) = elim (nat_order x y) [
  | inl less ↦ inr (inl less)
  | inr other ↦ elim other [
    | inl more ↦ inl (inl more)
    | inr same ↦ elim (total xs ys) [
      | inl h ↦ inl (inr (same, h))
      | inr h ↦ inr (inr (sym same, h))
    ]
  ]
] where
  nat_order : (m n : ℕ) → (m < n) ⊎ ((n < m) ⊎ (m ≡ n))
  nat_order zero zero = inr (inr refl)
  nat_order zero (suc n) = inl (omega arith)
  nat_order (suc m) zero = inr (inl (omega arith))
  nat_order (suc m) (suc n) = elim (nat_order m n) [
    | inl less ↦ inl (omega (arith, less))
    | inr other ↦ elim other [
      | inl more ↦ inr (inl (omega (arith, more)))
      | inr same ↦ inr (inr (ap suc same))
    ]
  ]

Ascend : List (List ℕ) → Type 0
Ascend bs = (i j : ℕ) (a b : List ℕ) → i < j → slice_get bs i ≡ Some a → slice_get bs j ≡ Some b
    → IsNotBefore a b → ⊥

Within : List (List ℕ) → List (List ℕ) → Type 0
Within bs cs = (i : ℕ) (b : List ℕ) → slice_get bs i ≡ Some b → IsAmong b cs

ascend_tail : (b : List ℕ) (bs : List (List ℕ)) → Ascend (b ∷ bs) → Ascend bs
unfolding Ascend
ascend_tail b bs h = λ i j x y less s t. h (suc i) (suc j) x y (omega (arith, less)) s t

-- the first of two lists with the same items is the same
first_same : (b c : List ℕ) (bs cs : List (List ℕ)) → Ascend (b ∷ bs) → Ascend (c ∷ cs)
    → IsAmong b (c ∷ cs) → IsAmong c (b ∷ bs) → b ≡ c
unfolding Ascend
first_same b c bs cs h k own other = by own.place own.stands other.place other.stands where
  by : (i : ℕ) → slice_get (c ∷ cs) i ≡ Some b → (j : ℕ) → slice_get (b ∷ bs) j ≡ Some c
      → b ≡ c
  by zero s j t = sym (same_Some c b s)
  by (suc i) s zero t = same_Some b c t
  by (suc i) s (suc j) t = elim (total b c) [
    | inl later ↦ absurd (h 0 (suc j) b c (omega arith) refl t later)
    | inr later ↦ absurd (k 0 (suc i) c b (omega arith) refl s later)
  ]

-- what stands behind the first stands behind the first of the other
tail_within : (b : List ℕ) (bs cs : List (List ℕ)) → Ascend (b ∷ bs)
    → Within (b ∷ bs) (b ∷ cs) → Within bs cs
unfolding Ascend Within
tail_within b bs cs h within = λ i x s. by i x s (within (suc i) x s) where
  by : (i : ℕ) (x : List ℕ) → slice_get bs i ≡ Some x → IsAmong x (b ∷ cs) → IsAmong x cs
  by i x s found = place found.place found.stands where
    place : (j : ℕ) → slice_get (b ∷ cs) j ≡ Some x → IsAmong x cs
    place zero t =
        let same : b ≡ x = same_Some b x t in
        absurd (h 0 (suc i) b x (omega arith) refl s
        (subst (λ (y : List ℕ). IsNotBefore b y) same (not_before_itself b)))
    place (suc j) t = record { place = j; stands = t }

same_lists : (bs cs : List (List ℕ)) → Ascend bs → Ascend cs → Within bs cs → Within cs bs
    → bs ≡ cs
unfolding Within
same_lists [] [] h k own other = refl
same_lists [] (c ∷ cs) h k own other = none_is_not c (other 0 c refl).stands
same_lists (b ∷ bs) [] h k own other = none_is_not b (own 0 b refl).stands
same_lists (b ∷ bs) (c ∷ cs) h k own other =
    let first : b ≡ c = first_same b c bs cs h k (own 0 b refl) (other 0 c refl) in
    let mine : Within bs cs = tail_within b bs cs h
    (subst (λ (x : List ℕ). Within (b ∷ bs) (x ∷ cs)) (sym first) own) in
    let theirs : Within cs bs = tail_within c cs bs k
    (subst (λ (x : List ℕ). Within (c ∷ cs) (x ∷ bs)) first other) in
    let more = same_lists bs cs (ascend_tail b bs h) (ascend_tail c cs k) mine theirs in
    λ i. first i ∷ more i

same_bindings : (topology : Topology) (l : Linking) (bs cs : List (List ℕ))
    → AreAllBindings topology l bs → AreAllBindings topology l cs → bs ≡ cs
unfolding Ascend Within
same_bindings topology l bs cs h k =
    same_lists bs cs h.bindings.ascend k.bindings.ascend
    (λ i b s. k.all b (h.bindings.each i b s)) (λ i b s. h.all b (k.bindings.each i b s))

pub same_candidates : (topology : Topology) (ls : List Linking) (bss css : List (List (List ℕ)))
    → AreCandidatesOf topology ls bss → AreCandidatesOf topology ls css → bss ≡ css
same_candidates topology [] [] [] h k = refl
same_candidates topology [] (bs ∷ bss) css h k = absurd h
same_candidates topology [] [] (cs ∷ css) h k = absurd k
same_candidates topology (l ∷ ls) [] css h k = absurd h
same_candidates topology (l ∷ ls) (bs ∷ bss) [] h k = absurd k
same_candidates topology (l ∷ ls) (bs ∷ bss) (cs ∷ css) h k =
    let first = same_bindings topology l bs cs h.0 k.0 in
    let more = same_candidates topology ls bss css h.1 k.1 in
    λ i. first i ∷ more i

-- ---- each instance is that of its derivation
abbrev pub derived : Topology → List Node → Derivation → Instance
derived topology nodes d = instance_of topology nodes d.linking d.binding

map_again : {X Y Z : Type 0} (f : Y → Z) (g : X → Y) (xs : List X)
    → map f (map g xs) ≡ map (λ x. f (g x)) xs
map_again f g [] = refl
map_again f g (x ∷ xs) = ap (λ (zs : List _). f (g x) ∷ zs) (map_again f g xs)

pub map_both : {X Y : Type 0} (f : X → Y) (xs ys : List X) → map f (xs ++ ys) ≡ map f xs ++ map f ys
map_both f [] ys = refl
map_both f (x ∷ xs) ys = ap (λ (zs : List _). f x ∷ zs) (map_both f xs ys)

pub all_derived : (topology : Topology) (nodes : List Node) (ls : List Linking)
    (css : List (List (List ℕ)))
    → map (derived topology nodes) (derivations topology nodes ls css)
    ≡ instances_of_all topology nodes ls css
all_derived topology nodes [] css = refl
all_derived topology nodes (l ∷ ls) [] = refl
all_derived topology nodes (l ∷ ls) (bs ∷ css) =
    map_both (derived topology nodes) (map (derivation l) (filter (is_made topology nodes l) bs))
    (derivations topology nodes ls css)
    ∙ (λ i. map_again (derived topology nodes) (derivation l) (filter (is_made topology nodes l) bs)
    i ++ all_derived topology nodes ls css i)

pub derivations_push : (topology : Topology) (nodes : List Node) (ls : List Linking)
    (css : List (List (List ℕ))) (l : Linking) (bs : List (List ℕ))
    → AreCandidatesOf topology ls css
    → derivations topology nodes (ls ++ l ∷ []) (css ++ bs ∷ [])
    ≡ derivations topology nodes ls css
    ++ map (derivation l) (filter (is_made topology nodes l) bs)
derivations_push topology nodes [] [] l bs h = empty_behind _ where
  empty_behind : (xs : List Derivation) → xs ++ [] ≡ xs
  empty_behind [] = refl
  empty_behind (x ∷ xs) = ap (λ (zs : List Derivation). x ∷ zs) (empty_behind xs)
derivations_push topology nodes [] (c ∷ css) l bs h = absurd h
derivations_push topology nodes (k ∷ ls) [] l bs h = absurd h
derivations_push topology nodes (k ∷ ls) (c ∷ css) l bs h =
    let own = map (derivation k) (filter (is_made topology nodes k) c) in
    ap (λ (xs : List Derivation). own ++ xs) (derivations_push topology nodes ls css l bs h.1)
    ∙ sym (append_assoc own (derivations topology nodes ls css) _)
