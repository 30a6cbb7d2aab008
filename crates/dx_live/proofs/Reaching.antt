-- What a search found is the part that the root reaches.
use Rattle.std.proofs.Common.{◌≡◌, ◌<◌, ◌^◌, ℕ, true, List, [], ◌∷◌, length, get_or}
use Rattle.std.proofs.Common.{refl, sym, ap, ◌∙◌, arith, eqb, zero, suc}
use Rattle.std.proofs.lemmas.List.{get_or-map}
use Rattle.std.proofs.lemmas.Bool.{or_left, eq-eqb}
use Rattle.ev_incidence.specs.Sets.{is_member, ascends}
use Rattle.ev_incidence.specs.Reached.{IsReach}
use Rattle.ev_incidence.specs.Table.{IncidenceValue, IsIncidence, wiring_of}
use Rattle.ev_incidence.proofs.Occurrences.{in_transposed}
use Rattle.dx_live.specs.Region.{IsLocalTable, IsRegionOf}

-- a list in order, of the same members
pub record IsOrdered (raw xs : List ℕ) : Type 0 where
  pub ascend : ascends xs ≡ true
  pub same : (e : ℕ) → is_member xs e ≡ is_member raw e
  pub few : length xs < 2 ^ 32

pub region_is : (v : IncidenceValue) (root : ℕ) (raw_nodes raw_places nodes places : List ℕ)
    (made : IncidenceValue) → IsIncidence v
    → IsReach v.uses v.effects (root ∷ []) raw_nodes raw_places → IsOrdered raw_nodes nodes
    → IsOrdered raw_places places → IsLocalTable v nodes places made
    → IsRegionOf (wiring_of v) root (record { nodes = nodes; places = places; table = made })
region_is v root raw_nodes raw_places nodes places made inc r n p t = record {
  nodes_ascend = n.ascend;
  places_ascend = p.ascend;
  few_nodes = n.few;
  few_places = p.few;
  incidence = t.incidence;
  node_count = t.count;
  place_count = t.causes.count;
  root_in = n.same root ∙ r.starts_in root (or_left (eqb root root) (is_member [] root)
      (eq-eqb root root refl));
  causes = t.causes.each;
  effects = t.effects.each;
  n = λ i l. ap (λ (xs : List ℕ). get_or xs i 0) t.n
      ∙ get_or-map (λ (j : ℕ). get_or v.n j 0) places i 0 0 l;
  k = λ i l. ap (λ (xs : List ℕ). get_or xs i 0) t.k
      ∙ get_or-map (λ (j : ℕ). get_or v.k j 0) places i 0 0 l;
  out = λ e j e_in cause. p.same j ∙ r.out e j (sym (n.same e) ∙ e_in)
      (in_transposed v.causes v.uses e j inc.uses_is cause);
  into = λ j e j_in effect. n.same e ∙ r.into j e (sym (p.same j) ∙ j_in) effect;
}

pub start_below : (x n i : ℕ) → x < n → i < length (x ∷ []) → get_or (x ∷ []) i 0 < n
start_below x n zero h l = h
start_below x n (suc i) h l = absurd (omega (arith, l))
