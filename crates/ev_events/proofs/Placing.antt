-- The places at which a pattern gives its event are the fitting ones at which its condition passes.
use Rattle.std.proofs.Common.{◌≡◌, ◌+◌, ◌&&◌, ℕ, suc, Bool, true, false, cond, List, []}
use Rattle.std.proofs.Common.{◌∷◌, length, filter, map, slice_get, Some, IsPermutation, refl, sym}
use Rattle.std.proofs.Common.{ap, ◌∙◌, arith, inl, inr, if◌then◌else◌}
use Rattle.std.specs.List.Sorted.{IsSortedBy}
use Rattle.std.specs.Map.{keys_of}
use Rattle.std.specs.Ordering.{nat_cmp, is_lt}
use Rattle.std.proofs.lemmas.Bool.{cases_Bool}
use Rattle.fm_topo.specs.Topology.{Topology}
use Rattle.ev_tree.specs.Pattern.{Pattern}
use Rattle.ev_join.specs.Tables.{TableValue, rows_at}
use Rattle.ev_join.specs.declared.table.Row.{Row}
use Rattle.ev_events.specs.Fits.{fits, fitting, places_with}
use Rattle.ev_events.specs.Sheets.{IsTableOf}
use Rattle.ev_events.proofs.Grouped.{count_numbers}
use Rattle.ev_events.specs.Giving.{gives, giving, passes, passes_at, passes_if}
use Rattle.ev_events.proofs.Counting.{often, rising_same, sorted_rise, places_rise, often_passing}
use Rattle.ev_events.proofs.Counting.{often_moved}

module _ (topology : Topology) (vs : List (List ℕ)) (b : List ℕ) (q : Pattern) where
  abbrev kept : List ℕ → List ℕ
  kept ns = filter (passes_at topology vs b q) ns

  kept_more : (at : ℕ) (path : List ℕ) (rest : List ℕ) → slice_get (keys_of topology) at ≡ Some path
      → (f : Bool) → fits vs b q.parts path ≡ f
      → kept (if f then at ∷ rest else rest)
      ≡ (if gives topology vs b q path then at ∷ kept rest else kept rest)
  kept_more at path rest is true e =
      let test : passes_at topology vs b q at ≡ gives topology vs b q path =
      ap (passes_if topology vs b q) is
      ∙ sym (ap (λ (t : Bool). t && passes topology vs b q path q.cond) e) in
      elim (cases_Bool (passes_at topology vs b q at)) [
        | inl so ↦
            let front : kept (at ∷ rest) ≡ at ∷ kept rest = rw so refl in
            front ∙ sym (ap (λ (t : Bool). if t then at ∷ kept rest else kept rest)
            (sym test ∙ so))
        | inr not_so ↦
            let front : kept (at ∷ rest) ≡ kept rest = rw not_so refl in
            front ∙ sym (ap (λ (t : Bool). if t then at ∷ kept rest else kept rest)
            (sym test ∙ not_so))
      ]
  kept_more at path rest is false e =
      sym (ap (λ (t : Bool). if t && passes topology vs b q path q.cond then at ∷ kept rest
      else kept rest) e)

  kept_places : (more : Topology) (at : ℕ)
      → ((i : ℕ) → slice_get (keys_of topology) (at + i) ≡ slice_get (keys_of more) i)
      → kept (places_with (fits vs b q.parts) at more)
      ≡ places_with (gives topology vs b q) at more
  kept_places [] at h = refl
  kept_places (place ∷ more) at h =
      let here : slice_get (keys_of topology) at ≡ Some place.0 =
      let same : at ≡ at + 0 = omega arith in ap (slice_get (keys_of topology)) same ∙ h 0 in
      let rest = kept_places more (suc at) (λ i. let same : suc at + i ≡ at + suc i = omega arith in
      ap (slice_get (keys_of topology)) same ∙ h (suc i)) in
      kept_more at place.0 (places_with (fits vs b q.parts) (suc at) more) here
      (fits vs b q.parts place.0) refl
      ∙ ap (λ (ns : List ℕ). if gives topology vs b q place.0 then at ∷ ns else ns) rest

  pub kept_fitting : kept (fitting topology vs b q.parts) ≡ giving topology vs b q
  kept_fitting =
      kept_places topology 0 (λ i. let same : 0 + i ≡ i = omega arith in
      ap (slice_get (keys_of topology)) same)

-- the numbers of the rows at which the condition passes, sorted
pub places_are : (topology : Topology) (vs : List (List ℕ)) (b : List ℕ) (q : Pattern)
    (t : TableValue) (found sorted : List ℕ) → IsTableOf topology vs q.parts t
    → length b ≡ length vs
    → found ≡ filter (passes_at topology vs b q) (map (λ (r : Row). r.path) (rows_at t b))
    → IsPermutation found sorted → IsSortedBy (λ (m n : ℕ). is_lt (nat_cmp m n)) sorted
    → sorted ≡ giving topology vs b q
places_are topology vs b q t found sorted table full is moved up =
    rising_same sorted (giving topology vs b q) 0 (sorted_rise sorted up)
    (places_rise (gives topology vs b q) 0 topology)
    (λ n.
    let p = passes_at topology vs b q in
    let numbers = map (λ (r : Row). r.path) (rows_at t b) in
    often_moved n found sorted moved ∙ ap (often n) is ∙ often_passing p n numbers
    ∙ ap (λ (m : ℕ). cond (p n) m 0)
    (sym (count_numbers n (rows_at t b)) ∙ table.each b n full)
    ∙ sym (often_passing p n (fitting topology vs b q.parts))
    ∙ ap (often n) (kept_fitting topology vs b q))
