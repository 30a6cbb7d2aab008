-- Clearing a node, and an arrow.
use Rattle.std.proofs.Common.{◌≡◌, ◌⊎◌, ℕ, ◌<◌, List, Bool, false, length, get_or, inl, inr, subst}
use Rattle.std.proofs.Math.ListN.{replicate}
use Rattle.ev_ways.specs.Lists.{IsIn, row, marked, IsIndex}
use Rattle.ev_ways.specs.Ways.{Reaches, Leads}
use Rattle.ev_ways.specs.Clearing.{AreClear, LeadClear}
use Rattle.ev_ways.proofs.Walks.{cycle_next, reaches_back}
use Rattle.ev_ways.proofs.Searches.{taken_none}

pub node_clear : (causes effects uses : List (List ℕ)) (x : ℕ) (done old new : List Bool)
    → IsIndex causes uses → LeadClear causes effects done
    → ((k : ℕ) → k < length (row uses x) → marked done (get_or (row uses x) k 0))
    → AreClear causes effects old
    → ((y : ℕ) → marked new y → marked old y ⊎ (y ≡ x)) → AreClear causes effects new
node_clear causes effects uses x done old new index lead all h only = record {
  each = λ y m r. elim (only y m) [
    | inl was ↦ h.each y was r
    | inr e ↦ let P : ℕ → Type 0 = λ z. Reaches causes effects z z in here (subst P e r)
  ];
} where
  here : Reaches causes effects x x → ⊥
  here r = let next = cycle_next causes effects x r in after next.0 next.1 next.2
    where
      after : (z : ℕ) → Leads causes effects x z → Reaches causes effects z z → ⊥
      after z l r = let used = index.to x l.arrow l.cause in
          lead.each l.arrow z (let P : ℕ → Type 0 = λ j. marked done j in
          subst P used.stands (all used.place used.within)) l.effect r

pub arrow_clear : (causes effects : List (List ℕ)) (j : ℕ) (cleared old new : List Bool)
    → AreClear causes effects cleared
    → ((k : ℕ) → k < length (row effects j) → marked cleared (get_or (row effects j) k 0))
    → LeadClear causes effects old
    → ((i : ℕ) → marked new i → marked old i ⊎ (i ≡ j)) → LeadClear causes effects new
arrow_clear causes effects j cleared old new clear all h only = record {
  each = λ i y m w r. elim (only i m) [
    | inl was ↦ h.each i y was w r
    | inr e ↦ let P : ℕ → Type 0 = λ z. IsIn y (row effects z) in here y (subst P e w) r
  ];
} where
  here : (y : ℕ) → IsIn y (row effects j) → Reaches causes effects y y → ⊥
  here y w r = clear.each y
      (let P : ℕ → Type 0 = λ z. marked cleared z in subst P w.stands (all w.place w.within)) r

pub clear_back : (causes effects : List (List ℕ)) (marks : List Bool)
    → AreClear causes effects marks → AreClear effects causes marks
clear_back causes effects marks h =
    record { each = λ x m r. h.each x m (reaches_back effects causes x r) }

pub none_clear : (causes effects : List (List ℕ)) (n : ℕ)
    → AreClear causes effects (replicate n false)
none_clear causes effects n = record { each = λ x m r. taken_none n x m }

pub none_done : (causes effects : List (List ℕ)) (n : ℕ)
    → LeadClear causes effects (replicate n false)
none_done causes effects n = record { each = λ j y m w r. taken_none n j m }
