-- Where a name stands among names in event order.
use Rattle.std.proofs.Common.{◌≡◌, ◌+◌, ◌<◌, ℕ, true, false, List, length, get_or}
use Rattle.std.proofs.Common.{refl, sym, ap, subst, ◌∙◌, arith, inl, inr, Option, Some, None}
use Rattle.std.proofs.Common.{slice_get}
use Rattle.std.specs.List.{HoldsAt}
use Rattle.std.specs.List.Sorted.{IsPartitionPoint, IsNonDecreasingBy}
use Rattle.std.specs.declared.cmp.Ordering.{Ordering}
use Rattle.std.specs.declared.cmp.Ordering.TheVariants.{Less, Equal, Greater}
use Rattle.std.specs.Ordering.{is_lt, ordering_index, ordering_reverse}
use Rattle.std.specs.Cmp.{tied_itself}
use Rattle.std.proofs.lemmas.List.Sorted.{searchable_from_sorted}
use Rattle.std.proofs.lemmas.Option.{slice_get_cases, same_Some}
use Rattle.std.proofs.lemmas.Bool.{cases_lt}
use Rattle.fm_name.specs.Events.{event_cmp, event_cmp_total, event_tie}
use Rattle.fm_name.specs.declared.events.EventName.{EventName}
use Rattle.ev_incidence.specs.Sets.{ascends_by}
use Rattle.ev_incidence.proofs.Ascending.{rises_by}
use Rattle.ev_events.specs.Placed.{is_before_name}

pub name_found : (names : List EventName) (name : EventName) (at : ℕ) → at < length names
    → HoldsAt (λ x. event_cmp x name ≡ Equal) names at → slice_get names at ≡ Some name
name_found names name at l h = elim (slice_get_cases names at).1 [
  | inl (x, within, is, same) ↦
      is ∙ ap Some
      (event_tie x name (let P : EventName → Type 0 = λ y. event_cmp y name ≡ Equal in
      subst P same (h x)))
  | inr (past, none) ↦ absurd (omega (arith, past, l))
]

lt_is : (o : Ordering) → is_lt o ≡ true → o ≡ Less
lt_is Less e = refl
lt_is Equal e = cc
lt_is Greater e = cc

not_lt : (o : Ordering) → ordering_reverse o ≡ Less → is_lt o ≡ false
not_lt Less e = cc
not_lt Equal e = refl
not_lt Greater e = refl

pub before_trans : (a b c : EventName) → is_before_name a b ≡ true → is_before_name b c ≡ true
    → is_before_name a c ≡ true
before_trans a b c f g = ap is_lt (event_cmp_total.trans a b c (lt_is _ f) (lt_is _ g))

pub names_rise : (names : List EventName) (name : EventName)
    → ascends_by is_before_name names ≡ true
    → IsNonDecreasingBy (λ x. ordering_index (event_cmp x name)) names
names_rise names name h =
    searchable_from_sorted event_cmp_total (λ (x : EventName). x) names name
    (λ k d low l.
    let up = lt_is _ (rises_by is_before_name before_trans names k (k + 1) d h (omega arith) l) in
    not_lt _ (sym (event_cmp_total.antisymm (get_or names k d) (get_or names (k + 1) d)) ∙ up))

pub name_missing : (names : List EventName) (name : EventName) (at : ℕ)
    → IsPartitionPoint (λ x. event_cmp x name ≡ Less) (λ x. event_cmp x name ≡ Greater) names at
    → (place : ℕ) → slice_get names place ≡ Some name → ⊥
name_missing names name at h place e = elim (slice_get_cases names place).1 [
  | inl (x, within, is, same) ↦
      let n : x ≡ name = same_Some x name (sym is ∙ e) in
      let tied : event_cmp x name ≡ Equal =
      let P : EventName → Type 0 = λ y. event_cmp x y ≡ Equal in
      subst P n (tied_itself event_cmp_total x) in
      elim (cases_lt place at) [
        | inl low ↦ let a : event_cmp x name ≡ Less =
            let P : EventName → Type 0 = λ y. event_cmp y name ≡ Less in
            subst P same (h.0 place x (omega arith) low) in cc
        | inr high ↦ let a : event_cmp x name ≡ Greater =
            let P : EventName → Type 0 = λ y. event_cmp y name ≡ Greater in
            subst P same (h.1 place x high within) in cc
      ]
  | inr (past, none) ↦
      let n : ◌≡◌ {A = Option EventName} None (Some name) = sym none ∙ e in cc
]
