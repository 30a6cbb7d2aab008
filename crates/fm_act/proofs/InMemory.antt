-- What an actuator in memory holds, call by call.
use Rattle.std.proofs.Common.{◌≡◌, inl, inr, ℕ, List, Bool, true, false, cond, refl, sym, ap, ◌∙◌}
use Rattle.std.proofs.Common.{subst, Option, None, Some}
use Rattle.std.specs.Prelude.{◌⊎◌, ◌↔◌, IsTrue, IfSome, if◌then◌else◌}
use Rattle.std.specs.declared.cmp.Ordering.{Ordering}
use Rattle.std.specs.declared.cmp.Ordering.TheVariants.{Less, Equal, Greater}
use Rattle.std.specs.Ordering.{is_eq}
use Rattle.std.specs.BTreeMap.{is_at}
use Rattle.std.specs.BTreeSet.{BTreeSet, contains, Updates}
use Rattle.std.specs.Cmp.{tied_itself}
use Rattle.std.proofs.lemmas.Map.Views.{btree_set_contains_iff}
use Rattle.fm_name.specs.Order.{path_cmp}
use Rattle.fm_name.specs.OrderLaws.{path_cmp_total, path_tie}
use Rattle.fm_act.specs.HeldPaths.{listed_at, AddsPath, TakesPath}
use Rattle.fm_act.specs.MemActuator.{MemActuatorState, are_in_order, told_paths}

-- one that ascends is told
told : (act : MemActuatorState) → are_in_order act.held ≡ true → told_paths act ≡ Some act.held
told act e = ap (λ b. if b then Some act.held else None) e

at_key : (path q : List ℕ) (b : Bool) → is_at (path_cmp path) q ≡ b → (b ≡ true → q ≡ path)
    × (b ≡ false → q ≡ path → ⊥)
at_key path q true e = ((λ t. sym (path_tie path q (equal_at (path_cmp path q) e))), (λ f. cc))
  where
    equal_at : (o : Ordering) → is_eq o ≡ true → o ≡ Equal
    equal_at Less e = cc
    equal_at Equal e = refl
    equal_at Greater e = cc
at_key path q false e = (
  (λ t. cc),
  (λ f same.
      let tied = tied_itself path_cmp_total path in
      let this : is_eq (path_cmp path path) ≡ false =
      ap (λ z. is_eq (path_cmp path z)) (sym same) ∙ e in
      cc),
)

adds_at : (b c : Bool) (path q : List ℕ) → ((b ≡ true → q ≡ path) × (b ≡ false → q ≡ path → ⊥))
    → (IsTrue (cond b true c)) ↔ ((q ≡ path) ⊎ IsTrue c)
adds_at true c path q h = ((λ t. inl (h.0 refl)), (λ e. refl))
adds_at false c path q h = ((λ t. inr t), case_of_two)
  where
    case_of_two : (q ≡ path) ⊎ IsTrue c → IsTrue c
    case_of_two (inl e) = absurd (h.1 refl e)
    case_of_two (inr t) = t

takes_at : (b c : Bool) (path q : List ℕ) → ((b ≡ true → q ≡ path) × (b ≡ false → q ≡ path → ⊥))
    → (IsTrue (cond b false c)) ↔ (((q ≡ path) → ⊥) × IsTrue c)
takes_at true c path q h = ((λ t. cc), (λ both. absurd (both.0 (h.0 refl))))
takes_at false c path q h = ((λ t. (h.1 refl, t)), (λ both. both.1))

pub adds_told : (path : List ℕ) (old new : MemActuatorState) (s n : BTreeSet (List ℕ))
    → old.held ≡ s.keys → new.held ≡ n.keys → are_in_order old.held ≡ true
    → are_in_order new.held ≡ true → Updates path_cmp s n path true
    → AddsPath path (told_paths old) (told_paths new)
adds_told path old new s n e f a b u =
    subst (λ z. AddsPath path z (told_paths new)) (sym (told old a ∙ ap Some e))
    (subst (λ z. AddsPath path (Some s.keys) z) (sym (told new b ∙ ap Some f)) (λ q.
    let was = btree_set_contains_iff path_cmp_total path_tie s q in
    let is = btree_set_contains_iff path_cmp_total path_tie n q in
    let key = at_key path q (is_at (path_cmp path) q) refl in
    let at = adds_at (is_at (path_cmp path) q) (contains path_cmp s q) path q key in (
      (λ c. or_kept (at.0 (sym (u.0 q) ∙ is.1 c)) was.0),
      (λ either. is.0 (u.0 q ∙ at.1 (or_kept either was.1))),
    )))
  where
    or_kept : {A B C : Type 0} → A ⊎ B → (B → C) → A ⊎ C
    or_kept (inl a) g = inl a
    or_kept (inr b) g = inr (g b)

pub takes_told : (path : List ℕ) (old new : MemActuatorState) (s n : BTreeSet (List ℕ))
    → old.held ≡ s.keys → new.held ≡ n.keys → are_in_order old.held ≡ true
    → are_in_order new.held ≡ true → Updates path_cmp s n path false
    → TakesPath path (told_paths old) (told_paths new)
takes_told path old new s n e f a b u =
    subst (λ z. TakesPath path z (told_paths new)) (sym (told old a ∙ ap Some e))
    (subst (λ z. TakesPath path (Some s.keys) z) (sym (told new b ∙ ap Some f)) (λ q.
    let was = btree_set_contains_iff path_cmp_total path_tie s q in
    let is = btree_set_contains_iff path_cmp_total path_tie n q in
    let key = at_key path q (is_at (path_cmp path) q) refl in
    let at = takes_at (is_at (path_cmp path) q) (contains path_cmp s q) path q key in (
      (λ c. let both = at.0 (sym (u.0 q) ∙ is.1 c) in (both.0, was.0 both.1)),
      (λ both. is.0 (u.0 q ∙ at.1 (both.0, was.1 both.1))),
    )))

told_or : (b : Bool) (held : List (List ℕ)) (at : ℕ) (r : Option (List ℕ)) → r ≡ listed_at held at
    → IfSome (if b then Some held else None) (λ paths. r ≡ listed_at paths at)
told_or true held at r e = e
told_or false held at r e = tt

pub found_told : (act : MemActuatorState) (at : ℕ) (r : Option (List ℕ))
    → r ≡ listed_at act.held at
    → IfSome (told_paths act) (λ paths. r ≡ listed_at paths at)
found_told act at r e = told_or (are_in_order act.held) act.held at r e
