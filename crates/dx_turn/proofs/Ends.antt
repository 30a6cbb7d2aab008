-- Open cases at the end of a turn.
use Rattle.std.proofs.Common.{◌≡◌, ℕ, ◌+◌, ◌<◌, Bool, true, false, List, [], ◌∷◌, ◌++◌, length}
use Rattle.std.proofs.Common.{map, refl, sym, ap, ◌∙◌, Option, Some, None, get_or, take}
use Rattle.std.proofs.Math.ListN.{set}
use Rattle.std.specs.List.{filter, list_all}
use Rattle.std.proofs.lemmas.Bool.{false≢true}
use Rattle.std.proofs.lemmas.List.{take_more, take_more_set, map-append}
use Rattle.dx_case.specs.declared.case.Case.{Case}
use Rattle.dx_turn.specs.declared.tracked.Tracked.{Tracked}
use Rattle.dx_turn.specs.Tracking.{tracked_cases, cases_before}
use Rattle.dx_turn.specs.Standing.{still_of, after_turn, before_turn, has_kept, is_still}

-- one more was changed so
pub changed_step : (f : Tracked → Tracked) (all ts : List Tracked) (at : ℕ) (e t : Tracked)
    → at < length all → at < length ts → t ≡ f (get_or ts at e)
    → get_or ts at e ≡ get_or all at e → take at ts ≡ map f (take at all)
    → take (at + 1) (set ts at t) ≡ map f (take (at + 1) all)
changed_step f all ts at e t low lower is same h =
    take_more_set ts at t lower
    ∙ ap (λ (xs : List Tracked). xs ++ t ∷ []) h
    ∙ ap (λ (x : Tracked). map f (take at all) ++ x ∷ []) (is ∙ ap f same)
    ∙ sym (map-append f (take at all) (get_or all at e ∷ []))
    ∙ ap (map f) (sym (take_more all at e low))

-- the cases that are left
left_one : (kept changed : Option Case) (decided : Bool) (ts : List Tracked)
    → filter has_kept (map after_turn ts) ≡ map still_of (tracked_cases ts)
    → filter has_kept (map after_turn
    (record { kept = kept; changed = changed; decided = decided } ∷ ts))
    ≡ map still_of (tracked_cases (record { kept = kept; changed = changed; decided = decided } ∷
    ts))
left_one kept changed true ts h = h
left_one kept (Some c) false ts h = ap (λ (xs : List Tracked). still_of c ∷ xs) h
left_one (Some c) None false ts h = ap (λ (xs : List Tracked). still_of c ∷ xs) h
left_one None None false ts h = h

pub left_cases : (ts : List Tracked)
    → filter has_kept (map after_turn ts) ≡ map still_of (tracked_cases ts)
left_cases [] = refl
left_cases (t ∷ ts) = left_one t.kept t.changed t.decided ts (left_cases ts)

-- the cases from before
back_one : (kept changed : Option Case) (decided : Bool) (ts : List Tracked)
    → filter has_kept (map before_turn ts) ≡ map still_of (cases_before ts)
    → filter has_kept (map before_turn
    (record { kept = kept; changed = changed; decided = decided } ∷ ts))
    ≡ map still_of (cases_before (record { kept = kept; changed = changed; decided = decided } ∷
    ts))
back_one (Some c) changed decided ts h = ap (λ (xs : List Tracked). still_of c ∷ xs) h
back_one None changed decided ts h = h

pub back_cases : (ts : List Tracked)
    → filter has_kept (map before_turn ts) ≡ map still_of (cases_before ts)
back_cases [] = refl
back_cases (t ∷ ts) = back_one t.kept t.changed t.decided ts (back_cases ts)

-- those that the turn has not changed are left as they are
still_one : (kept changed : Option Case) (decided : Bool) (ts : List Tracked)
    → list_all is_still (record { kept = kept; changed = changed; decided = decided } ∷ ts) ≡ true
    → (list_all is_still ts ≡ true → ts ≡ map still_of (tracked_cases ts))
    → record { kept = kept; changed = changed; decided = decided } ∷ ts
    ≡ map still_of (tracked_cases (record { kept = kept; changed = changed; decided = decided } ∷
    ts))
still_one None changed decided ts h k = absurd (false≢true h)
still_one (Some c) (Some d) decided ts h k = absurd (false≢true h)
still_one (Some c) None true ts h k = absurd (false≢true h)
still_one (Some c) None false ts h k = ap (λ (xs : List Tracked). still_of c ∷ xs) (k h)

pub still_cases : (ts : List Tracked) → list_all is_still ts ≡ true
    → ts ≡ map still_of (tracked_cases ts)
still_cases [] h = refl
still_cases (t ∷ ts) h = still_one t.kept t.changed t.decided ts h (still_cases ts)
