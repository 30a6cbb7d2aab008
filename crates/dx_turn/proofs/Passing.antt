-- Cases are settled one after the other in their list.
use Rattle.std.proofs.Common.{◌≡◌, ℕ, ◌+◌, ◌<◌, ◌≤◌, ◌≢◌, List, [], ◌∷◌, ◌++◌, length, sym, ap}
use Rattle.std.proofs.Common.{◌∙◌, arith, subst, get_or, take, append-nil, get_or-set_other}
use Rattle.std.proofs.Math.ListN.{set}
use Rattle.std.proofs.lemmas.List.{take_more, take_more_set}
use Rattle.fm_core.specs.Meaning.{OpenCase}
use Rattle.dx_turn.specs.declared.ground.Ground.{Ground}
use Rattle.dx_turn.specs.declared.told.Told.{Told}
use Rattle.dx_turn.specs.declared.tracked.Tracked.{Tracked}
use Rattle.dx_turn.specs.Tracking.{opens_of, opens_in}
use Rattle.dx_turn.specs.Settling.{HasSettled}
use Rattle.dx_turn.proofs.Tracking.{opens_append}
use Rattle.dx_turn.proofs.Settles.{settled_more}

pub opens_more : (ts : List Tracked) (at : ℕ) (e : Tracked) → at < length ts
    → opens_in (take (at + 1) ts) ≡ opens_in (take at ts) ++ opens_of (get_or ts at e)
opens_more ts at e low =
    ap opens_in (take_more ts at e low)
    ∙ opens_append (take at ts) (get_or ts at e ∷ [])
    ∙ ap (λ ks. opens_in (take at ts) ++ ks) (append-nil (opens_of (get_or ts at e)))

opens_put : (ts : List Tracked) (at : ℕ) (t : Tracked) → at < length ts
    → opens_in (take (at + 1) (set ts at t)) ≡ opens_in (take at ts) ++ opens_of t
opens_put ts at t low =
    ap opens_in (take_more_set ts at t low)
    ∙ opens_append (take at ts) (t ∷ [])
    ∙ ap (λ ks. opens_in (take at ts) ++ ks) (append-nil (opens_of t))

-- one more case was settled
pub settled_step : (d : Ground) (all ts : List Tracked) (at : ℕ) (e t : Tracked) (a b c : Told)
    → at < length all → at < length ts → get_or ts at e ≡ get_or all at e
    → HasSettled d (opens_in (take at all)) (opens_in (take at ts)) a b
    → HasSettled d (opens_of (get_or ts at e)) (opens_of t) b c
    → HasSettled d (opens_in (take (at + 1) all)) (opens_in (take (at + 1) (set ts at t))) a c
settled_step d all ts at e t a b c low lower same h k =
    let more = settled_more d (opens_in (take at all)) (opens_of (get_or ts at e))
    (opens_in (take at ts)) (opens_of t) a b c h k in
    subst (λ (ks : List OpenCase). HasSettled d ks (opens_in (take (at + 1) (set ts at t))) a c)
    (ap (λ (x : Tracked). opens_in (take at all) ++ opens_of x) same
    ∙ sym (opens_more all at e low))
    (subst (λ (ks : List OpenCase). HasSettled d
    (opens_in (take at all) ++ opens_of (get_or ts at e)) ks a c)
    (sym (opens_put ts at t lower)) more)

-- the cases that follow are as they were
pub rest_step : (all ts : List Tracked) (at : ℕ) (t : Tracked)
    → ((k : ℕ) (e : Tracked) → at ≤ k → get_or ts k e ≡ get_or all k e)
    → (k : ℕ) (e : Tracked) → at + 1 ≤ k → get_or (set ts at t) k e ≡ get_or all k e
rest_step all ts at t h k e l =
    let other : k ≢ at = omega arith in
    rw get_or-set_other (h k e (omega arith))
