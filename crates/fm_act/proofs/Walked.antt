-- Actuators that are brought in turn to hold what is wanted: those up to a place.
use Rattle.std.proofs.Common.{◌≡◌, inl, inr, ℕ, ◌+◌, ◌<◌, ◌≤◌, List, [], ◌∷◌, length, get_or, set}
use Rattle.std.proofs.Common.{Option, None, Some, refl, sym, subst, arith, zero, suc, map}
use Rattle.std.specs.List.{AllZip}
use Rattle.std.specs.Option.{option_or}
use Rattle.fm_act.specs.Reconciled.{ActuatorState, Settled, HasFailed, WasTried, KeepsKind}
use Rattle.fm_act.specs.Reconciled.{FirstFailed, actuator_state, Reconciled, IsActRefusal}
use Rattle.fm_act.specs.declared.faults.ActRefused.{ActRefused}
use Rattle.fm_act.specs.declared.faults.ActRefused.TheVariants.{Act, NoMemory}
use Rattle.std.specs.Prelude.{Err}
use Rattle.std.proofs.lemmas.List.{map-set, get_or-map, length-map}

-- R holds of those before the place, and the others are as they were
abbrev pub UpTo : {X : Type 0} → (X → X → Type 0) → ℕ → List X → List X → Type 0
UpTo R zero xs ys = ys ≡ xs
UpTo R (suc i) [] [] = Unit {0}
UpTo R (suc i) [] (y ∷ ys) = ⊥
UpTo R (suc i) (x ∷ xs) [] = ⊥
UpTo R (suc i) (x ∷ xs) (y ∷ ys) = R x y × UpTo R i xs ys

-- the one at the first place failed, and those behind it and before the second were tried
abbrev pub FirstUpTo : List (List ℕ) → ℕ → ℕ → List ActuatorState → List ActuatorState → Type 0
FirstUpTo wanted k zero xs ys = ⊥
FirstUpTo wanted zero (suc i) (x ∷ xs) (y ∷ ys) =
    HasFailed x y × UpTo (WasTried wanted) i xs ys
FirstUpTo wanted (suc k) (suc i) (x ∷ xs) (y ∷ ys) =
    Settled wanted x y × FirstUpTo wanted k i xs ys
FirstUpTo _ _ _ _ _ = ⊥

pub up_more : {X : Type 0} (R : X → X → Type 0) (i : ℕ) (xs ys : List X) (z d : X)
    → UpTo R i xs ys → i < length ys → R (get_or ys i d) z → UpTo R (suc i) xs (set ys i z)
up_more R zero xs [] z d h lt r = absurd (let no : ⊥ = omega arith in no)
up_more R zero xs (y ∷ ys) z d h lt r = subst (λ w. UpTo R 1 w (z ∷ ys)) h (r, refl)
up_more R (suc i) [] [] z d h lt r = absurd (let no : ⊥ = omega arith in no)
up_more R (suc i) [] (y ∷ ys) z d h lt r = absurd h
up_more R (suc i) (x ∷ xs) [] z d h lt r = absurd h
up_more R (suc i) (x ∷ xs) (y ∷ ys) z d h lt r =
    (h.0, up_more R i xs ys z d h.1 (omega arith) r)

pub first_fails : (wanted : List (List ℕ)) (i : ℕ) (xs ys : List ActuatorState)
    (z d : ActuatorState) → UpTo (Settled wanted) i xs ys → i < length ys
    → HasFailed (get_or ys i d) z → FirstUpTo wanted i (suc i) xs (set ys i z)
first_fails wanted zero xs [] z d h lt r = absurd (let no : ⊥ = omega arith in no)
first_fails wanted zero xs (y ∷ ys) z d h lt r =
    subst (λ w. FirstUpTo wanted 0 1 w (z ∷ ys)) h (r, refl)
first_fails wanted (suc i) [] [] z d h lt r = absurd (let no : ⊥ = omega arith in no)
first_fails wanted (suc i) [] (y ∷ ys) z d h lt r = absurd h
first_fails wanted (suc i) (x ∷ xs) [] z d h lt r = absurd h
first_fails wanted (suc i) (x ∷ xs) (y ∷ ys) z d h lt r =
    (h.0, first_fails wanted i xs ys z d h.1 (omega arith) r)

pub first_more : (wanted : List (List ℕ)) (k i : ℕ) (xs ys : List ActuatorState)
    (z d : ActuatorState) → FirstUpTo wanted k i xs ys → i < length ys
    → WasTried wanted (get_or ys i d) z → FirstUpTo wanted k (suc i) xs (set ys i z)
first_more wanted k zero xs ys z d h lt r = absurd h
first_more wanted zero (suc i) [] ys z d h lt r = absurd h
first_more wanted (suc k) (suc i) [] ys z d h lt r = absurd h
first_more wanted zero (suc i) (x ∷ xs) [] z d h lt r = absurd h
first_more wanted (suc k) (suc i) (x ∷ xs) [] z d h lt r = absurd h
first_more wanted zero (suc i) (x ∷ xs) (y ∷ ys) z d h lt r =
    (h.0, up_more (WasTried wanted) i xs ys z d h.1 (omega arith) r)
first_more wanted (suc k) (suc i) (x ∷ xs) (y ∷ ys) z d h lt r =
    (h.0, first_more wanted k i xs ys z d h.1 (omega arith) r)

-- ---- the end

all_the_same : {X : Type 0} (R : X → X → Type 0) → ((x : X) → R x x) → (xs : List X)
    → AllZip R xs xs
all_the_same R same [] = tt
all_the_same R same (x ∷ xs) = (same x, all_the_same R same xs)

pub kept_up : (i : ℕ) (xs ys : List ActuatorState) → UpTo KeepsKind i xs ys → AllZip KeepsKind xs ys
kept_up zero xs ys h =
    subst (λ w. AllZip KeepsKind w ys) h
    (all_the_same KeepsKind (λ x. record { kind = refl; later = omega arith }) ys)
kept_up (suc i) [] [] h = tt
kept_up (suc i) [] (y ∷ ys) h = absurd h
kept_up (suc i) (x ∷ xs) [] h = absurd h
kept_up (suc i) (x ∷ xs) (y ∷ ys) h = (h.0, kept_up i xs ys h.1)

pub all_up : {X : Type 0} (R : X → X → Type 0) (i : ℕ) (xs ys : List X) → UpTo R i xs ys
    → length ys ≤ i → AllZip R xs ys
all_up R zero xs [] h le = subst (λ w. AllZip R w []) h tt
all_up R zero xs (y ∷ ys) h le = absurd (let no : ⊥ = omega arith in no)
all_up R (suc i) [] [] h le = tt
all_up R (suc i) [] (y ∷ ys) h le = absurd h
all_up R (suc i) (x ∷ xs) [] h le = absurd h
all_up R (suc i) (x ∷ xs) (y ∷ ys) h le = (h.0, all_up R i xs ys h.1 (omega arith))

pub first_up : (wanted : List (List ℕ)) (k i : ℕ) (xs ys : List ActuatorState)
    → FirstUpTo wanted k i xs ys → length ys ≤ i → FirstFailed wanted k xs ys
first_up wanted k zero xs ys h le = absurd h
first_up wanted zero (suc i) [] ys h le = absurd h
first_up wanted (suc k) (suc i) [] ys h le = absurd h
first_up wanted zero (suc i) (x ∷ xs) [] h le = absurd h
first_up wanted (suc k) (suc i) (x ∷ xs) [] h le = absurd h
first_up wanted zero (suc i) (x ∷ xs) (y ∷ ys) h le =
    (h.0, all_up (WasTried wanted) i xs ys h.1 (omega arith))
first_up wanted (suc k) (suc i) (x ∷ xs) (y ∷ ys) h le =
    (h.0, first_up wanted k i xs ys h.1 (omega arith))

-- ---- a turn

-- what has become of all up to a place, where the first that failed is known
abbrev pub Went : List (List ℕ) → Option ℕ → ℕ → List ActuatorState → List ActuatorState → Type 0
Went wanted None i xs ys = UpTo (Settled wanted) i xs ys
Went wanted (Some k) i xs ys = FirstUpTo wanted k i xs ys

pub record HasGone (wanted : List (List ℕ)) (failed : Option ℕ) (i : ℕ)
    (xs ys : List ActuatorState) : Type 0 where
  pub went : Went wanted failed i xs ys
  pub kept : UpTo KeepsKind i xs ys

went_on : (wanted : List (List ℕ)) (failed : Option ℕ) (i : ℕ) (xs ys : List ActuatorState)
    (z d : ActuatorState) → Went wanted failed i xs ys → i < length ys
    → Settled wanted (get_or ys i d) z → Went wanted failed (suc i) xs (set ys i z)
went_on wanted None i xs ys z d h lt r = up_more (Settled wanted) i xs ys z d h lt r
went_on wanted (Some k) i xs ys z d h lt r = first_more wanted k i xs ys z d h lt (inl r)

went_wrong : (wanted : List (List ℕ)) (failed : Option ℕ) (i : ℕ) (xs ys : List ActuatorState)
    (z d : ActuatorState) → Went wanted failed i xs ys → i < length ys
    → HasFailed (get_or ys i d) z → Went wanted (option_or failed (Some i)) (suc i) xs (set ys i z)
went_wrong wanted None i xs ys z d h lt r = first_fails wanted i xs ys z d h lt r
went_wrong wanted (Some k) i xs ys z d h lt r = first_more wanted k i xs ys z d h lt (inr r)

pub gone_on : (wanted : List (List ℕ)) (failed : Option ℕ) (i : ℕ) (xs ys : List ActuatorState)
    (z d : ActuatorState) → HasGone wanted failed i xs ys → i < length ys
    → KeepsKind (get_or ys i d) z → Settled wanted (get_or ys i d) z
    → HasGone wanted failed (i + 1) xs (set ys i z)
gone_on wanted failed i xs ys z d h lt k r =
    let next : suc i ≡ i + 1 = omega arith in
    subst (λ n. HasGone wanted failed n xs (set ys i z)) next (record {
      went = went_on wanted failed i xs ys z d h.went lt r;
      kept = up_more KeepsKind i xs ys z d h.kept lt k;
    })

pub gone_wrong : (wanted : List (List ℕ)) (failed : Option ℕ) (i : ℕ) (xs ys : List ActuatorState)
    (z d : ActuatorState) → HasGone wanted failed i xs ys → i < length ys
    → KeepsKind (get_or ys i d) z → HasFailed (get_or ys i d) z
    → HasGone wanted (option_or failed (Some i)) (i + 1) xs (set ys i z)
gone_wrong wanted failed i xs ys z d h lt k r =
    let next : suc i ≡ i + 1 = omega arith in
    subst (λ n. HasGone wanted (option_or failed (Some i)) n xs (set ys i z)) next (record {
      went = went_wrong wanted failed i xs ys z d h.went lt r;
      kept = up_more KeepsKind i xs ys z d h.kept lt k;
    })

-- ---- of actuators

-- what contracts see of one, by its ghosts
abbrev pub state_of : {A : Type 0} → (A → List ℕ) → (A → Option (List (List ℕ))) → (A → ℕ) → A
    → ActuatorState
state_of kind held failures act = actuator_state (kind act) (held act) (failures act)

state_at : {A : Type 0} (st : A → ActuatorState) (acts : List A) (i : ℕ) (d : A)
    → i < length acts → (i < length (map st acts))
    × (st (get_or acts i d) ≡ get_or (map st acts) i (st d))
state_at st acts i d lt =
    (subst (λ n. i < n) (sym (length-map acts st)) lt, sym (get_or-map st acts i d (st d) lt))

pub turn_done : {A : Type 0} (st : A → ActuatorState) (wanted : List (List ℕ)) (failed : Option ℕ)
    (i : ℕ) (olds : List ActuatorState) (acts : List A) (d new : A)
    → HasGone wanted failed i olds (map st acts) → i < length acts
    → KeepsKind (st (get_or acts i d)) (st new) → Settled wanted (st (get_or acts i d)) (st new)
    → HasGone wanted failed (i + 1) olds (map st (set acts i new))
turn_done st wanted failed i olds acts d new h lt k r =
    let at = state_at st acts i d lt in
    subst (λ ys. HasGone wanted failed (i + 1) olds ys) (sym (map-set st acts i new))
    (gone_on wanted failed i olds (map st acts) (st new) (st d) h at.0
    (subst (λ y. KeepsKind y (st new)) at.1 k)
    (subst (λ y. Settled wanted y (st new)) at.1 r))

pub turn_failed : {A : Type 0} (st : A → ActuatorState) (wanted : List (List ℕ)) (failed : Option ℕ)
    (i : ℕ) (olds : List ActuatorState) (acts : List A) (d new : A)
    → HasGone wanted failed i olds (map st acts) → i < length acts
    → KeepsKind (st (get_or acts i d)) (st new) → HasFailed (st (get_or acts i d)) (st new)
    → HasGone wanted (option_or failed (Some i)) (i + 1) olds (map st (set acts i new))
turn_failed st wanted failed i olds acts d new h lt k r =
    let at = state_at st acts i d lt in
    subst (λ ys. HasGone wanted (option_or failed (Some i)) (i + 1) olds ys)
    (sym (map-set st acts i new))
    (gone_wrong wanted failed i olds (map st acts) (st new) (st d) h at.0
    (subst (λ y. KeepsKind y (st new)) at.1 k)
    (subst (λ y. HasFailed y (st new)) at.1 r))

-- where want of memory ends the work at a place
pub turn_ended : {A : Type 0} (st : A → ActuatorState) (wanted : List (List ℕ)) (failed : Option ℕ)
    (i : ℕ) (olds : List ActuatorState) (acts : List A) (d new : A)
    → HasGone wanted failed i olds (map st acts) → i < length acts
    → KeepsKind (st (get_or acts i d)) (st new)
    → AllZip KeepsKind olds (map st (set acts i new))
turn_ended st wanted failed i olds acts d new h lt k =
    let at = state_at st acts i d lt in
    subst (λ ys. AllZip KeepsKind olds ys) (sym (map-set st acts i new))
    (kept_up (suc i) olds (set (map st acts) i (st new))
    (up_more KeepsKind i olds (map st acts) (st new) (st d) h.kept at.0
    (subst (λ y. KeepsKind y (st new)) at.1 k)))

pub gone_none : (wanted : List (List ℕ)) (xs : List ActuatorState) → HasGone wanted None 0 xs xs
gone_none wanted xs = record { went = refl; kept = refl }

-- where all were tried
pub none_failed : {A : Type 0} (st : A → ActuatorState) (wanted : List (List ℕ)) (i : ℕ)
    (olds : List ActuatorState) (acts : List A)
    → HasGone wanted None i olds (map st acts) → length acts ≤ i
    → AllZip (Settled wanted) olds (map st acts)
none_failed st wanted i olds acts h le =
    all_up (Settled wanted) i olds (map st acts) h.went
    (subst (λ n. n ≤ i) (sym (length-map acts st)) le)

pub one_failed : {A : Type 0} (st : A → ActuatorState) (wanted : List (List ℕ)) (k i : ℕ)
    (olds : List ActuatorState) (acts : List A)
    → HasGone wanted (Some k) i olds (map st acts) → length acts ≤ i
    → FirstFailed wanted k olds (map st acts)
one_failed st wanted k i olds acts h le =
    first_up wanted k i olds (map st acts) h.went
    (subst (λ n. n ≤ i) (sym (length-map acts st)) le)

pub refused_at : (wanted : List (List ℕ)) (at : ℕ) (r : ActRefused) (olds news : List ActuatorState)
    → IsActRefusal at r → FirstFailed wanted at olds news → Reconciled wanted olds news (Err r)
refused_at wanted at (Act index) olds news e h =
    subst (λ k. FirstFailed wanted k olds news) (sym e) h
refused_at wanted at NoMemory olds news e h = tt
