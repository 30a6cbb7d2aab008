-- What a torn gate leaves, and a body behind a closed gate.
use Rattle.std.proofs.Common.{◌≡◌, ◌≢◌, ◌⊎◌, inl, inr, ℕ, ◌+◌, ◌<◌, List, [], ◌∷◌, ◌++◌}
use Rattle.std.proofs.Common.{length}
use Rattle.std.proofs.Common.{take, drop, Option, Some, None, refl, sym, ◌∙◌, ap, subst, arith}
use Rattle.std.specs.Option.{option_map}
use Rattle.std.proofs.lemmas.Bool.{cases_eq}
use Rattle.std.proofs.lemmas.Bool.Decides.{nat_tests}
use Rattle.fm_outer.specs.Bytes.{range, written}
use Rattle.fm_outer.specs.Crash.{Torn}
use Rattle.fm_slots.specs.Format.{slot_body, IsSlotWithin, IsOpenSlot, IsShut}
use Rattle.fm_slots.specs.Format.{cleared_slot}
use Rattle.fm_slots.specs.Filling.{IsOldOrClosed}

-- what an image is where it is told
pub told_is : (o : Option (List ℕ)) (c d : List ℕ) → o ≡ Some c → o ≡ Some d → c ≡ d
told_is o c d one other = cc

pub mapped_from : (f : List ℕ → List ℕ) (o : Option (List ℕ)) (c : List ℕ)
    → option_map f o ≡ Some c → (d : List ℕ) × (o ≡ Some d) × (f d ≡ c)
mapped_from f None c is = absurd (none_not_some is)
  where
    none_not_some : None ≡ Some c → ⊥
    none_not_some same = cc same
mapped_from f (Some d) c is = (d, refl, some_same is)
  where
    some_same : Some (f d) ≡ Some c → f d ≡ c
    some_same same = cc same

head_same : (g h : ℕ) → g ∷ [] ≡ h ∷ [] → g ≡ h
head_same g h same = cc same

-- only the gate is torn
pub gate_torn : (gate : ℕ) (body c : List ℕ) → Torn 0 1 (gate ∷ body) c
    → (now : ℕ) × (c ≡ now ∷ body)
gate_torn gate body [] torn = absurd (omega (arith, torn.no_shorter))
gate_torn gate body (now ∷ rest) torn = (now, ap (λ (l : List ℕ). now ∷ l) torn.after)

-- bytes with a gate are open or shut
pub shut_or_open : (gate : ℕ) (rest : List ℕ) → (gate ≡ 1) ⊎ IsShut (gate ∷ rest)
shut_or_open gate rest =
    elim (cases_eq gate 1) [ inl is ↦ inl is | inr is ↦ inr (gate, rest, is, refl) ]

pub not_shut : (gate : ℕ) (rest : List ℕ) → (IsShut (gate ∷ rest) → ⊥) → gate ≡ 1
not_shut gate rest open_gate =
    elim (shut_or_open gate rest) [ inl is ↦ is | inr shut ↦ absurd (open_gate shut) ]

pub none_is_not_shut : (bytes : List ℕ) → length bytes ≡ 0 → IsShut bytes → ⊥
none_is_not_shut bytes none shut = omega (arith, none, ap length shut.3)

pub open_is_not_shut : (bytes : List ℕ) → range 0 1 bytes ≡ 1 ∷ [] → IsShut bytes → ⊥
open_is_not_shut bytes is shut =
    shut.2 (head_same shut.0 1 (sym (ap (λ (l : List ℕ). range 0 1 l) shut.3) ∙ is))

pub shut_there : (bytes : List ℕ) (gate : ℕ) → range 0 1 bytes ≡ gate ∷ [] → gate ≢ 1
    → IsShut bytes
shut_there [] gate is closed = absurd (none is)
  where
    none : [] ≡ gate ∷ [] → ⊥
    none same = cc same
shut_there (first ∷ rest) gate is closed =
    (first, rest, λ same. closed (sym (head_same first gate is) ∙ same), refl)

-- a gate that is torn where it isn't a closed one: as before, or a closed slot
pub torn_shut : (images : List ℕ → Type 0) (d c : List ℕ) → images d → (IsShut d → ⊥) → Torn 0 1 d c
    → IsOldOrClosed images c
torn_shut images [] c here open_gate torn =
    let short = torn.no_longer in
    let few : length c < 13 = omega (arith, short) in
    inr (inl few)
torn_shut images (gate ∷ rest) c here open_gate torn =
    let now = gate_torn gate rest c torn in
    elim (shut_or_open now.0 rest) [
      | inl is ↦ inl (subst images
          (ap (λ (g : ℕ). g ∷ rest) (not_shut gate rest open_gate ∙ sym is) ∙ sym now.1) here)
      | inr shut ↦ inr (inr (subst IsShut (sym now.1) shut))
    ]

-- the closed gate, where none was
pub cleared_is : (bytes : List ℕ) → (IsShut bytes → ⊥)
    → written 0 (0 ∷ []) bytes ≡ cleared_slot bytes
cleared_is [] open_gate = refl
cleared_is (gate ∷ rest) open_gate =
    sym (ap (λ (g : ℕ). cleared_slot (g ∷ rest)) (not_shut gate rest open_gate))

pub cleared_shut : (bytes : List ℕ) → IsShut bytes → cleared_slot bytes ≡ bytes
cleared_shut bytes shut =
    subst (λ (l : List ℕ). cleared_slot l ≡ l) (sym shut.3) (same shut.0 shut.1 shut.2)
  where
    same : (gate : ℕ) (rest : List ℕ) → gate ≢ 1 → cleared_slot (gate ∷ rest) ≡ gate ∷ rest
    same gate rest closed = grind (arith, nat_tests, closed)

pub written_shut : (bytes : List ℕ) → IsShut (written 0 (0 ∷ []) bytes)
written_shut bytes = (0, drop 1 bytes, λ e. omega (arith, e), refl)

-- what is torn behind a closed gate
pub torn_behind : (n : ℕ) (d c : List ℕ) → IsShut d → Torn 1 n d c → IsShut c
torn_behind n d [] shut torn = absurd (omega (arith, torn.no_shorter, ap length shut.3))
torn_behind n d (gate ∷ rest) shut torn =
    let same : gate ∷ [] ≡ shut.0 ∷ [] = torn.before ∙ ap (take 1) shut.3 in
    (gate, rest, λ is. shut.2 (sym (head_same gate shut.0 same) ∙ is), refl)

-- a body behind a closed gate
body_behind : (xs body : List ℕ) (shut : IsShut xs) → (rest : List ℕ)
    × (written 1 body xs ≡ shut.0 ∷ (body ++ rest))
body_behind xs body shut =
    (drop (1 + length body) (shut.0 ∷ shut.1), ap (λ (l : List ℕ). written 1 body l) shut.3)

module _ (sequence : ℕ) (payload : List ℕ) (limits : IsSlotWithin sequence payload) where
  -- with the gate torn before it
  pub torn_open : (xs c : List ℕ) → IsShut xs
      → Torn 0 1 (written 1 (slot_body sequence payload) xs) c
      → IsShut c ⊎ IsOpenSlot c sequence payload
  torn_open xs c shut torn =
      let behind = body_behind xs (slot_body sequence payload) shut in
      let body = slot_body sequence payload ++ behind.0 in
      let now = gate_torn shut.0 body c (subst (λ (l : List ℕ). Torn 0 1 l c) behind.1 torn) in
      elim (shut_or_open now.0 body) [
        | inl is ↦ inr (record {
          rest = behind.0;
          bytes_are = now.1 ∙ ap (λ (g : ℕ). g ∷ body) is;
          limits = limits;
        })
        | inr closed ↦ inl (subst IsShut (sym now.1) closed)
      ]

  -- and with the gate open
  pub opened : (xs : List ℕ) → IsShut xs
      → IsOpenSlot (written 0 (1 ∷ []) (written 1 (slot_body sequence payload) xs)) sequence payload
  opened xs shut =
      let behind = body_behind xs (slot_body sequence payload) shut in
      record {
        rest = behind.0;
        bytes_are = ap (λ (l : List ℕ). written 0 (1 ∷ []) l) behind.1;
        limits = limits;
      }
