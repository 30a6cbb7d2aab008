-- What clearing, filling and replacing a slot leaves, over any disk.
use Rattle.std.proofs.Common.{◌≡◌, ◌⊎◌, inl, inr, ⊎_elim, ℕ, List, [], ◌∷◌, Bool, Option, Some, sym}
use Rattle.std.proofs.Common.{◌∙◌, ap, subst, arith, length, Result, Ok, Err, OnOk}
use Rattle.std.specs.Option.{option_map}
use Rattle.fm_outer.specs.Bytes.{written, Inside}
use Rattle.fm_outer.specs.Crash.{Torn, TornFrom}
use Rattle.fm_outer.specs.Moments.{IsSettled, LeavesOnly}
use Rattle.fm_outer.specs.declared.disk.Disk.{Ghosts}
use Rattle.fm_outer.proofs.Moments.{leaves-weaker, leaves-then}
use Rattle.fm_slots.specs.Filling.{AllShut, IsOldOrClosed, IsShutOrFilled, IsOldOrReplaced}
use Rattle.fm_slots.specs.Format.{SlotOf, slot_body, IsSlotWithin, IsShut, IsOpenSlot}
use Rattle.fm_slots.specs.InForce.{InForceBeside, IsReplaced}
use Rattle.fm_slots.proofs.Forces.{kept_beside, later_beside}
use Rattle.fm_slots.proofs.Gates.{mapped_from, torn_shut, torn_open, opened, written_shut}

-- a clause of what was done, from two others
pub on_two : {T E : Type 0} (r : Result T E) (P Q R : Type 0) → (P → Q → R) → OnOk r P → OnOk r Q
    → OnOk r R
on_two (Ok v) P Q R both one other = both one other
on_two (Err e) P Q R both one other = tt

module _ {D : Type 0} (g : Ghosts D)
    (seen_is_image : (disk : D) (c : List ℕ) → g.seen disk ≡ Some c → g.images disk c) where
  -- a body may be written behind the gate
  pub inside_shut : (disk : D) → AllShut g disk → Inside 1 (g.seen disk)
  inside_shut disk shut bytes told =
      let gate = shut bytes (seen_is_image disk bytes told) in
      omega (arith, ap length gate.3)

  -- the closed gate was written
  pub shut_leaves : (old new : D)
      → ((bytes : List ℕ) → g.seen old ≡ Some bytes → IsShut bytes → ⊥)
      → LeavesOnly g old new (TornFrom (g.seen old) 0 1)
      → LeavesOnly g old new (IsOldOrClosed (g.images old))
  shut_leaves old new open_gate leaves =
      leaves-weaker g old new (TornFrom (g.seen old) 0 1) (IsOldOrClosed (g.images old)) leaves
      (λ c torn. torn_shut (g.images old) torn.0 c (seen_is_image old torn.0 torn.1)
      (open_gate torn.0 torn.1) torn.2)

  pub all_shut : (old new : D) → g.seen new ≡ option_map (written 0 (0 ∷ [])) (g.seen old)
      → IsSettled g new → AllShut g new
  all_shut old new wrote settled c now =
      let from = mapped_from (written 0 (0 ∷ [])) (g.seen old) c (sym wrote ∙ settled c now) in
      subst IsShut from.2 (written_shut from.0)

  module _ (old mid new : D) (slot : SlotOf) (limits : IsSlotWithin slot.sequence slot.payload)
      (shut : AllShut g old)
      (laid : g.seen mid
      ≡ option_map (written 1 (slot_body slot.sequence slot.payload)) (g.seen old)) where
    -- the gate was opened before the body
    pub open_leaves : LeavesOnly g mid new (TornFrom (g.seen mid) 0 1)
        → LeavesOnly g mid new (IsShutOrFilled slot)
    open_leaves leaves =
        leaves-weaker g mid new (TornFrom (g.seen mid) 0 1) (IsShutOrFilled slot) leaves
        (λ c torn.
        let from = mapped_from (written 1 (slot_body slot.sequence slot.payload)) (g.seen old)
        torn.0 (sym laid ∙ torn.1) in
        torn_open slot.sequence slot.payload limits from.0 c
        (shut from.0 (seen_is_image old from.0 from.1))
        (subst (λ (l : List ℕ). Torn 0 1 l c) (sym from.2) torn.2))

    pub all_open : g.seen new ≡ option_map (written 0 (1 ∷ [])) (g.seen mid) → IsSettled g new
        → (c : List ℕ) → g.images new c → IsOpenSlot c slot.sequence slot.payload
    all_open wrote settled c now =
        let body = slot_body slot.sequence slot.payload in
        let last = mapped_from (written 0 (1 ∷ [])) (g.seen mid) c (sym wrote ∙ settled c now) in
        let from = mapped_from (written 1 body) (g.seen old) last.0 (sym laid ∙ last.1) in
        subst (λ (l : List ℕ). IsOpenSlot l slot.sequence slot.payload) last.2
        (subst (λ (l : List ℕ). IsOpenSlot (written 0 (1 ∷ []) l) slot.sequence slot.payload) from.2
        (opened slot.sequence slot.payload limits from.0
        (shut from.0 (seen_is_image old from.0 from.1))))

  -- a slot that is only cleared
  pub cleared_leaves : (old new : D) (slot : SlotOf)
      → LeavesOnly g old new (IsOldOrClosed (g.images old))
      → LeavesOnly g old new (IsOldOrReplaced (g.images old) slot)
  cleared_leaves old new slot leaves =
      leaves-weaker g old new (IsOldOrClosed (g.images old))
      (IsOldOrReplaced (g.images old) slot) leaves (λ c either. inl either)

  -- one that is cleared and then filled
  pub replaced_leaves : (old mid new : D) (slot : SlotOf)
      → LeavesOnly g old mid (IsOldOrClosed (g.images old))
      → LeavesOnly g mid new (IsShutOrFilled slot)
      → LeavesOnly g old new (IsOldOrReplaced (g.images old) slot)
  replaced_leaves old mid new slot first last =
      leaves-then g old mid new (IsOldOrReplaced (g.images old) slot)
      (cleared_leaves old mid slot first)
      (leaves-weaker g mid new (IsShutOrFilled slot) (IsOldOrReplaced (g.images old) slot) last
      (λ c either. ⊎_elim (λ shut. inl (inr (inr shut))) (λ there. inr there) either))

  -- the one slot in force or the other
  abbrev pub IsEither : Bool → List ℕ → Option (Bool × SlotOf) → SlotOf → List ℕ → Type 0
  IsEither second kept found slot c = InForceBeside second kept c found
      ⊎ InForceBeside second kept c (Some (second, slot))

  module _ (old : D) (kept : List ℕ) (second : Bool) (found : Option (Bool × SlotOf))
      (slot : SlotOf) (may : IsReplaced g old kept second found slot) where
    pub clear_either : (new : D) → LeavesOnly g old new (IsOldOrClosed (g.images old))
        → LeavesOnly g old new (IsEither second kept found slot)
    clear_either new leaves =
        leaves-weaker g old new (IsOldOrClosed (g.images old)) (IsEither second kept found slot)
        leaves
        (λ c either. inl (⊎_elim (may.beside c)
        (λ closed. kept_beside second kept c found may.keeps closed) either))

    pub fill_either : (mid new : D) → LeavesOnly g mid new (IsShutOrFilled slot)
        → LeavesOnly g mid new (IsEither second kept found slot)
    fill_either mid new leaves =
        leaves-weaker g mid new (IsShutOrFilled slot) (IsEither second kept found slot) leaves
        (λ c either. ⊎_elim
        (λ shut. inl (kept_beside second kept c found may.keeps (inr shut)))
        (λ there. inr (later_beside second kept c found slot may.keeps may.later there)) either)

    pub replace_leaves : (mid new : D) → LeavesOnly g old mid (IsOldOrClosed (g.images old))
        → LeavesOnly g mid new (IsShutOrFilled slot)
        → LeavesOnly g old new (IsEither second kept found slot)
    replace_leaves mid new first last =
        leaves-then g old mid new (IsEither second kept found slot) (clear_either mid first)
        (fill_either mid new last)
