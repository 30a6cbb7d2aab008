-- What the slots of an open store say, in each of their images.
use Rattle.std.proofs.Common.{◌≡◌, ℕ, List, Bool, true, false, Option, Some, None, refl, sym, ◌∙◌}
use Rattle.std.proofs.Common.{subst, nat_lt}
use Rattle.std.specs.Prelude.{if◌then◌else◌}
use Rattle.std.proofs.lemmas.Option.{same_Some}
use Rattle.fm_outer.specs.Moments.{IsSettled}
use Rattle.fm_outer.specs.declared.disk.Disk.{Ghosts}
use Rattle.fm_slots.specs.Format.{SlotOf, IsSlot}
use Rattle.fm_slots.specs.InForce.{in_force, InForce, InForceBeside, KeepsInForce}
use Rattle.fm_looks.specs.Bases.{newest_of}
use Rattle.fm_store.specs.StoreOf.{fills_second, of_two}

-- the slot that the next checkpoint doesn't write is the one in force, or none is
kept_two : (s t : SlotOf) (x y : List ℕ) → IsSlot x (Some s) → IsSlot y (Some t) → (test : Bool)
    → KeepsInForce (fills_second (newest_of (if test then Some (true, t) else Some (false, s))))
    (of_two (fills_second (newest_of (if test then Some (true, t) else Some (false, s)))) y x)
    (if test then Some (true, t) else Some (false, s))
kept_two s t x y a b true = record { slot = Some t; reads = b; is = refl }
kept_two s t x y a b false = record { slot = Some s; reads = a; is = refl }

kept_slots : (s t : Option SlotOf) (x y : List ℕ) → IsSlot x s → IsSlot y t
    → KeepsInForce (fills_second (newest_of (in_force s t)))
    (of_two (fills_second (newest_of (in_force s t))) y x) (in_force s t)
kept_slots None None x y a b = record { slot = None; reads = b; is = refl }
kept_slots None (Some t) x y a b = record { slot = Some t; reads = b; is = refl }
kept_slots (Some s) None x y a b = record { slot = Some s; reads = a; is = refl }
kept_slots (Some s) (Some t) x y a b =
    kept_two s t x y a b (nat_lt s.sequence t.sequence)

-- beside the other one
force_beside : (second : Bool) (x y : List ℕ) (found : Option (Bool × SlotOf)) → InForce x y found
    → InForceBeside second (of_two second y x) (of_two second x y) found
force_beside true x y found force = force
force_beside false x y found force = force

module _ {D : Type 0} (g : Ghosts D) (slot_a slot_b : D) (x y : List ℕ)
    (settled_a : IsSettled g slot_a) (settled_b : IsSettled g slot_b)
    (told_a : g.seen slot_a ≡ Some x) (told_b : g.seen slot_b ≡ Some y) where
  -- an image of a synced disk is what it tells
  image_kept : (second : Bool) (c : List ℕ) → g.images (of_two second slot_b slot_a) c
      → of_two second y x ≡ c
  image_kept true c image = same_Some x c (sym told_a ∙ settled_a c image)
  image_kept false c image = same_Some y c (sym told_b ∙ settled_b c image)

  image_other : (second : Bool) (c : List ℕ) → g.images (of_two second slot_a slot_b) c
      → of_two second x y ≡ c
  image_other true c image = same_Some y c (sym told_b ∙ settled_b c image)
  image_other false c image = same_Some x c (sym told_a ∙ settled_a c image)

  module _ (s t : Option SlotOf) (a : IsSlot x s) (b : IsSlot y t) (newest : Option (Bool × ℕ))
      (newest_is : newest ≡ newest_of (in_force s t)) where
    pub images_keep : (c : List ℕ) → g.images (of_two (fills_second newest) slot_b slot_a) c
        → KeepsInForce (fills_second newest) c (in_force s t)
    images_keep c image =
        subst (λ (l : List ℕ). KeepsInForce (fills_second newest) l (in_force s t))
        (image_kept (fills_second newest) c image)
        (subst (λ (n : Option (Bool × ℕ)).
        KeepsInForce (fills_second n) (of_two (fills_second n) y x) (in_force s t))
        (sym newest_is) (kept_slots s t x y a b))

    pub images_beside : (c other : List ℕ)
        → g.images (of_two (fills_second newest) slot_b slot_a) c
        → g.images (of_two (fills_second newest) slot_a slot_b) other
        → InForceBeside (fills_second newest) c other (in_force s t)
    images_beside c other image image_too =
        subst (λ (l : List ℕ). InForceBeside (fills_second newest) l other (in_force s t))
        (image_kept (fills_second newest) c image)
        (subst (λ (l : List ℕ). InForceBeside (fills_second newest)
        (of_two (fills_second newest) y x) l (in_force s t))
        (image_other (fills_second newest) other image_too)
        (force_beside (fills_second newest) x y (in_force s t) (s, t, a, b, refl)))
