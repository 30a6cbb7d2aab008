-- What is picked of two disks is the slot in force.
use Rattle.std.proofs.Common.{◌≡◌, ℕ, ◌+◌, ◌≤◌, List, length, Bool, true, false, Option, Some, None}
use Rattle.std.proofs.Common.{refl, sym, ◌∙◌, ap, subst, if◌then◌else◌}
use Rattle.std.specs.Prelude.{nat_lt}
use Rattle.std.proofs.lemmas.Option.{same_Some}
use Rattle.fm_outer.specs.Bytes.{range}
use Rattle.fm_slots.specs.Format.{SlotOf, IsSlot}
use Rattle.fm_slots.specs.InForce.{in_force, InForce, IsDamagedPair}
use Rattle.fm_slots.specs.Pair.{slot_in, IsUndamaged, pick_at, later_pick, IsPicked, which}
use Rattle.fm_slots.specs.Pair.{picked_slot}
use Rattle.fm_slots.specs.Standing.{TellsSlot}
use Rattle.fm_slots.specs.declared.pair.Pick.{Pick}
use Rattle.fm_slots.specs.declared.standing.Standing.{Standing}
use Rattle.fm_slots.specs.declared.standing.Standing.TheVariants.{Closed, Open, Bad}

-- what a look tells is the slot that stands there
pub tells_slot : (bytes : List ℕ) (standing : Standing) → IsUndamaged standing
    → TellsSlot bytes standing → IsSlot bytes (slot_in bytes standing)
tells_slot bytes Closed whole tells = tells
tells_slot bytes (Open sequence count) whole tells = tells.1
tells_slot bytes Bad whole tells = absurd whole

abbrev at_slot : Bool → ℕ → List ℕ → Option (Bool × SlotOf)
at_slot second sequence payload =
    Some (second, record { sequence = sequence; payload = payload })

abbrev at_pick : Bool → ℕ → ℕ → Option Pick
at_pick second sequence count =
    Some (record { second = second; sequence = sequence; count = count })

-- of two open slots one is picked
one_of : (x y : List ℕ) (s t n m : ℕ) (test : Bool)
    → (if test then at_slot true t (range 13 m y) else at_slot false s (range 13 n x))
    ≡ picked_slot x y (if test then at_pick true t m else at_pick false s n)
one_of x y s t n m true = refl
one_of x y s t n m false = refl

pub picked_in_force : (x y : List ℕ) (first second : Standing)
    → in_force (slot_in x first) (slot_in y second)
    ≡ picked_slot x y (later_pick (pick_at false first) (pick_at true second))
picked_in_force x y (Open s n) (Open t m) = one_of x y s t n m (nat_lt s t)
picked_in_force x y (Open s n) Closed = refl
picked_in_force x y (Open s n) Bad = refl
picked_in_force x y Closed (Open t m) = refl
picked_in_force x y Closed Closed = refl
picked_in_force x y Closed Bad = refl
picked_in_force x y Bad (Open t m) = refl
picked_in_force x y Bad Closed = refl
picked_in_force x y Bad Bad = refl

-- what is picked stands on the disk that it names
one_stands : (s t n m : ℕ) (test : Bool) (pick : Pick)
    → (if test then at_pick true t m else at_pick false s n) ≡ Some pick
    → IsPicked pick.second (Open s n) (Open t m) pick
one_stands s t n m true pick is =
    subst (λ (p : Pick). IsPicked p.second (Open s n) (Open t m) p) (same_Some _ pick is) refl
one_stands s t n m false pick is =
    subst (λ (p : Pick). IsPicked p.second (Open s n) (Open t m) p) (same_Some _ pick is) refl

none_picked : (pick : Pick) → None ≡ Some pick → ⊥
none_picked pick is = cc is

pub picked_stands : (first second : Standing) (pick : Pick)
    → later_pick (pick_at false first) (pick_at true second) ≡ Some pick
    → IsPicked pick.second first second pick
picked_stands (Open s n) (Open t m) pick is = one_stands s t n m (nat_lt s t) pick is
picked_stands (Open s n) Closed pick is =
    subst (λ (p : Pick). IsPicked p.second (Open s n) Closed p) (same_Some _ pick is) refl
picked_stands (Open s n) Bad pick is =
    subst (λ (p : Pick). IsPicked p.second (Open s n) Bad p) (same_Some _ pick is) refl
picked_stands Closed (Open t m) pick is =
    subst (λ (p : Pick). IsPicked p.second Closed (Open t m) p) (same_Some _ pick is) refl
picked_stands Bad (Open t m) pick is =
    subst (λ (p : Pick). IsPicked p.second Bad (Open t m) p) (same_Some _ pick is) refl
picked_stands Closed Closed pick is = absurd (none_picked pick is)
picked_stands Closed Bad pick is = absurd (none_picked pick is)
picked_stands Bad Closed pick is = absurd (none_picked pick is)
picked_stands Bad Bad pick is = absurd (none_picked pick is)

-- its payload lies inside that disk
pub picked_inside : {D : Type 0} (seen : D → Option (List ℕ)) (a b : D) (first second : Standing)
    (pick : Pick) → ((bytes : List ℕ) → seen a ≡ Some bytes → TellsSlot bytes first)
    → ((bytes : List ℕ) → seen b ≡ Some bytes → TellsSlot bytes second)
    → later_pick (pick_at false first) (pick_at true second) ≡ Some pick → (bytes : List ℕ)
    → seen (which pick.second a b) ≡ Some bytes → 13 + pick.count ≤ length bytes
picked_inside seen a b first second pick one other is bytes told =
    go pick.second (picked_stands first second pick is) told
  where
    go : (at : Bool) → IsPicked at first second pick → seen (which at a b) ≡ Some bytes
        → 13 + pick.count ≤ length bytes
    go true stands told =
        (subst (λ (s : Standing). TellsSlot bytes s) stands (other bytes told)).0
    go false stands told = (subst (λ (s : Standing). TellsSlot bytes s) stands (one bytes told)).0

pub which_told : {D : Type 0} (seen : D → Option (List ℕ)) (a b : D) (x y : List ℕ) (at : Bool)
    → seen a ≡ Some x → seen b ≡ Some y → seen (which at a b) ≡ Some (which at x y)
which_told seen a b x y true one other = other
which_told seen a b x y false one other = one

-- and it is the slot in force
pub found_in_force : (x y : List ℕ) (first second : Standing) (pick : Pick) (items : List ℕ)
    → IsUndamaged first → IsUndamaged second → TellsSlot x first → TellsSlot y second
    → later_pick (pick_at false first) (pick_at true second) ≡ Some pick
    → items ≡ range 13 pick.count (which pick.second x y)
    → InForce x y (Some (pick.second, record { sequence = pick.sequence; payload = items }))
found_in_force x y first second pick items one other left right is read = (
  slot_in x first,
  slot_in y second,
  tells_slot x first one left,
  tells_slot y second other right,
  picked_in_force x y first second
      ∙ ap (λ (o : Option Pick). picked_slot x y o) is
      ∙ ap (λ (l : List ℕ). at_slot pick.second pick.sequence l) (sym read),
)

-- damage of the second slot beside a first that isn't damaged
pub second_damaged : (x y : List ℕ) (first second : Standing) → IsUndamaged first
    → TellsSlot x first → second ≡ Bad → TellsSlot y second → IsDamagedPair true x y
second_damaged x y first second whole left is right =
    (slot_in x first, tells_slot x first whole left, subst (TellsSlot y) is right)

pub none_in_force : (x y : List ℕ) (first second : Standing) → IsUndamaged first
    → IsUndamaged second → TellsSlot x first → TellsSlot y second
    → later_pick (pick_at false first) (pick_at true second) ≡ None → InForce x y None
none_in_force x y first second one other left right is = (
  slot_in x first,
  slot_in y second,
  tells_slot x first one left,
  tells_slot y second other right,
  picked_in_force x y first second ∙ ap (λ (o : Option Pick). picked_slot x y o) is,
)
