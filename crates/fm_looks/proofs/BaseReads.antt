-- What the slots say of the base, or why they say nothing, by what a reading of them found.
use Rattle.std.proofs.Common.{◌≡◌, inl, inr, ℕ, List, Some, Result, Ok, Err, refl, sym, ◌∙◌, ap}
use Rattle.std.proofs.Common.{subst}
use Rattle.std.specs.Prelude.{Bool, true, false, IfOk, IfErr}
use Rattle.std.specs.declared.option.Option.{Option}
use Rattle.fm_outer.specs.declared.disk.Disk.{Ghosts}
use Rattle.fm_slots.specs.Format.{SlotOf}
use Rattle.fm_slots.specs.InForce.{InForce, IsDamagedPair}
use Rattle.fm_logs.specs.declared.fault.StoreFault.{StoreFault}
use Rattle.fm_logs.specs.declared.fault.StoreFault.TheVariants.{Disk, Full, Closed, Damaged, Exists}
use Rattle.fm_logs.specs.declared.fault.StoreFault.TheVariants.{NoMemory}
use Rattle.fm_slots.specs.Pair.{NewestCause}
use Rattle.fm_slots.specs.declared.fault.SlotFault.{SlotFault}
use Rattle.fm_slots.specs.declared.fault.SlotFault.TheVariants.{Disk as SlotFailed}
use Rattle.fm_slots.specs.declared.fault.SlotFault.TheVariants.{Damaged as SlotDamaged}
use Rattle.fm_slots.specs.declared.fault.SlotFault.TheVariants.{NoMemory as SlotWantsMemory}
use Rattle.fm_looks.specs.Bases.{SlotsKept, SlotsCause, SlotsDamage, BaseCause, newest_of}
use Rattle.fm_looks.specs.Bases.{fault_of_slots}
use Rattle.fm_looks.specs.Opening.{SaysCheckpoint, slot_disk}
use Rattle.fm_looks.specs.Opening.{slot_name}
use Rattle.fm_looks.specs.declared.base.BaseRead.{BaseRead}

module _ {D : Type 0} (g : Ghosts D) (a b new_a new_b : D) (known : ℕ)
    (found : Option (Bool × SlotOf))
    (in_force_is : (x y : List ℕ) → g.seen a ≡ Some x → g.seen b ≡ Some y → InForce x y found) where
  pub base_kept : (r : Result BaseRead StoreFault)
      → IfOk r (λ read. SaysCheckpoint known found read.checkpoint)
      → IfOk r (λ read. read.newest ≡ newest_of found)
      → IfOk r (λ read. (x y : List ℕ) → g.seen a ≡ Some x → g.seen b ≡ Some y
      → SlotsKept x y known read.newest read.checkpoint)
  base_kept (Ok read) says newest = λ x y told_a told_b.
      let f = in_force_is x y told_a told_b in record {
        slot_a = f.0;
        slot_b = f.1;
        a_is = f.2;
        b_is = f.3;
        newest_is = newest ∙ ap newest_of (sym f.4);
        says = subst (λ (o : Option (Bool × SlotOf)). SaysCheckpoint known o read.checkpoint)
            (sym f.4) says;
      }
  base_kept (Err fault) says newest = tt

  fault_caused : (fault : StoreFault) → BaseCause known found fault
      → SlotsCause g known a b new_a new_b fault
  fault_caused (Damaged disk place) cause = λ x y told_a told_b.
      let f = in_force_is x y told_a told_b in
      inr (
        f.0,
        f.2,
        inr (
          f.1,
          f.3,
          (
            cause.0 ∙ ap slot_disk (sym f.4),
            cause.1,
            λ said says. cause.2 said
                (subst (λ (o : Option (Bool × SlotOf)). SaysCheckpoint known o said) f.4 says),
          ),
        ),
      )
  fault_caused NoMemory cause = tt
  fault_caused Disk cause = absurd cause
  fault_caused (Full kind) cause = absurd cause
  fault_caused (Closed disk count) cause = absurd cause
  fault_caused Exists cause = absurd cause

  pub base_caused : (r : Result BaseRead StoreFault) → IfErr r (BaseCause known found)
      → IfErr r (SlotsCause g known a b new_a new_b)
  base_caused (Ok read) cause = tt
  base_caused (Err fault) cause = fault_caused fault cause

-- a damaged slot of a pair
pair_damaged : (known : ℕ) (second : Bool) (place : ℕ) (x y : List ℕ) → place ≡ 0
    → IsDamagedPair second x y → SlotsDamage known x y (slot_name second) place
pair_damaged known false place x y is damaged = inl (refl, is, damaged)
pair_damaged known true place x y is damaged =
    inr (damaged.0, damaged.1, inl (refl, is, damaged.2))

-- why the slots were not read
pub slots_caused : {D : Type 0} (g : Ghosts D) (known : ℕ) (a b new_a new_b : D)
    (fault : SlotFault) → NewestCause g a b new_a new_b fault
    → SlotsCause g known a b new_a new_b (fault_of_slots fault)
slots_caused g known a b new_a new_b SlotFailed cause = cause
slots_caused g known a b new_a new_b (SlotDamaged second place) cause = λ x y told_a told_b.
    pair_damaged known second place x y cause.0 (cause.3 x y told_a told_b)
slots_caused g known a b new_a new_b SlotWantsMemory cause = tt
