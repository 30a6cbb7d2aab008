-- Two pairs that are one number are one pair, and so are six names.
use Rattle.std.specs.Prelude.{◌≡◌, ℕ, ◌+◌, ◌*◌, suc, zero}
use Rattle.std.proofs.Common.{refl, ap, arith}
use Rattle.fm_logs.specs.declared.disks.DiskName.{DiskName}
use Rattle.fm_logs.specs.declared.disks.DiskName.TheVariants.{Conf, ErrA, ErrB, SlotA, SlotB, Flt}
use Rattle.fm_lent.specs.Lending.{paired, six_paired}

pub first_of_pair : (m n k l : ℕ) → paired m n ≡ paired k l → m ≡ k
unfolding paired
first_of_pair zero n zero l e = refl
first_of_pair zero n (suc k) l e =
    let odd : n * 2 ≡ paired k l * 2 + 1 = e in
    absurd (omega (arith, odd))
first_of_pair (suc m) n zero l e =
    let odd : paired m n * 2 + 1 ≡ l * 2 = e in
    absurd (omega (arith, odd))
first_of_pair (suc m) n (suc k) l e =
    let both : paired m n * 2 + 1 ≡ paired k l * 2 + 1 = e in
    ap suc (first_of_pair m n k l (omega (arith, both)))

pub second_of_pair : (m n k l : ℕ) → paired m n ≡ paired k l → n ≡ l
unfolding paired
second_of_pair zero n zero l e =
    let both : n * 2 ≡ l * 2 = e in
    omega (arith, both)
second_of_pair zero n (suc k) l e =
    let odd : n * 2 ≡ paired k l * 2 + 1 = e in
    absurd (omega (arith, odd))
second_of_pair (suc m) n zero l e =
    let odd : paired m n * 2 + 1 ≡ l * 2 = e in
    absurd (omega (arith, odd))
second_of_pair (suc m) n (suc k) l e =
    let both : paired m n * 2 + 1 ≡ paired k l * 2 + 1 = e in
    second_of_pair m n k l (omega (arith, both))

pub six_of_paired : (f h : DiskName → ℕ) → six_paired f ≡ six_paired h
    → (name : DiskName) → f name ≡ h name
six_of_paired f h e = by_name
  where
    two : paired (f ErrA) (paired (f ErrB) (paired (f SlotA) (paired (f SlotB) (f Flt))))
        ≡ paired (h ErrA) (paired (h ErrB) (paired (h SlotA) (paired (h SlotB) (h Flt))))
    two = second_of_pair (f Conf) _ (h Conf) _ e

    three : paired (f ErrB) (paired (f SlotA) (paired (f SlotB) (f Flt)))
        ≡ paired (h ErrB) (paired (h SlotA) (paired (h SlotB) (h Flt)))
    three = second_of_pair (f ErrA) _ (h ErrA) _ two

    four : paired (f SlotA) (paired (f SlotB) (f Flt))
        ≡ paired (h SlotA) (paired (h SlotB) (h Flt))
    four = second_of_pair (f ErrB) _ (h ErrB) _ three

    five : paired (f SlotB) (f Flt) ≡ paired (h SlotB) (h Flt)
    five = second_of_pair (f SlotA) _ (h SlotA) _ four

    by_name : (name : DiskName) → f name ≡ h name
    by_name Conf = first_of_pair (f Conf) _ (h Conf) _ e
    by_name ErrA = first_of_pair (f ErrA) _ (h ErrA) _ two
    by_name ErrB = first_of_pair (f ErrB) _ (h ErrB) _ three
    by_name SlotA = first_of_pair (f SlotA) _ (h SlotA) _ four
    by_name SlotB = first_of_pair (f SlotB) (f Flt) (h SlotB) (h Flt) five
    by_name Flt = second_of_pair (f SlotB) (f Flt) (h SlotB) (h Flt) five

pub six_paired_same : (f h : DiskName → ℕ) → ((name : DiskName) → f name ≡ h name)
    → six_paired f ≡ six_paired h
six_paired_same f h same =
    let conf = same Conf in
    let err_a = same ErrA in
    let err_b = same ErrB in
    let slot_a = same SlotA in
    let slot_b = same SlotB in
    let flt = same Flt in
    λ i. paired (conf i) (paired (err_a i) (paired (err_b i)
    (paired (slot_a i) (paired (slot_b i) (flt i)))))
