-- The making of a store, in the words of the disks as they stand.
use Rattle.std.proofs.Common.{◌≡◌, inl, inr, ⊎_elim, ℕ, List, Option, Some, None, refl, sym, ◌∙◌}
use Rattle.std.proofs.Common.{[], ◌∷◌, ap, subst, IfSome, Err}
use Rattle.fm_answers.specs.Stops.{of_store}
use Rattle.fm_answers.specs.declared.stops.Stop.TheVariants.{Full}
use Rattle.fm_lent.specs.Lending.{paired}
use Rattle.fm_lent.proofs.Lending.{second_of_pair}
use Rattle.fm_outer.specs.declared.disk.Disk.{Ghosts}
use Rattle.fm_outer.proofs.Moments.{CountsNow, leaves-now}
use Rattle.fm_journal.specs.Crash.{IsEmptyOrNone}
use Rattle.fm_journal.specs.declared.fault.FullKind.{FullKind}
use Rattle.fm_saved.specs.Confs.{conf_bytes}
use Rattle.fm_saved.specs.declared.conf.Conf.{Conf}
use Rattle.fm_logs.specs.declared.disks.Disks.{Disks}
use Rattle.fm_logs.specs.declared.disks.DiskName.TheVariants.{Conf as ConfDisk, ErrA, ErrB, SlotA}
use Rattle.fm_logs.specs.declared.disks.DiskName.TheVariants.{SlotB, Flt}
use Rattle.fm_logs.specs.declared.fault.StoreFault.{StoreFault}
use Rattle.fm_logs.specs.declared.fault.StoreFault.TheVariants as store
use Rattle.fm_init.specs.Making.{IsNoneOrConf, MakesStore, OnlyLooked, RoseOnOne, InitRefused}
use Rattle.fm_init.specs.Making.{IsMade, counts_on}
use Rattle.fm_top.specs.Init.{IsUnwritten, AreUnwritten, BeganStore, MadeStore}
use Rattle.fm_top.specs.Init.{MakingEnds}
use Rattle.fm_top.specs.Outside.{disk_at, disks_at, disk_counts}
use Rattle.fm_top.specs.Outside.{RoseAt}
use Rattle.fm_top.proofs.SixDisks.{told_all, images_all}

if_told : (o : Option (List ℕ)) (P : List ℕ → Type 0) → ((xs : List ℕ) → o ≡ Some xs → P xs)
    → IfSome o P
if_told None P each = tt
if_told (Some xs) P each = each xs refl

-- six counts, as a list
abbrev listed_counts : Disks ℕ → List ℕ
listed_counts d = d.conf ∷ d.err_a ∷ d.err_b ∷ d.slot_a ∷ d.slot_b ∷ d.flt ∷ []

module _ {D : Type 0} (g : Ghosts D) where
  -- a disk that is as it was
  pub disk_still : (old new : D) → new ≡ old → IsUnwritten (disk_at g old) (disk_at g new)
  disk_still old new same = record {
    seen = ap g.seen same;
    images = λ c now. subst (λ (d : D). g.images d c) same now;
  }

  -- all six are as they were
  pub disks_still : (old new : Disks D) → new ≡ old
      → AreUnwritten (disks_at g old) (disks_at g new)
  disks_still old new same ConfDisk = disk_still _ _ (ap (λ (d : Disks D). d.conf) same)
  disks_still old new same ErrA = disk_still _ _ (ap (λ (d : Disks D). d.err_a) same)
  disks_still old new same ErrB = disk_still _ _ (ap (λ (d : Disks D). d.err_b) same)
  disks_still old new same SlotA = disk_still _ _ (ap (λ (d : Disks D). d.slot_a) same)
  disks_still old new same SlotB = disk_still _ _ (ap (λ (d : Disks D). d.slot_b) same)
  disks_still old new same Flt = disk_still _ _ (ap (λ (d : Disks D). d.flt) same)

  only_read : (old new : Disks D) → OnlyLooked g old new
      → AreUnwritten (disks_at g old) (disks_at g new)
  only_read old new (others, read) ConfDisk = record { seen = read.same; images = read.no_more }
  only_read old new (others, read) ErrA = disk_still _ _ (ap (λ (d : Disks D). d.err_a) others)
  only_read old new (others, read) ErrB = disk_still _ _ (ap (λ (d : Disks D). d.err_b) others)
  only_read old new (others, read) SlotA = disk_still _ _ (ap (λ (d : Disks D). d.slot_a) others)
  only_read old new (others, read) SlotB = disk_still _ _ (ap (λ (d : Disks D). d.slot_b) others)
  only_read old new (others, read) Flt = disk_still _ _ (ap (λ (d : Disks D). d.flt) others)

  rose_at : (old new : Disks D) → RoseOnOne g old new → (at : ℕ)
      × RoseAt (disk_counts (disks_at g old)) (disk_counts (disks_at g new)) at
  rose_at old new (inl rose) = (0, (_, _, refl, refl, rose))
  rose_at old new (inr (inl rose)) = (1, (_, _, refl, refl, rose))
  rose_at old new (inr (inr (inl rose))) = (3, (_, _, refl, refl, rose))
  rose_at old new (inr (inr (inr (inl rose)))) = (4, (_, _, refl, refl, rose))
  rose_at old new (inr (inr (inr (inr rose)))) = (5, (_, _, refl, refl, rose))

  pub made_new : (old new : Disks D) (conf : Conf) → IsMade g old new conf
      → counts_on g new ≡ counts_on g old
      → MadeStore (disks_at g old) (disks_at g new) conf
  made_new old new conf made quiet = record {
    was_none = if_told (g.seen old.conf) IsEmptyOrNone made.was_none;
    is_new = λ told image tells leaves.
        made.is_new told image (told_all g old told tells) (images_all g new image leaves);
    quiet = ap listed_counts quiet;
  }

  module _ (counts_now : CountsNow g)
      (seen_is_image : (disk : D) (c : List ℕ) → g.seen disk ≡ Some c → g.images disk c) where
    began : (old new : Disks D) (conf : Conf) → MakesStore g old new conf
        → BeganStore (disks_at g old) (disks_at g new) conf
    began old new conf makes = record {
      was_none = if_told (g.seen old.conf) IsEmptyOrNone (λ bytes told.
          makes.none bytes (seen_is_image makes.read bytes (makes.still.same ∙ told)));
      left = λ told image tells leaves.
          let written : IsNoneOrConf (conf_bytes conf) image.conf =
          leaves-now g counts_now makes.read new.conf (IsNoneOrConf (conf_bytes conf))
          (makes.any_moment told (told_all g old told tells)) image.conf (leaves ConfDisk) in
          ⊎_elim (λ none. inl none)
          (λ is. ⊎_elim
          (λ (same : new.conf ≡ makes.read). inl (makes.none image.conf
          (subst (λ (d : D). g.images d image.conf) same (leaves ConfDisk))))
          (λ ready.
          let others = ready told (told_all g old told tells) in
          inr (record {
            conf_is = is;
            no_entries = others.no_entries image.err_a (leaves ErrA);
            no_first_slot = others.no_first_slot image.slot_a (leaves SlotA);
            no_second_slot = others.no_second_slot image.slot_b (leaves SlotB);
            no_records = others.no_records image.flt (leaves Flt);
          }))
          makes.in_order)
          written;
    }

    pub made_none : (old new : Disks D) (conf : Conf) (fault : StoreFault)
        → InitRefused g old new conf fault
        → MakingEnds (disks_at g old) (disks_at g new) conf (Err (of_store fault))
    made_none old new conf store.Exists (only, there) =
        (only_read old new only, if_told (g.seen old.conf) _ there)
    made_none old new conf (store.Full kind) (only, is, long, none) =
        subst (λ (k : FullKind). MakingEnds (disks_at g old) (disks_at g new) conf (Err (Full k)))
        (sym is)
        (only_read old new only, if_told (g.seen old.conf) _ none, long)
    made_none old new conf store.NoMemory only = only_read old new only
    made_none old new conf store.Disk (rose, inl only) =
        (rose_at old new rose, inl (only_read old new only))
    made_none old new conf store.Disk (rose, inr makes) =
        (rose_at old new rose, inr (began old new conf makes))
    made_none old new conf _ refused = absurd refused

-- six pairs that are the same have the same second parts
pub names_paired : (x y u v : Disks ℕ) → paired x.conf u.conf ≡ paired y.conf v.conf
    → paired x.err_a u.err_a ≡ paired y.err_a v.err_a
    → paired x.err_b u.err_b ≡ paired y.err_b v.err_b
    → paired x.slot_a u.slot_a ≡ paired y.slot_a v.slot_a
    → paired x.slot_b u.slot_b ≡ paired y.slot_b v.slot_b
    → paired x.flt u.flt ≡ paired y.flt v.flt → u ≡ v
names_paired x y u v conf err_a err_b slot_a slot_b flt =
    let first = second_of_pair x.conf u.conf y.conf v.conf conf in
    let second = second_of_pair x.err_a u.err_a y.err_a v.err_a err_a in
    let third = second_of_pair x.err_b u.err_b y.err_b v.err_b err_b in
    let fourth = second_of_pair x.slot_a u.slot_a y.slot_a v.slot_a slot_a in
    let fifth = second_of_pair x.slot_b u.slot_b y.slot_b v.slot_b slot_b in
    let sixth = second_of_pair x.flt u.flt y.flt v.flt flt in
    λ i. record {
      conf = first i;
      err_a = second i;
      err_b = third i;
      slot_a = fourth i;
      slot_b = fifth i;
      flt = sixth i;
    }
