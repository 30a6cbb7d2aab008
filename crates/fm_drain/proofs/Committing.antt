-- Works that were committed, one after another.
use Rattle.std.proofs.Common.{◌≡◌, ◌≢◌, ℕ, List, [], ◌++◌}
use Rattle.std.proofs.Common.{refl, sym, ap, subst}
use Rattle.fm_outer.specs.declared.disk.Disk.{Ghosts}
use Rattle.fm_outer.proofs.Moments.{OnlyNow, leaves-still, leaves-then, leaves-weaker}
use Rattle.fm_core.specs.Book.{Book, ModuleState}
use Rattle.fm_logs.specs.Contents.{Contents, content_named}
use Rattle.fm_logs.specs.StoreBook.{StoreBook, with_book}
use Rattle.fm_logs.specs.declared.disks.DiskName.{DiskName}
use Rattle.fm_logs.specs.declared.disks.DiskName.TheVariants.{Conf as ConfDisk, ErrA, ErrB, SlotA}
use Rattle.fm_logs.specs.declared.disks.DiskName.TheVariants.{SlotB, Flt}
use Rattle.fm_store.specs.StoreLeft.{store_disk, with_content, ReadsLike}
use Rattle.fm_store.specs.StoreLeft.{StoreIsLeft, OthersAreLeft}
use Rattle.fm_store.specs.StoreOf.{StoreOf, StoreStandsFor}
use Rattle.fm_store.proofs.StoreReads.{like_through, store_reads}
use Rattle.fm_drain.specs.DrainCalls.{CommitsWorks, OnlyCommitted, store_after}
use Rattle.fm_drain.proofs.Works.{run_both, works_alike}

-- but for the fault log's disk all are as they were
pub others_same : {D M : Type 0} (old new : StoreOf D M) → OnlyCommitted old new
    → (other : DiskName) → other ≢ Flt → store_disk other new ≡ store_disk other old
others_same old new only ConfDisk differs = ap (λ s. store_disk ConfDisk s) only
others_same old new only ErrA differs = ap (λ s. store_disk ErrA s) only
others_same old new only ErrB differs = ap (λ s. store_disk ErrB s) only
others_same old new only SlotA differs = ap (λ s. store_disk SlotA s) only
others_same old new only SlotB differs = ap (λ s. store_disk SlotB s) only
others_same old new only Flt differs = absurd (differs refl)

module _ {D M : Type 0} (g : Ghosts D) where
  -- of the other disks the same is left
  others_left : (old new : StoreOf D M) (c : Contents) → OnlyCommitted old new
      → OthersAreLeft g old Flt c → OthersAreLeft g new Flt c
  others_left old new c only left other differs =
      subst (λ (d : D). g.images d (content_named other c)) (sym (others_same old new only other
      differs)) (left other differs)

  -- with the image of the fault log's disk, all of it is left
  all_left : (store : StoreOf D M) (image : List ℕ) (c : Contents)
      → g.images (store_disk Flt store) image → OthersAreLeft g store Flt c
      → StoreIsLeft g store (with_content Flt image c)
  all_left store image c here left ConfDisk = left ConfDisk (λ same. cc same)
  all_left store image c here left ErrA = left ErrA (λ same. cc same)
  all_left store image c here left ErrB = left ErrB (λ same. cc same)
  all_left store image c here left SlotA = left SlotA (λ same. cc same)
  all_left store image c here left SlotB = left SlotB (λ same. cc same)
  all_left store image c here left Flt = here

  -- before the first step
  pub commits_none : OnlyNow g → (fresh : List ModuleState) (store : StoreOf D M) (k : StoreBook)
      → StoreStandsFor g fresh store k → CommitsWorks g fresh store store k []
  commits_none only_now fresh store k st = record {
    stands = λ is_open. st;
    any_moment = leaves-still g only_now (store_disk Flt store) _ (λ image here c left.
        store_reads g fresh store k st (with_content Flt image c)
        (all_left store image c here left));
    left = store_reads g fresh store k st;
  }

  -- some steps more
  pub commits_both : (fresh : List ModuleState) (old mid new : StoreOf D M) (k : StoreBook)
      (one two : List ℕ) → StoreStandsFor g fresh old k → OnlyCommitted old mid
      → CommitsWorks g fresh old mid k one
      → CommitsWorks g fresh mid new (store_after one k) two
      → CommitsWorks g fresh old new k (one ++ two)
  commits_both fresh old mid new k one two st only first second = record {
    stands = λ is_open.
        subst (λ (b : Book). StoreStandsFor g fresh new (with_book k b))
        (sym (run_both one two k.book)) (second.stands is_open);
    any_moment = leaves-then g (store_disk Flt old) (store_disk Flt mid) (store_disk Flt new) _
        first.any_moment
        (leaves-weaker g (store_disk Flt mid) (store_disk Flt new) _ _ second.any_moment
        (λ image reads c left. through (with_content Flt image c)
        (reads c (others_left old mid c only left))));
    left = λ c left. through c (second.left c left);
  }
    where
      through : (c : Contents) → ReadsLike fresh (store_after one k) c → ReadsLike fresh k c
      through c reads =
          like_through fresh (store_after one k) k c refl
          (works_alike one k.book st.lawful.lawful) reads
