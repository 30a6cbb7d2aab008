-- The disks of a store that was opened, and what was done with it: what it stands for, what a crash
-- leaves of them, and their counts.
use Rattle.std.proofs.Common.{◌≡◌, ◌∙◌, List, Some, sym, ap, subst}
use Rattle.std.specs.List.{slice_get}
use Rattle.dx_engine.specs.Diagnosers.{DiagnoserOf, diagnosers}
use Rattle.fm_conclude.specs.Concluding.{NoDiskFailed, SomeDiskFailed}
use Rattle.fm_core.specs.Book.{ModuleState}
use Rattle.fm_core.specs.Hands.{HandOf}
use Rattle.fm_drain.specs.DrainCalls.{AllFollow}
use Rattle.fm_logs.specs.Contents.{Contents, AreTold, content_named, disk_named}
use Rattle.fm_logs.specs.StoreBook.{StoreBook, force_now}
use Rattle.fm_logs.specs.declared.disks.DiskName.{DiskName}
use Rattle.fm_logs.specs.declared.disks.Disks.{Disks}
use Rattle.fm_outer.specs.Failures.{Rose}
use Rattle.fm_outer.specs.declared.disk.Disk.{Ghosts}
use Rattle.fm_saved.specs.declared.conf.Conf.{Conf}
use Rattle.fm_store.specs.Opened.{NoneFailed, RoseOnAny}
use Rattle.fm_store.specs.StoreLeft.{store_disk, AreDisksOf, StoreIsLeft}
use Rattle.fm_store.specs.StoreOf.{StoreOf, StoreStandsFor}
use Rattle.fm_top.specs.Headline.{HoldsOfBook}
use Rattle.fm_top.specs.Kept.{BookAt}
use Rattle.fm_top.specs.Outside.{Tells, Leaves, disks_at}
use Rattle.fm_top.proofs.BookHeld.{same_book}
use Rattle.fm_top.proofs.SixDisks.{told_all, images_all}

-- The store stands for the book that the contents read as, hands follow it, and a configuration is
-- in force in it.
pub record OpenAt {D : Type 0} (g : Ghosts D) (store : StoreOf D DiagnoserOf)
    (hands : List (HandOf DiagnoserOf)) (conf : Conf) (c : Contents) : Type 0 where
  pub stood : BookAt c
  pub stands : StoreStandsFor g stood.fresh store stood.book
  pub follow : AllFollow diagnosers stood.book.book hands
  pub in_force : slice_get stood.book.confs (force_now stood.book) ≡ Some conf

-- the store stands for this book that the contents read as, and hands follow it
pub record OpenFor {D : Type 0} (g : Ghosts D) (first : StoreOf D DiagnoserOf)
    (hands : List (HandOf DiagnoserOf)) (conf : Conf) {c : Contents} (stood : BookAt c)
    : Type 0 where
  pub stands : StoreStandsFor g stood.fresh first stood.book
  pub follow : AllFollow diagnosers stood.book.book hands
  pub in_force : slice_get stood.book.confs (force_now stood.book) ≡ Some conf

-- so it does for each such book
pub open_for : {D : Type 0} (g : Ghosts D) (first : StoreOf D DiagnoserOf)
    (hands : List (HandOf DiagnoserOf)) (conf : Conf) (c : Contents)
    (one : OpenAt g first hands conf c) (book : BookAt c) → OpenFor g first hands conf book
open_for g first hands conf c one book =
    let same : (one.stood.fresh ≡ book.fresh) × (one.stood.book ≡ book.book) =
    same_book c one.stood book in record {
      stands = subst (λ (ms : List ModuleState). StoreStandsFor g ms first book.book) same.0
          (subst (λ (k : StoreBook). StoreStandsFor g one.stood.fresh first k) same.1 one.stands);
      follow = subst (λ (k : StoreBook). AllFollow diagnosers k.book hands) same.1 one.follow;
      in_force = subst (λ (k : StoreBook). slice_get k.confs (force_now k) ≡ Some conf) same.1
          one.in_force;
    }

module _ {D : Type 0} (g : Ghosts D) (disks disks_now : Disks D)
    (first new : StoreOf D DiagnoserOf) where
  pub opened_at : (hands : List (HandOf DiagnoserOf)) (conf : Conf)
      → ((c : Contents) → AreTold g disks c → OpenAt g first hands conf c)
      → (told : Contents) → Tells (disks_at g disks) told → OpenAt g first hands conf told
  opened_at hands conf opened told tells = opened told (told_all g disks told tells)

  -- of each book that the contents read as
  pub each_opened : (hands : List (HandOf DiagnoserOf)) (conf : Conf)
      → ((c : Contents) → AreTold g disks c → OpenAt g first hands conf c)
      → (told : Contents) → Tells (disks_at g disks) told → (IsSo : BookAt told → Type 0)
      → ((book : BookAt told) → OpenFor g first hands conf book → IsSo book)
      → HoldsOfBook told IsSo
  each_opened hands conf opened told tells IsSo so =
      let one = opened_at hands conf opened told tells in record {
        stood = one.stood;
        each = λ book. so book (open_for g first hands conf told one book);
      }

  module _ (are : AreDisksOf new disks_now) where
    pub store_left : (image : Contents) → Leaves (disks_at g disks_now) image
        → StoreIsLeft g new image
    store_left image leaves name =
        subst (λ (d : D). g.images d (content_named name image)) (sym (are name))
        (images_all g disks_now image leaves name)

    module _ (kept : (name : DiskName)
        → g.failures (store_disk name first) ≡ g.failures (disk_named name disks)) where
      pub none_rose : NoDiskFailed g first new → NoneFailed g disks disks_now
      none_rose quiet name = sym (ap g.failures (are name)) ∙ quiet name ∙ kept name

      pub some_rose : SomeDiskFailed g first new → RoseOnAny g disks disks_now
      some_rose (name, rose) = (
        name,
        subst (λ (d : D). Rose (g.failures (disk_named name disks)) (g.failures d)) (are name)
            (subst (λ n. Rose n (g.failures (store_disk name new))) (kept name) rose),
      )
