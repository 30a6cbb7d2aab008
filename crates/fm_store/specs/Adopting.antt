-- What the adopting of modules by an open store does.
use Rattle.std.specs.Prelude.{◌≡◌, ℕ, List, map, length, slice_get, Some, None}
use Rattle.std.specs.Option.{ForSome}
use Rattle.fm_outer.specs.declared.disk.Disk.{Ghosts}
use Rattle.fm_core.specs.Book.{Book, ModuleState}
use Rattle.fm_core.specs.Hands.{HandOf, shown}
use Rattle.fm_core.specs.Meaning.{State, conf_of}
use Rattle.fm_core.specs.Seen.{FollowsAs}
use Rattle.fm_core.specs.declared.module.Module.{Ghosts as ModuleGhosts}
use Rattle.fm_logs.specs.Contents.{Contents, AreTold}
use Rattle.fm_logs.specs.declared.disks.Disks.{Disks}
use Rattle.fm_logs.specs.declared.fault.StoreFault.{StoreFault}
use Rattle.fm_logs.specs.declared.fault.StoreFault.TheVariants.{Disk, Damaged, NoMemory}
use Rattle.fm_store.specs.Cursors.{IsAtCursor}
use Rattle.fm_store.specs.Opened.{OpenedOf, Opens, RoseOnAny, disks_of}
use Rattle.fm_looks.specs.Opening.{WasRead, AllStorePass, FirstStoreFinds, all_looks, book_read}
use Rattle.fm_store.specs.StoreOf.{StoreOf, StoreStandsFor}

-- each module that ever has a configuration knows so many
abbrev pub KnowAll : ℕ → List ModuleState → Type 0
KnowAll known modules = (i : ℕ) (p : ModuleState) (s : State) → slice_get modules i ≡ Some p
    → ForSome (conf_of p.meaning s) (λ conf. p.meaning.known ≡ known)

-- a hand of each module, which follows the book at the module's cursor
pub record HandsFollow {M : Type 0} (m : ModuleGhosts M) (k : Book) (hands : List (HandOf M))
    : Type 0 where
  pub as_many : length hands ≡ length k.modules
  pub follow : (i : ℕ) (h : HandOf M) → slice_get hands i ≡ Some h → FollowsAs k i (shown m h)
  pub cursors_are : map (λ h. h.cursor) hands ≡ k.cursors

-- what is in memory then
pub record IsAdopted {D M : Type 0} (m : ModuleGhosts M) (o : OpenedOf D) (kept : List M)
    (store : StoreOf D M) (hands : List (HandOf M)) : Type 0 where
  pub is_open : store.logs.closed ≡ None
  pub second_is : store.logs.second ≡ o.checkpoint.second
  pub base_is : store.logs.base ≡ o.checkpoint.base
  pub entries_are : store.logs.entries ≡ o.entries
  pub newest_is : store.base.newest ≡ o.newest
  pub moment_is : store.base.moment ≡ o.checkpoint.moment
  pub force_is : store.base.in_force ≡ o.checkpoint.conf
  pub kept_are : store.base.kept ≡ kept
  pub hands_are : map (λ h. h.cursor) hands ≡ store.logs.cursors
  pub as_many : length hands ≡ length kept
  pub each : (i : ℕ) (h : HandOf M) → slice_get hands i ≡ Some h → IsAtCursor m store.logs i h

-- The contents pass all looks, and the store stands for the book that these read, in which each
-- module is at its floor; the hands follow it.
pub record Adopts {D M : Type 0} (g : Ghosts D) (m : ModuleGhosts M) (c : Contents)
    (fresh : List ModuleState) (store : StoreOf D M) (hands : List (HandOf M)) : Type 0 where
  pub read : WasRead
  pub pass : AllStorePass fresh c read all_looks
  pub stands : StoreStandsFor g fresh store (book_read read)
  pub follow : HandsFollow m (book_read read).book hands

-- Why modules were not adopted: Damaged exactly where one of the looks finds it, which is then the
-- first that doesn't pass; Disk only where a count rose.
abbrev pub AdoptRefused : {D : Type 0} → Ghosts D → List ModuleState → OpenedOf D → Disks D
    → StoreFault → Type 0
AdoptRefused g fresh o new (Damaged disk place) =
    (c : Contents) → Opens g c o → AreTold g (disks_of o) c → (read : WasRead)
    × FirstStoreFinds fresh c read all_looks (record { disk = disk; place = place })
AdoptRefused g fresh o new Disk = RoseOnAny g (disks_of o) new
AdoptRefused g fresh o new NoMemory = Unit {0}
AdoptRefused _ _ _ _ _ = ⊥
