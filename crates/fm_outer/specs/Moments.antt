-- What a run of disk calls leaves, at each moment of it and afterwards.
use Rattle.std.specs.Prelude.{◌≡◌, ◌⊎◌, ℕ, ◌≤◌, List}
use Rattle.fm_outer.specs.Crash.{NoMore, OnlySeen}
use Rattle.fm_outer.specs.declared.disk.Disk.{Ghosts}

-- all of the disk is synced, so that a crash leaves what a read gives
abbrev pub IsSettled : {D : Type 0} → Ghosts D → D → Type 0
IsSettled g disk = OnlySeen (g.seen disk) (g.images disk)

-- A crash at any moment since old leaves an image that has P.
pub record LeavesOnly {D : Type 0} (g : Ghosts D) (old new : D) (P : List ℕ → Type 0) : Type 0 where
  pub later : g.moment old ≤ g.moment new
  pub each : (c : List ℕ) → g.left_since new (g.moment old) c → P c
  -- for a run that began earlier
  pub before : (t : ℕ) (c : List ℕ) → t ≤ g.moment old → g.left_since new t c
      → g.left_since old t c ⊎ P c

-- The disk reads as before, no image has come about, and a crash at any moment since old left an
-- image from before.
pub record OnlyRead {D : Type 0} (g : Ghosts D) (old new : D) : Type 0 where
  pub same : g.seen new ≡ g.seen old
  pub no_more : NoMore (g.images old) (g.images new)
  pub any_moment : LeavesOnly g old new (g.images old)
  pub same_disk : g.name new ≡ g.name old
