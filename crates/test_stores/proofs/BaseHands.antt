-- A drain to the base hands back as many hands as it took.
use Rattle.std.proofs.Common.{◌≡◌, ℕ, List, [], ◌∷◌, length, Option, Some, None, Result, ap}
use Rattle.fm_core.specs.Hands.{HandOf}
use Rattle.fm_core.specs.declared.module.Module.{Ghosts as ModuleGhosts}
use Rattle.fm_entry.specs.declared.entry.Entry.{Entry}
use Rattle.fm_logs.specs.declared.disks.DiskName.{DiskName}
use Rattle.fm_logs.specs.declared.fault.StoreFault.{StoreFault}
use Rattle.fm_outer.specs.declared.disk.Disk.{Ghosts}
use Rattle.fm_drain.specs.ToBase.{ToBaseBy}
use Rattle.fm_store.specs.StoreOf.{StoreOf}

module _ {D M : Type 0} (g : Ghosts D) (m : ModuleGhosts M) where
  pub base_hands : (closed : Option (DiskName × ℕ)) (es : List Entry) (old new : StoreOf D M)
      (hands now : List (HandOf M)) (result : Result Unit StoreFault)
      → ToBaseBy closed es g m old new hands now result → length now ≡ length hands
  base_hands (Some failed) es old new hands now result does =
      ap (λ (l : List (HandOf M)). length l) does.1
  base_hands None [] old new hands now result does =
      ap (λ (l : List (HandOf M)). length l) does.1
  base_hands None (e ∷ es) old new hands now result does = does.drain.as_many
