-- A store that is open with its modules, and why one is not.
use Rattle.std.specs.Prelude.{◌≡◌, ◌≤◌, List, length, slice_get, Some}
use Rattle.fm_outer.specs.declared.disk.Disk.{Ghosts}
use Rattle.fm_core.specs.Book.{ModuleState}
use Rattle.fm_logs.specs.Contents.{Contents, AreTold}
use Rattle.fm_logs.specs.StoreBook.{force_along}
use Rattle.fm_logs.specs.declared.disks.DiskName.TheVariants.{Conf as ConfDisk}
use Rattle.fm_logs.specs.declared.disks.Disks.{Disks}
use Rattle.fm_logs.specs.declared.fault.StoreFault.{StoreFault}
use Rattle.fm_logs.specs.declared.fault.StoreFault.TheVariants.{Disk, Damaged, NoMemory}
use Rattle.fm_looks.specs.Opening.{WasRead, from_base}
use Rattle.fm_saved.specs.declared.conf.Conf.{Conf}
use Rattle.fm_store.specs.Adopting.{Adopts, IsAdopted}
use Rattle.fm_store.specs.Opened.{OpenedOf, Opens, RoseOnAny, disks_of}
use Rattle.fm_store.specs.StoreOf.{made_modules}
use Rattle.dx_engine.specs.Diagnosers.{DiagnoserOf, diagnosers}
use Rattle.fm_modules.specs.Modules.{AreModulesOf}
use Rattle.fm_modules.specs.Opening.{FirstOpeningFinds, conf_gate, opening_looks}
use Rattle.fm_modules.specs.declared.fault.ModulesFault.{ModulesFault}
use Rattle.fm_modules.specs.declared.fault.ModulesFault.TheVariants as modules
use Rattle.fm_modules.specs.declared.opening.OpenStore.{OpenStore}

-- The contents pass all looks, among them that at the modules; the store stands for the book that
-- these read, the hands follow it, and the configuration is the one in force at its end.
pub record OpensStore {D : Type 0} (g : Ghosts D) (c : Contents) (open_store : OpenStore D)
    : Type 0 where
  pub fresh : List ModuleState
  pub adopts : Adopts g diagnosers c fresh open_store.store open_store.hands.items
  pub modules : AreModulesOf adopts.read.confs fresh
  pub conf_is : slice_get adopts.read.confs
      (force_along adopts.read.checkpoint.conf (from_base adopts.read)) ≡ Some open_store.conf

-- what is in memory, whatever the disks tell: modules as they were made, eight at most, adopted by
-- a store that was open, and its configuration in force
pub record IsOpenStore {D : Type 0} (open_store : OpenStore D) : Type 0 where
  pub opened : OpenedOf D
  pub kept : List DiagnoserOf
  pub modules : AreModulesOf opened.confs (made_modules diagnosers kept)
  pub few : length kept ≤ 8
  pub adopted : IsAdopted diagnosers opened kept open_store.store open_store.hands.items
  pub conf_is : slice_get opened.confs
      (force_along opened.checkpoint.conf opened.entries) ≡ Some open_store.conf

-- what the want of modules is to a store of these configurations
abbrev pub fault_of_modules : List Conf → ModulesFault → StoreFault
fault_of_modules confs (modules.Refused at) = Damaged ConfDisk (conf_gate confs at)
fault_of_modules confs modules.NoMemory = NoMemory

-- Why a store that was open has no modules: Damaged exactly where one of all looks finds it.
abbrev pub ModulesRefused : {D : Type 0} → Ghosts D → OpenedOf D → Disks D → StoreFault → Type 0
ModulesRefused g o new (Damaged disk place) =
    (c : Contents) → Opens g c o → AreTold g (disks_of o) c → (fresh : List ModuleState)
    × (read : WasRead)
    × FirstOpeningFinds fresh c read opening_looks (record { disk = disk; place = place })
ModulesRefused g o new Disk = RoseOnAny g (disks_of o) new
ModulesRefused g o new NoMemory = Unit {0}
ModulesRefused _ _ _ _ = ⊥

-- Why a store was not opened with its modules: Damaged exactly where one of the looks finds it,
-- which is then the first that doesn't pass; Disk only where a count rose.
abbrev pub OpenStoreRefused : {D : Type 0} → Ghosts D → Disks D → Disks D → StoreFault → Type 0
OpenStoreRefused g old new (Damaged disk place) =
    (c : Contents) → AreTold g old c → (fresh : List ModuleState) × (read : WasRead)
    × FirstOpeningFinds fresh c read opening_looks (record { disk = disk; place = place })
OpenStoreRefused g old new Disk = RoseOnAny g old new
OpenStoreRefused g old new NoMemory = Unit {0}
OpenStoreRefused _ _ _ _ = ⊥
