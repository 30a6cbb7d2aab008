-- The opening of a store with its modules as looks: those at its disks, and one at what its texts
-- make. Each passes or finds damage.
use Rattle.std.specs.Prelude.{◌≡◌, ◌⊎◌, ℕ, List, [], ◌∷◌, ◌++◌, map, take}
use Rattle.fm_core.specs.Book.{ModuleState}
use Rattle.fm_journal.specs.Format.{end_of}
use Rattle.fm_saved.specs.Confs.{conf_bytes}
use Rattle.fm_saved.specs.declared.conf.Conf.{Conf}
use Rattle.fm_logs.specs.Contents.{Contents}
use Rattle.fm_logs.specs.declared.disks.DiskName.TheVariants.{Conf as ConfDisk}
use Rattle.fm_looks.specs.Opening.{DamageAt, StoreFinds, StoreLook, StorePasses, WasRead}
use Rattle.fm_looks.specs.Opening.{adopt_looks, open_looks}
use Rattle.fm_modules.specs.KeptTexts.{IsFirstRefused}
use Rattle.fm_modules.specs.Modules.{AreModulesOf}

-- a look at a disk, or the one at the modules
pub data OpeningLook : Type 0 where
  at_disk : StoreLook → OpeningLook
  at_modules : OpeningLook

-- all of them, in their order
abbrev pub opening_looks : List OpeningLook
opening_looks = map at_disk open_looks ++ (at_modules ∷ map at_disk adopt_looks)

-- the place of the gate of a configuration's payload
abbrev pub conf_gate : List Conf → ℕ → ℕ
conf_gate confs at = end_of (take at (map conf_bytes confs))

-- the look passes: these are the modules, or it passes as a look at a disk
abbrev pub OpeningPasses : List ModuleState → Contents → WasRead → OpeningLook → Type 0
OpeningPasses fresh c o (at_disk look) = StorePasses fresh c o look
OpeningPasses fresh c o at_modules = AreModulesOf o.confs fresh

-- the look finds this damage
abbrev pub OpeningFinds : List ModuleState → Contents → WasRead → OpeningLook → DamageAt → Type 0
OpeningFinds fresh c o (at_disk look) d = StoreFinds fresh c o look d
OpeningFinds fresh c o at_modules d =
    (d.disk ≡ ConfDisk) × (at : ℕ) × IsFirstRefused o.confs at × (d.place ≡ conf_gate o.confs at)

-- the first that doesn't pass finds this damage
abbrev pub FirstOpeningFinds : List ModuleState → Contents → WasRead → List OpeningLook → DamageAt
    → Type 0
FirstOpeningFinds fresh c o [] d = ⊥
FirstOpeningFinds fresh c o (look ∷ looks) d =
    OpeningFinds fresh c o look d
    ⊎ (OpeningPasses fresh c o look × FirstOpeningFinds fresh c o looks d)
