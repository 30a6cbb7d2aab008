-- The book that the contents of six disks read as, or what is damaged in them first; and the
-- configuration that such a book keeps.
use Rattle.std.specs.Prelude.{◌≡◌, ℕ, List, map, slice_get, Some}
use Rattle.fm_core.specs.Book.{ModuleState}
use Rattle.fm_logs.specs.Contents.{Contents}
use Rattle.fm_logs.specs.ReadsAsBook.{ReadsAsBook}
use Rattle.fm_logs.specs.StoreBook.{StoreBook, force_now}
use Rattle.fm_logs.specs.declared.disks.DiskName.{DiskName}
use Rattle.fm_looks.specs.Opening.{WasRead}
use Rattle.fm_modules.specs.Modules.{AreModulesOf}
use Rattle.fm_modules.specs.Opening.{FirstOpeningFinds, opening_looks}
use Rattle.fm_saved.specs.declared.conf.Conf.{Conf}
use Rattle.fm_sources.specs.declared.sources.Sources.{Sources}

-- The contents read as a book, of the modules that the rule files and the topologies which it keeps
-- come to.
pub record BookAt (c : Contents) : Type 0 where
  pub fresh : List ModuleState
  pub book : StoreBook
  pub made : AreModulesOf book.confs fresh
  pub reads : ReadsAsBook fresh c book

-- the first look of an opening that does not pass finds this disk damaged at this place
abbrev pub FirstDamage : Contents → DiskName → ℕ → Type 0
FirstDamage c disk place = (fresh : List ModuleState) × (read : WasRead)
    × FirstOpeningFinds fresh c read opening_looks (record { disk = disk; place = place })

-- the rule files and the topology of a configuration are those that were read, byte for byte
abbrev pub IsAsRead : Conf → Sources → Type 0
IsAsRead conf got =
    (conf.rules ≡ map (λ f. f.text.items) got.files.items) × (conf.topo ≡ got.topo_text.items)

-- The contents read as a book, and its configuration in force is what was read of the sources.
pub record KeepsAsRead (told : Contents) (got : Sources) : Type 0 where
  pub stood : BookAt told
  pub conf : Conf
  pub in_force : slice_get stood.book.confs (force_now stood.book) ≡ Some conf
  pub as_read : IsAsRead conf got

-- They read as a book, and its configuration in force is another.
pub record KeepsOther (told : Contents) (got : Sources) : Type 0 where
  pub stood : BookAt told
  pub conf : Conf
  pub in_force : slice_get stood.book.confs (force_now stood.book) ≡ Some conf
  pub differs : IsAsRead conf got → ⊥
