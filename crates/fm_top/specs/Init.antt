-- What `init` does: to the sources of the rule files and the topology, and to the six disks.
use Rattle.std.specs.Prelude.{◌≡◌, ◌⊎◌, ℕ, ◌<◌, ◌^◌, List, length, map, IfSome, Result, Ok, Err}
use Rattle.ev_file.specs.declared.made.Made.{Made}
use Rattle.fm_answers.specs.Stops.{of_compiling}
use Rattle.fm_answers.specs.declared.stops.Stop.{Stop}
use Rattle.fm_answers.specs.declared.stops.Stop.TheVariants.{Disk, Memory, Full, Exists}
use Rattle.fm_esc.specs.Compiling.{AreGraphs, CompileCause}
use Rattle.fm_esc.specs.declared.faults.CompileFault.{CompileFault}
use Rattle.fm_journal.specs.Crash.{IsEmptyOrNone}
use Rattle.fm_journal.specs.declared.fault.FullKind.TheVariants.{Payload}
use Rattle.fm_logs.specs.Contents.{Contents}
use Rattle.fm_logs.specs.declared.disks.DiskName.{DiskName}
use Rattle.fm_saved.specs.Confs.{conf_bytes}
use Rattle.fm_saved.specs.declared.conf.Conf.{Conf}
use Rattle.fm_outer.specs.declared.source.Source.{Ghosts}
use Rattle.fm_sources.specs.Sources.{ReadsSources, Given}
use Rattle.fm_sources.specs.declared.sources.Sources.{Sources}
use Rattle.fm_init.specs.Making.{HasStore, IsNewStore}
use Rattle.fm_top.specs.Outside.{Outside, DiskAt, DisksAt, disk_by_name, Tells, Leaves, disk_counts}
use Rattle.fm_top.specs.Outside.{RoseAt, given_of, standing}

-- the configuration of a namespace and of what was read: the texts as they were handed in
abbrev pub conf_with : List ℕ → Sources → Conf
conf_with namespace got = record {
  namespace = namespace;
  rules = map (λ f. f.text.items) got.files.items;
  topo = got.topo_text.items;
}

-- a disk was not written: it reads as before, and no image has come about
pub record IsUnwritten (before after : DiskAt) : Type 0 where
  pub seen : after.seen ≡ before.seen
  pub images : (c : List ℕ) → after.images c → before.images c

-- no disk was written: each image is one from before
abbrev pub AreUnwritten : DisksAt → DisksAt → Type 0
AreUnwritten before after =
    (name : DiskName) → IsUnwritten (disk_by_name name before) (disk_by_name name after)

-- the configurations' disk holds no store, where it tells its bytes
abbrev pub HasNoStore : DisksAt → Type 0
HasNoStore disks = IfSome disks.conf.seen IsEmptyOrNone

-- A store was being made where there was none: each image has none yet, or is the new one.
pub record BeganStore (before after : DisksAt) (conf : Conf) : Type 0 where
  pub was_none : HasNoStore before
  pub left : (told image : Contents) → Tells before told → Leaves after image
      → IsEmptyOrNone image.conf ⊎ IsNewStore image conf

-- A store was made where there was none: each image is the new one.
pub record MadeStore (before after : DisksAt) (conf : Conf) : Type 0 where
  pub was_none : HasNoStore before
  pub is_new : (told image : Contents) → Tells before told → Leaves after image
      → IsNewStore image conf
  pub quiet : disk_counts after ≡ disk_counts before

-- how the making of a store ends
abbrev pub MakingEnds : DisksAt → DisksAt → Conf → Result (Unit {0}) Stop → Type 0
MakingEnds before after conf (Ok done) = MadeStore before after conf
MakingEnds before after conf (Err Exists) =
    AreUnwritten before after × IfSome before.conf.seen HasStore
MakingEnds before after conf (Err (Full Payload)) =
    AreUnwritten before after × HasNoStore before × (2 ^ 28 < length (conf_bytes conf))
MakingEnds before after conf (Err Memory) = AreUnwritten before after
MakingEnds before after conf (Err Disk) =
    ((at : ℕ) × RoseAt (disk_counts before) (disk_counts after) at)
    × (AreUnwritten before after ⊎ BeganStore before after conf)
MakingEnds _ _ _ _ = ⊥

-- The sources were read, each file comes to a graph, and a store was being made of them.
pub record MakingTried {S : Type 0} (g : Ghosts S) (old new : Given S) (before after : DisksAt)
    (namespace : List ℕ) (ran : Result (Unit {0}) Stop) : Type 0 where
  pub got : Sources
  pub read : ReadsSources g old new (Ok got)
  pub mades : List Made
  pub graphs : AreGraphs got.topo got.files.items mades
  pub making : MakingEnds before after (conf_with namespace got) ran

-- the sources were refused, or a file comes to more than a limit, and the disks were not called
pub record MakingUntried {S : Type 0} (g : Ghosts S) (old new : Given S) (before after : DisksAt)
    (ran : Result (Unit {0}) Stop) : Type 0 where
  pub fault : CompileFault
  pub cause : CompileCause g old new fault
  pub told : ran ≡ Err (of_compiling fault)
  pub untouched : AreUnwritten before after
  pub uncalled : disk_counts after ≡ disk_counts before

-- What the command comes to: the sources come to graphs and a store was made of them, or not; or
-- they do not.
abbrev pub InitEnds : {S : Type 0} → Ghosts S → Given S → Given S → DisksAt → DisksAt → List ℕ
    → Result (Unit {0}) Stop → Type 0
InitEnds g old new before after namespace ran =
    MakingTried g old new before after namespace ran ⊎ MakingUntried g old new before after ran

-- `init` ran. Nothing was put, and where there was a store each image is one from before.
pub record InitRan (namespace : List ℕ) (before after : Outside) (ran : Result (Unit {0}) Stop)
    : Type 0 where
  pub ends : InitEnds standing (given_of before) (given_of after) before.disks after.disks namespace
      ran
  pub put : after.out ≡ before.out
  pub kept : (told image : Contents) → Tells before.disks told → HasStore told.conf
      → Leaves after.disks image → Leaves before.disks image
