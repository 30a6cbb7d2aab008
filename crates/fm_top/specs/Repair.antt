-- What `fmadm repaired`, `fmadm replaced` and `fmadm acquit` do: the store is drained, and where a
-- suspect would be marked, the entry that says so is accepted and the store drained again; then
-- the actuators are brought to what is wanted, and the number of the entry is told.
use Rattle.std.specs.Prelude.{◌≡◌, ◌⊎◌, List, [], Option, Some, None, Result, Ok, Err}
use Rattle.std.specs.Prelude.{MatchResult}
use Rattle.std.specs.Prelude.{OnOk, IfErr}
use Rattle.dx_engine.specs.Diagnosers.{DiagnoserOf, diagnosers}
use Rattle.fm_act.specs.Reconciled.{ActuatorState}
use Rattle.fm_admin.specs.Limits.{RepairLimit}
use Rattle.fm_admin.specs.Repairing.{IsRepaired}
use Rattle.fm_admin.specs.Telling.{IsDrainedOf}
use Rattle.fm_admin.specs.declared.repairing.Repaired.{Repaired}
use Rattle.fm_answers.specs.Answers.{ok_text}
use Rattle.fm_answers.specs.StreamsAt.{SinkAt}
use Rattle.fm_answers.specs.Stops.{of_store}
use Rattle.fm_answers.specs.declared.stops.Stop.{Stop}
use Rattle.fm_answers.specs.declared.stops.Stop.TheVariants.{NotFaulty}
use Rattle.fm_command.specs.RepairAsked.{RepairAsked}
use Rattle.fm_conclude.specs.Concluding.{NoDiskFailed}
use Rattle.fm_core.specs.Book.{ModuleState}
use Rattle.fm_core.specs.Hands.{HandOf}
use Rattle.fm_drain.specs.DrainCalls.{AllFollow}
use Rattle.fm_drain.specs.DrainLimits.{DrainIsFull}
use Rattle.fm_entry.specs.declared.entry.Entry.{Entry}
use Rattle.fm_journal.specs.declared.fault.FullKind.{FullKind}
use Rattle.fm_logs.specs.Contents.{Contents}
use Rattle.fm_logs.specs.StoreBook.{StoreBook, store_accepted}
use Rattle.fm_logs.specs.declared.fault.StoreFault.{StoreFault}
use Rattle.fm_outer.specs.declared.disk.Disk.{Ghosts}
use Rattle.fm_saved.specs.declared.conf.Conf.{Conf}
use Rattle.fm_drain.specs.BaseLimits.{Figures}
use Rattle.fm_store.specs.StoreLeft.{EachLeft, ReadsLike, ReadsLikeEither}
use Rattle.fm_store.specs.StoreOf.{StoreOf, StoreStandsFor}
use Rattle.fm_store.specs.StoreReading.{IsNoDamage}
use Rattle.fm_top.specs.Accepting.{DisksAccount, ReachesLimit}
use Rattle.fm_top.specs.Admin.{AdminRefused, StoreUnopened}
use Rattle.fm_top.specs.DrainedBook.{ReadsDrained}
use Rattle.fm_top.specs.Fmd.{ConcludingStops, SettlingEnds}
use Rattle.fm_top.specs.Headline.{HoldsOfBook}
use Rattle.fm_top.specs.Kept.{BookAt}
use Rattle.fm_top.specs.Limits.{WorkLimit}
use Rattle.fm_top.specs.Outside.{DisksAt, Tells, Leaves}
use Rattle.fm_top.specs.RepairEntry.{HasRepair, IsEntryAt, IsEntryOf, order_by}

-- ---- an open store

-- What becomes of a book that the hands follow, by the answer: the entry was accepted and drained,
-- of which this is told; nothing would be marked, and nothing was accepted; or it was refused,
-- before the entry was being accepted or from there on.
abbrev pub RepairOnBook : {D M : Type 0} → Ghosts D → RepairAsked → List ModuleState → StoreOf D M
    → StoreOf D M → StoreBook → Conf → Result (Option Repaired) StoreFault → Type 0
RepairOnBook g asked fresh old new k conf (Ok (Some one)) =
    (e : Entry) × IsEntryOf asked conf k (Some e) × IsRepaired k e one
    × EachLeft g new (ReadsDrained fresh (store_accepted k e))
RepairOnBook g asked fresh old new k conf (Ok None) =
    IsEntryOf asked conf k None × EachLeft g new (ReadsLike fresh k)
RepairOnBook g asked fresh old new k conf (Err fault) =
    (IsNoDamage fault × RepairLimit old k (order_by conf asked) fault)
    × (EachLeft g new (ReadsLike fresh k)
    ⊎ ((e : Entry) × IsEntryOf asked conf k (Some e)
    × EachLeft g new (ReadsLikeEither fresh k (store_accepted k e))))

-- What was done with an open store that has this configuration in force.
pub record RepairDone {D : Type 0} (g : Ghosts D) (asked : RepairAsked)
    (old new : StoreOf D DiagnoserOf) (hands : List (HandOf DiagnoserOf)) (conf : Conf)
    (answer : Result (Option Repaired) StoreFault) : Type 0 where
  pub was_open : old.logs.closed ≡ None
  pub quiet : OnOk answer (NoDiskFailed g old new)
  pub refused : IfErr answer (AdminRefused g old new)
  pub book : (fresh : List ModuleState) (k : StoreBook) → StoreStandsFor g fresh old k
      → AllFollow diagnosers k.book hands → RepairOnBook g asked fresh old new k conf answer

-- nothing would be marked, or it was refused
abbrev pub RepairHalts : {D : Type 0} → Ghosts D → RepairAsked → StoreOf D DiagnoserOf
    → StoreOf D DiagnoserOf → List (HandOf DiagnoserOf) → Conf → Stop → Type 0
RepairHalts g asked old new hands conf stop =
    ((stop ≡ NotFaulty) × RepairDone g asked old new hands conf (Ok None))
    ⊎ ((fault : StoreFault) × (stop ≡ of_store fault)
    × RepairDone g asked old new hands conf (Err fault))

-- ---- six disks

-- Of a book that the contents read as: the entry was accepted, of which this is told, and each
-- image that a crash now may leave reads as the book with it, drained.
pub record RepairedOf (asked : RepairAsked) (told : Contents) (after : DisksAt) (one : Repaired)
    (stood : BookAt told) : Type 0 where
  pub entry : Entry
  pub found : IsEntryAt asked stood (Some entry)
  pub repaired : IsRepaired stood.book entry one
  pub left : (image : Contents) → Leaves after image
      → ReadsDrained stood.fresh (store_accepted stood.book entry) image

-- no suspect would be marked, and each image reads like the book
pub record UnmarkedOf (asked : RepairAsked) (told : Contents) (after : DisksAt)
    (stood : BookAt told) : Type 0 where
  pub none : IsEntryAt asked stood None
  pub left : (image : Contents) → Leaves after image → ReadsLike stood.fresh stood.book image

-- each image reads like the book, or like the book with the entry
pub record MayHaveRepair (asked : RepairAsked) (told : Contents) (after : DisksAt)
    (stood : BookAt told) : Type 0 where
  pub left : (image : Contents) → Leaves after image
      → ReadsLike stood.fresh stood.book image ⊎ HasRepair asked stood image

-- The entry that the operator's word comes to reaches this limit: the active error journal has no
-- room for it, or a drain of the drained book with it reaches the limit.
pub record EntryAtLimit (asked : RepairAsked) (told : Contents) (stood : BookAt told) (f : Figures)
    (kind : FullKind) : Type 0 where
  pub entry : Entry
  pub found : IsEntryAt asked stood (Some entry)
  pub now : StoreBook
  pub drained_is : IsDrainedOf stood.book now
  pub full : ReachesLimit told stood.fresh stood.book [] entry kind
      ⊎ DrainIsFull f.flt_first (store_accepted now entry).book kind

-- a drain of the book reaches it, or else that entry
abbrev pub repair_limit : RepairAsked → WorkLimit
repair_limit asked told stood f kind =
    DrainIsFull f.flt_first stood.book.book kind ⊎ EntryAtLimit asked told stood f kind

-- The store was drained, and nothing would be marked.
pub record StoreUnmarked (asked : RepairAsked) (disks disks_now : DisksAt) (stop : Stop) : Type 0
  where
    pub why : stop ≡ NotFaulty
    pub holds : (told : Contents) → Tells disks told
        → HoldsOfBook told (UnmarkedOf asked told disks_now)

-- It was opened, and not drained, or the entry not accepted, or the store not drained again.
pub record StoreUnrepaired (asked : RepairAsked) (disks disks_now : DisksAt) (stop : Stop) : Type 0
  where
    pub why : ConcludingStops (repair_limit asked) disks stop
    pub holds : (told : Contents) → Tells disks told
        → HoldsOfBook told (MayHaveRepair asked told disks_now)

-- What was done with the store.
pub record RepairTried (asked : RepairAsked) (disks disks_now : DisksAt)
    (ran : Result Repaired Stop) : Type 0 where
  pub went : MatchResult ran
      (λ one. (told : Contents) → Tells disks told
      → HoldsOfBook told (RepairedOf asked told disks_now one))
      (λ stop. StoreUnopened disks disks_now stop
      ⊎ (StoreUnmarked asked disks disks_now stop
      ⊎ StoreUnrepaired asked disks disks_now stop))
  pub counts : DisksAccount disks disks_now ran

-- ---- the command

-- The work on the store stopped: nothing was put, and the actuators were not called.
pub record RepairStopped (asked : RepairAsked) (acts acts_now : List ActuatorState)
    (out out_now : SinkAt) (disks disks_now : DisksAt) (ran : Result (Unit {0}) Stop) : Type 0
  where
    pub stop : Stop
    pub told : ran ≡ Err stop
    pub store : RepairTried asked disks disks_now (Err stop)
    pub unsaid : out_now ≡ out
    pub unmoved : acts_now ≡ acts

-- The entry was accepted: what the drained book wants was brought to the actuators, and then the
-- number of the entry put.
pub record RepairSettled (asked : RepairAsked) (acts acts_now : List ActuatorState)
    (out out_now : SinkAt) (disks disks_now : DisksAt) (ran : Result (Unit {0}) Stop) : Type 0
  where
    pub one : Repaired
    pub store : RepairTried asked disks disks_now (Ok one)
    pub settled : SettlingEnds one.wanted (ok_text one.number) acts acts_now out out_now ran

-- the command ran, up to its last line
abbrev pub RepairRan : RepairAsked → List ActuatorState → List ActuatorState → SinkAt → SinkAt
    → DisksAt → DisksAt → Result (Unit {0}) Stop → Type 0
RepairRan asked acts acts_now out out_now disks disks_now ran =
    RepairStopped asked acts acts_now out out_now disks disks_now ran
    ⊎ RepairSettled asked acts acts_now out out_now disks disks_now ran
