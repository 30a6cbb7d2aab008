-- What `fmd -1` does: to the sources of the rule files and the topology, to the input, to the sink,
-- to the six disks and to the actuators.
use Rattle.std.specs.Prelude.{◌≡◌, ◌⊎◌, ℕ, List, [], None, Result, Ok, Err, MatchResult}
use Rattle.ev_file.specs.declared.made.Made.{Made}
use Rattle.fm_act.specs.Reconciled.{ActuatorState, Reconciled}
use Rattle.fm_act.specs.declared.faults.ActRefused.{ActRefused}
use Rattle.fm_act.specs.declared.faults.ActRefused.TheVariants as refused
use Rattle.fm_answers.specs.Accounts.{Accounts}
use Rattle.fm_answers.specs.Answers.{entries_of}
use Rattle.fm_answers.specs.StreamsAt.{SourceAt, SinkAt}
use Rattle.fm_answers.specs.Refusing.{PutCut}
use Rattle.fm_answers.specs.Stops.{of_compiling}
use Rattle.fm_answers.specs.declared.stops.Stop.{Stop}
use Rattle.fm_answers.specs.declared.stops.Stop.TheVariants.{Read, Write, Disk, Damaged, Memory}
use Rattle.fm_answers.specs.declared.stops.Stop.TheVariants.{Full}
use Rattle.fm_answers.specs.declared.stops.Stop.TheVariants.{Differs, Act}
use Rattle.fm_answers.specs.Recording.{store_with}
use Rattle.fm_conclude.specs.declared.concluding.Conclusion.{Conclusion}
use Rattle.fm_core.specs.Book.{ModuleState}
use Rattle.fm_core.specs.Drained.{drained}
use Rattle.fm_entry.specs.declared.entry.Entry.{Entry}
use Rattle.fm_esc.specs.Compiling.{AreGraphs, CompileCause}
use Rattle.fm_esc.specs.declared.faults.CompileFault.{CompileFault}
use Rattle.fm_line.specs.Lines.{lines_of}
use Rattle.fm_logs.specs.Contents.{Contents}
use Rattle.fm_logs.specs.ReadsAsBook.{ReadsAsBook}
use Rattle.fm_logs.specs.StoreBook.{StoreBook}
use Rattle.fm_drain.specs.ToBase.{IsBasedOf}
use Rattle.fm_sources.specs.Sources.{ReadsSources}
use Rattle.fm_sources.specs.declared.sources.Sources.{Sources}
use Rattle.fm_drain.specs.Wanting.{AreWantedOf}
use Rattle.fm_conclude.specs.DrainedSummary.{IsSummaryOf}
use Rattle.fm_top.specs.Accepting.{AcceptedAll, AcceptedUntil, DisksAccount, Grew, NotOpened}
use Rattle.fm_top.specs.Esc.{PutText}
use Rattle.fm_top.specs.Exact.{IsExactWith}
use Rattle.fm_top.specs.Headline.{HoldsOfBook}
use Rattle.fm_top.specs.Init.{AreUnwritten}
use Rattle.fm_top.specs.Kept.{BookAt, KeepsAsRead, KeepsOther}
use Rattle.fm_top.specs.Limits.{ReachesWorkLimit, WorkLimit, concluding_limit}
use Rattle.fm_top.specs.Outside.{Outside, DisksAt, Tells, Leaves, disk_counts}
use Rattle.fm_top.specs.Outside.{given_of, standing}

-- The image reads as a book that comes of this one by draining, with its base at its end.
pub record ReadsBased (fresh : List ModuleState) (k : StoreBook) (image : Contents) : Type 0 where
  pub read : StoreBook
  pub reads : ReadsAsBook fresh image read
  pub based_is : IsBasedOf k read

-- A book that the contents read as was drained with these entries: each image that a crash now
-- may leave reads as it, with its base at its end; the drained book has exact suspects; the text is
-- its summary, and these paths are what it wants out of use.
pub record DrainedFrom (told : Contents) (after : DisksAt) (entries : List Entry)
    (summary : List ℕ) (paths : List (List ℕ)) (stood : BookAt told) : Type 0 where
  pub left : (image : Contents) → Leaves after image
      → ReadsBased stood.fresh (store_with stood.book entries) image
  pub exact : IsExactWith stood entries
  pub summary_is : IsSummaryOf (drained (store_with stood.book entries).book) summary
  pub wanted_are : AreWantedOf (drained (store_with stood.book entries).book) paths

-- the disks told contents, and these keep as the configuration in force what was read
abbrev pub KeepSame : DisksAt → Sources → Type 0
KeepSame disks got = (told : Contents) → Tells disks told → KeepsAsRead told got

-- The store keeps what was read; the input was read to its end, and the entry of each line taken;
-- and then the store was drained and its base moved to its end.
pub record StoreConcluded (input input_now : SourceAt) (out out_now : SinkAt)
    (disks disks_now : DisksAt) (got : Sources) (summary : List ℕ) (paths : List (List ℕ)) : Type 0
  where
    pub same : KeepSame disks got
    pub accepted : AcceptedAll input input_now out out_now disks disks_now
    pub drains : (told : Contents) → Tells disks told → HoldsOfBook told (DrainedFrom told disks_now
        (entries_of (lines_of accepted.ran.read)) summary paths)

-- The store keeps another configuration in force than was read: nothing was read of the input and
-- nothing put, and the disks were read at most.
pub record StoreDiffers (input input_now : SourceAt) (out out_now : SinkAt)
    (disks disks_now : DisksAt) (got : Sources) (stop : Stop) : Type 0 where
  pub why : stop ≡ Differs
  pub other : (told : Contents) → Tells disks told → KeepsOther told got
  pub consumed : input_now ≡ input
  pub put : out_now ≡ out
  pub untouched : AreUnwritten disks disks_now
  pub next : ℕ
  pub grew : Grew disks disks_now next [] None

-- why the work on a store stopped that may reach this limit; no store whose disks told a book is
-- damaged
abbrev pub ConcludingStops : WorkLimit → DisksAt → Stop → Type 0
ConcludingStops limit disks Disk = Unit {0}
ConcludingStops limit disks (Full kind) = ReachesWorkLimit limit disks kind
ConcludingStops limit disks Memory = Unit {0}
ConcludingStops limit disks (Damaged disk place) = (told : Contents) → Tells disks told → ⊥
ConcludingStops limit disks _ = ⊥

-- Each line was answered and its entry taken, and then the work on the store stopped.
pub record Unconcluded (input input_now : SourceAt) (out out_now : SinkAt)
    (disks disks_now : DisksAt) (stop : Stop) : Type 0 where
  pub accepted : AcceptedAll input input_now out out_now disks disks_now
  pub why : ConcludingStops (concluding_limit (entries_of (lines_of accepted.ran.read))) disks stop

-- the work on the store stopped: before it was opened, at what it keeps, at the input, or behind it
abbrev pub StoreStops : SourceAt → SourceAt → SinkAt → SinkAt → DisksAt → DisksAt → Sources
    → Stop → Type 0
StoreStops input input_now out out_now disks disks_now got stop =
    NotOpened input input_now out out_now disks disks_now stop
    ⊎ (StoreDiffers input input_now out out_now disks disks_now got stop
    ⊎ (KeepSame disks got × (AcceptedUntil input input_now out out_now disks disks_now stop
    ⊎ Unconcluded input input_now out out_now disks disks_now stop)))

-- What was done with the store, once `got` was read of the sources.
pub record StoreRan (input input_now : SourceAt) (out out_now : SinkAt)
    (disks disks_now : DisksAt) (got : Sources) (ran : Result Conclusion Stop) : Type 0 where
  pub went : MatchResult ran
      (λ c. StoreConcluded input input_now out out_now disks disks_now got c.summary.items c.wanted)
      (StoreStops input input_now out out_now disks disks_now got)
  pub counts_input : Accounts Read input.failures input_now.failures ran
  pub counts_out : Accounts Write out.failures out_now.failures ran
  pub counts_disks : DisksAccount disks disks_now ran

-- The paths were brought to the actuators, and then the summary was put: both were done; or an
-- actuator failed, and the summary was put; or the sink failed, and took a front of the summary; or
-- memory was wanted, and nothing was put.
abbrev pub SettlingEnds : List (List ℕ) → List ℕ → List ActuatorState → List ActuatorState → SinkAt
    → SinkAt → Result (Unit {0}) Stop → Type 0
SettlingEnds paths summary acts acts_now out out_now (Ok done) =
    Reconciled paths acts acts_now (Ok tt) × PutText out out_now summary
SettlingEnds paths summary acts acts_now out out_now (Err (Act index)) =
    Reconciled paths acts acts_now (Err (refused.Act index)) × PutText out out_now summary
SettlingEnds paths summary acts acts_now out out_now (Err Write) =
    ((answer : Result (Unit {0}) ActRefused) × Reconciled paths acts acts_now answer)
    × PutCut out out_now summary Write
SettlingEnds paths summary acts acts_now out out_now (Err Memory) =
    PutCut out out_now summary Memory
SettlingEnds _ _ _ _ _ _ _ = ⊥

-- The sources were refused, or what a rule file comes to is past a limit: nothing else was called.
pub record SourcesStopped (before after : Outside) (ran : Result (Unit {0}) Stop) : Type 0 where
  pub fault : CompileFault
  pub cause : CompileCause standing (given_of before) (given_of after) fault
  pub told : ran ≡ Err (of_compiling fault)
  pub unread : after.input ≡ before.input
  pub unsaid : after.out ≡ before.out
  pub untouched : AreUnwritten before.disks after.disks
  pub uncalled : disk_counts after.disks ≡ disk_counts before.disks
  pub unmoved : after.acts ≡ before.acts

-- rule files, each of which comes to a graph, and a topology were read of the sources
pub record SourcesRead (before after : Outside) (got : Sources) : Type 0 where
  pub read : ReadsSources standing (given_of before) (given_of after) (Ok got)
  pub mades : List Made
  pub graphs : AreGraphs got.topo got.files.items mades

-- The sources were read, and then the work on the store stopped; the actuators were not called.
pub record StoreStopped (before after : Outside) (ran : Result (Unit {0}) Stop) : Type 0 where
  pub got : Sources
  pub sources : SourcesRead before after got
  pub stop : Stop
  pub told : ran ≡ Err stop
  pub store : StoreRan before.input after.input before.out after.out before.disks after.disks got
      (Err stop)
  pub unmoved : after.acts ≡ before.acts

-- All was done with the store; `middle` is the sink then. The paths were brought to the actuators,
-- and then the summary was put behind the answers.
pub record StoreSettled (before after : Outside) (ran : Result (Unit {0}) Stop) : Type 0 where
  pub got : Sources
  pub sources : SourcesRead before after got
  pub conclusion : Conclusion
  pub middle : SinkAt
  pub store : StoreRan before.input after.input before.out middle before.disks after.disks got
      (Ok conclusion)
  pub settled : SettlingEnds conclusion.wanted conclusion.summary.items before.acts after.acts
      middle after.out ran

-- `fmd -1` ran, up to its last line
abbrev pub FmdRan : Outside → Outside → Result (Unit {0}) Stop → Type 0
FmdRan before after ran =
    SourcesStopped before after ran
    ⊎ (StoreStopped before after ran ⊎ StoreSettled before after ran)
