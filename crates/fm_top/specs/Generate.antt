-- What `gen N` and `gen -l N` do. The first has the store take the entries that the number
-- generates, concludes it as `fmd -1` does, brings the actuators to what is wanted, and puts the
-- summary; the second puts the lines of these entries, and the store takes none.
use Rattle.std.specs.Prelude.{◌≡◌, ◌⊎◌, ℕ, ◌≤◌, ◌<◌, ◌^◌, List, ◌∷◌, ◌++◌, None, Some, Result, Ok}
use Rattle.std.specs.Prelude.{Err, MatchResult, OnOk, IfErr}
use Rattle.std.specs.Global.{Vec}
use Rattle.dx_engine.specs.Diagnosers.{DiagnoserOf, diagnosers}
use Rattle.fm_act.specs.Reconciled.{ActuatorState}
use Rattle.fm_answers.specs.StreamsAt.{SinkAt}
use Rattle.fm_answers.specs.Running.{Taken}
use Rattle.fm_answers.specs.Stops.{of_store}
use Rattle.fm_answers.specs.declared.stops.Stop.{Stop}
use Rattle.fm_answers.specs.declared.stops.Stop.TheVariants.{Disk, Memory, Full}
use Rattle.fm_answers.specs.Recording.{Recorded}
use Rattle.fm_conclude.specs.Concluding.{ConcludeRefused, ConcludesBook, IsConcluded}
use Rattle.fm_conclude.specs.Concluding.{NoDiskFailed}
use Rattle.fm_conclude.specs.declared.concluding.Conclusion.{Conclusion}
use Rattle.fm_core.specs.Book.{ModuleState}
use Rattle.fm_core.specs.Hands.{HandOf}
use Rattle.fm_drain.specs.DrainCalls.{AllFollow}
use Rattle.fm_entry.specs.declared.entry.Entry.{Entry}
use Rattle.fm_gen.specs.Generated.{lines_text}
use Rattle.fm_journal.specs.declared.fault.FullKind.TheVariants.{Numbers}
use Rattle.fm_logs.specs.Contents.{Contents}
use Rattle.fm_logs.specs.StoreBook.{StoreBook}
use Rattle.fm_logs.specs.declared.fault.StoreFault.{StoreFault}
use Rattle.fm_outer.specs.declared.disk.Disk.{Ghosts}
use Rattle.fm_saved.specs.declared.conf.Conf.{Conf}
use Rattle.fm_store.specs.StoreOf.{StoreOf, StoreStandsFor, greatest_at}
use Rattle.fm_top.specs.Accepting.{DisksAccount, Grew}
use Rattle.fm_top.specs.Admin.{StoreUnopened}
use Rattle.fm_top.specs.Esc.{TextEnds}
use Rattle.fm_top.specs.Fmd.{ConcludingStops, DrainedFrom, SettlingEnds}
use Rattle.fm_top.specs.GenerateStart.{AreGenerated, AreGeneratedAt, BeginsLate}
use Rattle.fm_top.specs.Headline.{HoldsOfBook, LikeBook}
use Rattle.fm_top.specs.Init.{AreUnwritten}
use Rattle.fm_top.specs.Limits.{concluding_limit}
use Rattle.fm_top.specs.Outside.{DisksAt, Tells}

-- how the taking of entries stopped, once the first of them were taken: at the next, or between two
abbrev pub TakingStops : Taken → List Entry → List Entry → Stop → Type 0
TakingStops taken front rest Disk =
    (entry : Entry) × (more : List Entry) × (rest ≡ entry ∷ more) × taken front (Some (Disk, entry))
TakingStops taken front rest (Full kind) =
    (entry : Entry) × (more : List Entry) × (rest ≡ entry ∷ more)
    × taken front (Some (Full kind, entry))
TakingStops taken front rest Memory = taken front None
TakingStops taken front rest _ = ⊥

-- the first of these entries were taken, and then it stopped
pub record TookUntil (taken : Taken) (entries : List Entry) (stop : Stop) : Type 0 where
  pub front : List Entry
  pub rest : List Entry
  pub entries_are : entries ≡ front ++ rest
  pub stops : TakingStops taken front rest stop

-- the first of these entries were taken, and the rest is to come
pub record TookFirst (taken : Taken) (entries rest : List Entry) : Type 0 where
  pub front : List Entry
  pub entries_are : entries ≡ front ++ rest
  pub went : taken front None

-- ---- an open store

-- why nothing is generated from a greatest moment on
abbrev pub StartStops : ℕ → Stop → Type 0
StartStops moment (Full Numbers) = 2 ^ 61 ≤ moment
StartStops moment Memory = Unit {0}
StartStops moment _ = ⊥

-- the entries that a number generates of a configuration in force, from the store's greatest moment
-- on, which is below 2^61
pub record StoreGenerates {D M : Type 0} (number : ℕ) (old : StoreOf D M) (conf : Conf)
    (entries : List Entry) : Type 0 where
  pub early : greatest_at old < 2 ^ 61
  pub are : AreGenerated number conf (greatest_at old) entries

-- The store took all that was generated; `between` is the store then, which is open. It was
-- concluded, and this was the answer.
pub record GenerateFinished {D : Type 0} (g : Ghosts D) (number : ℕ)
    (old new : StoreOf D DiagnoserOf) (hands : List (HandOf DiagnoserOf)) (conf : Conf)
    (answer : Result Conclusion StoreFault) : Type 0 where
  pub between : StoreOf D DiagnoserOf
  pub is_open : between.logs.closed ≡ None
  pub entries : List Entry
  pub are : StoreGenerates number old conf entries
  pub took : Recorded g old between entries None
  pub quiet : OnOk answer (NoDiskFailed g between new)
  pub concluded : OnOk answer (IsConcluded between new)
  pub refused : IfErr answer (ConcludeRefused g between new)
  pub book : (fresh : List ModuleState) (k : StoreBook) → StoreStandsFor g fresh between k
      → AllFollow diagnosers k.book hands → ConcludesBook g fresh between new k answer

-- nothing was generated; or the store took the first of what was; or it was not concluded
abbrev pub GenerateHalts : {D : Type 0} → Ghosts D → ℕ → StoreOf D DiagnoserOf
    → StoreOf D DiagnoserOf → List (HandOf DiagnoserOf) → Conf → Stop → Type 0
GenerateHalts g number old new hands conf stop =
    ((new ≡ old) × StartStops (greatest_at old) stop)
    ⊎ (((entries : List Entry) × StoreGenerates number old conf entries
    × TookUntil (Recorded g old new) entries stop)
    ⊎ ((fault : StoreFault) × (stop ≡ of_store fault)
    × GenerateFinished g number old new hands conf (Err fault)))

-- the lines of what is generated were told, or nothing was generated; nothing else was done
abbrev pub ListsGenerated : {D M : Type 0} → ℕ → StoreOf D M → StoreOf D M → Conf
    → Result (Vec ℕ) Stop → Type 0
ListsGenerated number old new conf (Ok text) =
    (new ≡ old) × ((entries : List Entry) × StoreGenerates number old conf entries
    × (text.items ≡ lines_text entries))
ListsGenerated number old new conf (Err stop) = (new ≡ old) × StartStops (greatest_at old) stop

-- ---- six disks

-- these entries are what the number generates, by each book that the contents read as
abbrev pub Generates : ℕ → DisksAt → List Entry → Type 0
Generates number disks entries = (told : Contents) → Tells disks told
    → HoldsOfBook told (λ stood. AreGeneratedAt number stood entries)

-- All that was generated was taken, and then the store was drained and its base moved to its end.
pub record GenerateConcluded (number : ℕ) (disks disks_now : DisksAt) (summary : List ℕ)
    (paths : List (List ℕ)) : Type 0 where
  pub entries : List Entry
  pub are : Generates number disks entries
  pub drains : (told : Contents) → Tells disks told
      → HoldsOfBook told (DrainedFrom told disks_now entries summary paths)

-- why nothing is generated: the greatest moment is too late, or memory was wanted
abbrev pub UnbegunStops : DisksAt → Stop → Type 0
UnbegunStops disks (Full Numbers) = (told : Contents) → Tells disks told → BeginsLate told
UnbegunStops disks Memory = Unit {0}
UnbegunStops disks _ = ⊥

-- The store was opened, and nothing generated: the disks were read at most.
pub record StoreUnbegun (disks disks_now : DisksAt) (stop : Stop) : Type 0 where
  pub why : UnbegunStops disks stop
  pub untouched : AreUnwritten disks disks_now
  pub holds : (told : Contents) → Tells disks told → HoldsOfBook told (LikeBook told disks_now)

-- The first of what was generated was taken, and then the work on the store stopped.
pub record GenerateUntil (number : ℕ) (disks disks_now : DisksAt) (stop : Stop) : Type 0 where
  pub entries : List Entry
  pub are : Generates number disks entries
  pub next : ℕ
  pub ran : TookUntil (Grew disks disks_now next) entries stop

-- All of it was taken, and then the work on the store stopped.
pub record GenerateUnconcluded (number : ℕ) (disks disks_now : DisksAt) (stop : Stop) : Type 0 where
  pub entries : List Entry
  pub are : Generates number disks entries
  pub next : ℕ
  pub took : Grew disks disks_now next entries None
  pub why : ConcludingStops (concluding_limit entries) disks stop

-- the work on the store stopped: before it was opened, before anything was generated, at an entry,
-- or behind all
abbrev pub GenerateStops : ℕ → DisksAt → DisksAt → Stop → Type 0
GenerateStops number disks disks_now stop =
    StoreUnopened disks disks_now stop
    ⊎ (StoreUnbegun disks disks_now stop
    ⊎ (GenerateUntil number disks disks_now stop
    ⊎ GenerateUnconcluded number disks disks_now stop))

-- What was done with the store.
pub record GenerateTried (number : ℕ) (disks disks_now : DisksAt) (ran : Result Conclusion Stop)
    : Type 0 where
  pub went : MatchResult ran
      (λ c. GenerateConcluded number disks disks_now c.summary.items c.wanted)
      (GenerateStops number disks disks_now)
  pub counts : DisksAccount disks disks_now ran

-- The text is the lines of what is generated. The disks were read at most, and each image reads
-- like the book from before.
pub record LinesTold (number : ℕ) (disks disks_now : DisksAt) (text : List ℕ) : Type 0 where
  pub entries : List Entry
  pub are : Generates number disks entries
  pub text_is : text ≡ lines_text entries
  pub untouched : AreUnwritten disks disks_now
  pub holds : (told : Contents) → Tells disks told → HoldsOfBook told (LikeBook told disks_now)

-- What was done with the store, of which nothing is asked but its book.
pub record LinesTried (number : ℕ) (disks disks_now : DisksAt) (ran : Result (List ℕ) Stop) : Type 0
  where
    pub went : MatchResult ran (LinesTold number disks disks_now)
        (λ stop. StoreUnopened disks disks_now stop ⊎ StoreUnbegun disks disks_now stop)
    pub counts : DisksAccount disks disks_now ran

-- ---- the commands

-- The work on the store stopped: nothing was put, and the actuators were not called.
pub record GenerateStopped (number : ℕ) (acts acts_now : List ActuatorState)
    (out out_now : SinkAt) (disks disks_now : DisksAt) (ran : Result (Unit {0}) Stop) : Type 0
  where
    pub stop : Stop
    pub told : ran ≡ Err stop
    pub store : GenerateTried number disks disks_now (Err stop)
    pub unsaid : out_now ≡ out
    pub unmoved : acts_now ≡ acts

-- All was done with the store: what the drained book wants was brought to the actuators, and then
-- the summary put.
pub record GenerateSettled (number : ℕ) (acts acts_now : List ActuatorState)
    (out out_now : SinkAt) (disks disks_now : DisksAt) (ran : Result (Unit {0}) Stop) : Type 0
  where
    pub conclusion : Conclusion
    pub store : GenerateTried number disks disks_now (Ok conclusion)
    pub settled : SettlingEnds conclusion.wanted conclusion.summary.items acts acts_now out out_now
        ran

-- `gen N` ran, up to its last line
abbrev pub GenerateRan : ℕ → List ActuatorState → List ActuatorState → SinkAt → SinkAt → DisksAt
    → DisksAt → Result (Unit {0}) Stop → Type 0
GenerateRan number acts acts_now out out_now disks disks_now ran =
    GenerateStopped number acts acts_now out out_now disks disks_now ran
    ⊎ GenerateSettled number acts acts_now out out_now disks disks_now ran

-- the lines were told, and then put, or the sink failed and took a front of them
pub record LinesPut (number : ℕ) (out out_now : SinkAt) (disks disks_now : DisksAt)
    (ran : Result (Unit {0}) Stop) : Type 0 where
  pub text : List ℕ
  pub store : LinesTried number disks disks_now (Ok text)
  pub put : TextEnds out out_now text ran

-- they were not told, and nothing put
pub record LinesUntold (number : ℕ) (out out_now : SinkAt) (disks disks_now : DisksAt)
    (ran : Result (Unit {0}) Stop) : Type 0 where
  pub stop : Stop
  pub told : ran ≡ Err stop
  pub store : LinesTried number disks disks_now (Err stop)
  pub unsaid : out_now ≡ out

-- `gen -l N` ran, up to its last line
abbrev pub LinesRan : ℕ → SinkAt → SinkAt → DisksAt → DisksAt → Result (Unit {0}) Stop → Type 0
LinesRan number out out_now disks disks_now ran =
    LinesPut number out out_now disks disks_now ran
    ⊎ LinesUntold number out out_now disks disks_now ran
