-- What becomes of an open store in a run of `fmd -1`.
use Rattle.std.specs.Prelude.{◌≡◌, ◌⊎◌, List, true, None, Result, Ok, Err, OnOk, IfErr}
use Rattle.std.specs.Io.KnownBytes.{Appends, Consumes, IsAtEnd}
use Rattle.dx_engine.specs.Diagnosers.{DiagnoserOf, diagnosers}
use Rattle.fm_answers.specs.StreamsAt.{SourceAt, SinkAt}
use Rattle.fm_answers.specs.Running.{RanAll, RanUntil}
use Rattle.fm_answers.specs.Stops.{of_store}
use Rattle.fm_answers.specs.declared.stops.Stop.{Stop}
use Rattle.fm_answers.specs.declared.stops.Stop.TheVariants.{Differs}
use Rattle.fm_answers.specs.Recording.{Recorded}
use Rattle.fm_conclude.specs.Concluding.{ConcludeRefused, ConcludesBook, IsConcluded}
use Rattle.fm_conclude.specs.Concluding.{NoDiskFailed}
use Rattle.fm_conclude.specs.declared.concluding.Conclusion.{Conclusion}
use Rattle.fm_core.specs.Book.{ModuleState}
use Rattle.fm_core.specs.Hands.{HandOf}
use Rattle.fm_drain.specs.DrainCalls.{AllFollow}
use Rattle.fm_logs.specs.StoreBook.{StoreBook}
use Rattle.fm_logs.specs.declared.fault.StoreFault.{StoreFault}
use Rattle.fm_outer.specs.declared.disk.Disk.{Ghosts}
use Rattle.fm_saved.specs.declared.conf.Conf.{Conf}
use Rattle.fm_sources.specs.declared.sources.Sources.{Sources}
use Rattle.fm_store.specs.StoreCalls.{next_entry}
use Rattle.fm_store.specs.StoreOf.{StoreOf, StoreStandsFor}
use Rattle.fm_top.specs.Kept.{IsAsRead}

-- The input was read to its end, and the store took the entry of each line; `between` is the store
-- then, which is open. It was concluded, and this was the answer.
pub record StoreFinished {D : Type 0} (g : Ghosts D) (old new : StoreOf D DiagnoserOf)
    (hands : List (HandOf DiagnoserOf)) (input input_now : SourceAt) (out out_now : SinkAt)
    (answer : Result Conclusion StoreFault) : Type 0 where
  pub between : StoreOf D DiagnoserOf
  pub is_open : between.logs.closed ≡ None
  pub ran : RanAll (Recorded g old between) (Appends out.bytes out_now.bytes) true
      (next_entry old.logs) (Consumes input.left input_now.left) (IsAtEnd input_now.left)
  pub quiet : OnOk answer (NoDiskFailed g between new)
  pub concluded : OnOk answer (IsConcluded between new)
  pub refused : IfErr answer (ConcludeRefused g between new)
  pub book : (fresh : List ModuleState) (k : StoreBook) → StoreStandsFor g fresh between k
      → AllFollow diagnosers k.book hands → ConcludesBook g fresh between new k answer

-- the configuration in force is another than was read: nothing was done
pub record StoreIsOther {D : Type 0} (old new : StoreOf D DiagnoserOf) (conf : Conf) (got : Sources)
    (input input_now : SourceAt) (out out_now : SinkAt) (stop : Stop) : Type 0 where
  pub why : stop ≡ Differs
  pub differs : IsAsRead conf got → ⊥
  pub same : new ≡ old
  pub consumed : input_now ≡ input
  pub put : out_now ≡ out

-- the run over the input stopped, or the store was not concluded
abbrev pub StoreHalts : {D : Type 0} → Ghosts D → StoreOf D DiagnoserOf → StoreOf D DiagnoserOf
    → List (HandOf DiagnoserOf) → SourceAt → SourceAt → SinkAt → SinkAt → Stop → Type 0
StoreHalts g old new hands input input_now out out_now stop =
    RanUntil (Recorded g old new) (Appends out.bytes out_now.bytes) true (next_entry old.logs)
    (Consumes input.left input_now.left) (IsAtEnd input_now.left) stop
    ⊎ ((fault : StoreFault) × (stop ≡ of_store fault)
    × StoreFinished g old new hands input input_now out out_now (Err fault))

-- an open store with this configuration in force was worked, where `got` was read of the sources
abbrev pub StoreWorks : {D : Type 0} → Ghosts D → StoreOf D DiagnoserOf → StoreOf D DiagnoserOf
    → List (HandOf DiagnoserOf) → Conf → Sources → SourceAt → SourceAt → SinkAt → SinkAt
    → Result Conclusion Stop → Type 0
StoreWorks g old new hands conf got input input_now out out_now (Ok conclusion) =
    IsAsRead conf got × StoreFinished g old new hands input input_now out out_now (Ok conclusion)
StoreWorks g old new hands conf got input input_now out out_now (Err stop) =
    StoreIsOther old new conf got input input_now out out_now stop
    ⊎ (IsAsRead conf got × StoreHalts g old new hands input input_now out out_now stop)
