-- What `explain` does: the store is drained, and the text of the row of the drained book that has
-- the UUID is put, in the graph of its configuration; where no row has it, nothing. No entry is
-- accepted.
use Rattle.std.specs.Prelude.{◌≡◌, ◌⊎◌, List, Option, Some, None, Result, Ok, Err, MatchResult}
use Rattle.std.specs.Prelude.{ℕ, OnOk, IfOk, IfErr}
use Rattle.std.specs.Global.{Vec}
use Rattle.std.specs.Option.{option_map}
use Rattle.dx_engine.specs.Diagnosers.{DiagnoserOf, diagnosers}
use Rattle.fm_admin.specs.Explaining.{IsExplanationOf}
use Rattle.fm_answers.specs.StreamsAt.{SinkAt}
use Rattle.fm_answers.specs.Stops.{of_store}
use Rattle.fm_answers.specs.declared.stops.Stop.{Stop}
use Rattle.fm_answers.specs.declared.stops.Stop.TheVariants.{NotFound}
use Rattle.fm_conclude.specs.Concluding.{NoDiskFailed}
use Rattle.fm_core.specs.Book.{ModuleState}
use Rattle.fm_core.specs.Drained.{drained}
use Rattle.fm_core.specs.Hands.{HandOf}
use Rattle.fm_drain.specs.DrainCalls.{AllFollow}
use Rattle.fm_logs.specs.Contents.{Contents}
use Rattle.fm_logs.specs.StoreBook.{StoreBook, force_now}
use Rattle.fm_logs.specs.declared.fault.StoreFault.{StoreFault}
use Rattle.fm_outer.specs.declared.disk.Disk.{Ghosts}
use Rattle.fm_saved.specs.declared.conf.Conf.{Conf}
use Rattle.fm_drain.specs.BaseLimits.{Figures, figures_of}
use Rattle.fm_store.specs.StoreLeft.{EachLeft, ReadsLike}
use Rattle.fm_store.specs.StoreOf.{StoreOf, StoreStandsFor}
use Rattle.fm_store.specs.StoreReading.{IsNoDamage}
use Rattle.fm_top.specs.Accepting.{DisksAccount}
use Rattle.fm_top.specs.Admin.{AdminRefused, StoreUnopened, StoreUntold}
use Rattle.fm_top.specs.DrainedBook.{ReadsDrained}
use Rattle.fm_top.specs.Esc.{TextEnds}
use Rattle.fm_top.specs.ExplainedRow.{IsExplanationAt}
use Rattle.fm_top.specs.Headline.{HoldsOfBook}
use Rattle.fm_top.specs.Kept.{BookAt}
use Rattle.fm_top.specs.Limits.{DrainLimit, draining_limit}
use Rattle.fm_top.specs.Outside.{DisksAt, Tells, Leaves}

-- ---- an open store

-- What becomes of a book that the hands follow: each crash leaves contents that read like it,
-- whatever is answered; after Ok they read as it is once it is drained, and this is the text of the
-- row, or there is none.
pub record ExplainOnBook {D M : Type 0} (g : Ghosts D) (uuid : List ℕ) (fresh : List ModuleState)
    (f : Figures) (new : StoreOf D M) (k : StoreBook) (conf : Conf)
    (answer : Result (Option (Vec ℕ)) StoreFault) : Type 0 where
  pub told : IfOk answer (λ text. IsExplanationOf conf (force_now k) uuid (drained k.book)
      (option_map (λ t. t.items) text))
  pub after : OnOk answer (EachLeft g new (ReadsDrained fresh k))
  pub undamaged : IfErr answer IsNoDamage
  pub limit : IfErr answer (DrainLimit f k)
  pub left : EachLeft g new (ReadsLike fresh k)

-- What was done with an open store that has this configuration in force.
pub record ExplainDone {D : Type 0} (g : Ghosts D) (uuid : List ℕ)
    (old new : StoreOf D DiagnoserOf) (hands : List (HandOf DiagnoserOf)) (conf : Conf)
    (answer : Result (Option (Vec ℕ)) StoreFault) : Type 0 where
  pub was_open : old.logs.closed ≡ None
  pub quiet : OnOk answer (NoDiskFailed g old new)
  pub refused : IfErr answer (AdminRefused g old new)
  pub book : (fresh : List ModuleState) (k : StoreBook) → StoreStandsFor g fresh old k
      → AllFollow diagnosers k.book hands
      → ExplainOnBook g uuid fresh (figures_of old) new k conf answer

-- no row has the UUID, or it was refused
abbrev pub ExplainHalts : {D : Type 0} → Ghosts D → List ℕ → StoreOf D DiagnoserOf
    → StoreOf D DiagnoserOf → List (HandOf DiagnoserOf) → Conf → Stop → Type 0
ExplainHalts g uuid old new hands conf stop =
    ((stop ≡ NotFound) × ExplainDone g uuid old new hands conf (Ok None))
    ⊎ ((fault : StoreFault) × (stop ≡ of_store fault)
    × ExplainDone g uuid old new hands conf (Err fault))

-- ---- six disks

-- A book that the contents read as was drained: each image that a crash now may leave reads so, and
-- this is the text of the row that has the UUID, or there is none.
pub record ExplainedOf (uuid : List ℕ) (told : Contents) (after : DisksAt)
    (text : Option (List ℕ)) (stood : BookAt told) : Type 0 where
  pub left : (image : Contents) → Leaves after image → ReadsDrained stood.fresh stood.book image
  pub text_is : IsExplanationAt uuid stood text

-- The store was drained, and no row has the UUID.
pub record StoreWithout (uuid : List ℕ) (disks disks_now : DisksAt) (stop : Stop) : Type 0 where
  pub why : stop ≡ NotFound
  pub holds : (told : Contents) → Tells disks told
      → HoldsOfBook told (ExplainedOf uuid told disks_now None)

-- What was done with the store up to the text, which is told or not.
pub record ExplainTried (uuid : List ℕ) (disks disks_now : DisksAt) (ran : Result (List ℕ) Stop)
    : Type 0 where
  pub went : MatchResult ran
      (λ text. (told : Contents) → Tells disks told
      → HoldsOfBook told (ExplainedOf uuid told disks_now (Some text)))
      (λ stop. StoreUnopened disks disks_now stop
      ⊎ (StoreWithout uuid disks disks_now stop
      ⊎ StoreUntold draining_limit disks disks_now stop))
  pub counts : DisksAccount disks disks_now ran

-- ---- the command

-- the text was told, and then put, or the sink failed and took a front of it
pub record RowTold (uuid : List ℕ) (out out_now : SinkAt) (disks disks_now : DisksAt)
    (ran : Result (Unit {0}) Stop) : Type 0 where
  pub text : List ℕ
  pub store : ExplainTried uuid disks disks_now (Ok text)
  pub put : TextEnds out out_now text ran

-- it was not told, and nothing put
pub record RowUntold (uuid : List ℕ) (out out_now : SinkAt) (disks disks_now : DisksAt)
    (ran : Result (Unit {0}) Stop) : Type 0 where
  pub stop : Stop
  pub told : ran ≡ Err stop
  pub store : ExplainTried uuid disks disks_now (Err stop)
  pub unsaid : out_now ≡ out

-- the command ran, up to its last line
abbrev pub ExplainRan : List ℕ → SinkAt → SinkAt → DisksAt → DisksAt → Result (Unit {0}) Stop
    → Type 0
ExplainRan uuid out out_now disks disks_now ran =
    RowTold uuid out out_now disks disks_now ran
    ⊎ RowUntold uuid out out_now disks disks_now ran
