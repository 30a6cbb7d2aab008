-- What an operator's command does that puts one text: the store is drained, and the text is a
-- function of its drained book, of its log of entries, or of where they end. No entry is accepted.
use Rattle.std.specs.Prelude.{◌≡◌, ◌⊎◌, ℕ, List, [], ◌++◌, codes, decimal, Bool, slice_get, None}
use Rattle.std.specs.Prelude.{Some, Result, Ok, Err, MatchResult, OnOk, IfOk, IfErr}
use Rattle.std.specs.Global.{Vec}
use Rattle.dx_engine.specs.Diagnosers.{DiagnoserOf, diagnosers}
use Rattle.fm_admin.specs.Limits.{DrainOrRotation}
use Rattle.fm_admin.specs.Telling.{IsFaultyOf}
use Rattle.fm_answers.specs.StreamsAt.{SinkAt}
use Rattle.fm_answers.specs.declared.stops.Stop.{Stop}
use Rattle.fm_command.specs.declared.words.AdminCommand.{AdminCommand}
use Rattle.fm_command.specs.declared.words.AdminCommand.TheVariants.{Config, Dump, Faulty, Rotate}
use Rattle.fm_conclude.specs.Concluding.{NoDiskFailed, SomeDiskFailed}
use Rattle.fm_config.specs.Sizes.{IsConfText}
use Rattle.fm_core.specs.Book.{ModuleState, next_number}
use Rattle.fm_core.specs.Drained.{drained}
use Rattle.fm_core.specs.Hands.{HandOf}
use Rattle.fm_drain.specs.DrainCalls.{AllFollow}
use Rattle.fm_logs.specs.Contents.{Contents, active_of_two}
use Rattle.fm_logs.specs.ReadsAsBook.{IsLog, ReadsAsBook, SaysBook, SpellsEntry}
use Rattle.fm_logs.specs.StoreBook.{StoreBook, force_now}
use Rattle.fm_logs.specs.declared.fault.StoreFault.{StoreFault}
use Rattle.fm_logs.specs.declared.fault.StoreFault.TheVariants.{Disk, Full, Closed, Damaged}
use Rattle.fm_logs.specs.declared.fault.StoreFault.TheVariants.{NoMemory}
use Rattle.fm_outer.specs.declared.disk.Disk.{Ghosts}
use Rattle.fm_saved.specs.declared.conf.Conf.{Conf}
use Rattle.fm_drain.specs.BaseLimits.{Figures, figures_of}
use Rattle.fm_drain.specs.ToBase.{IsBasedOf}
use Rattle.fm_store.specs.StoreLeft.{EachLeft, ReadsLike}
use Rattle.fm_store.specs.StoreOf.{StoreOf, StoreStandsFor}
use Rattle.fm_store.specs.StoreReading.{IsNoDamage}
use Rattle.fm_top.specs.Accepting.{DisksAccount, OpeningStops}
use Rattle.fm_top.specs.DrainedBook.{ReadsDrained}
use Rattle.fm_top.specs.Dump.{ErrorLog, IsDump, IsErrorLogOf, error_log}
use Rattle.fm_top.specs.Esc.{TextEnds}
use Rattle.fm_top.specs.Fmd.{ConcludingStops}
use Rattle.fm_top.specs.Headline.{HoldsOfBook, LikeBook}
use Rattle.fm_top.specs.Init.{AreUnwritten}
use Rattle.fm_top.specs.Kept.{BookAt}
use Rattle.fm_top.specs.Limits.{DrainLimit, WorkLimit}
use Rattle.fm_top.specs.Outside.{DisksAt, Tells, Leaves}

-- `rotated N`
abbrev pub rotated_text : ℕ → List ℕ
rotated_text number = codes "rotated " ++ (decimal number ++ codes "\n")

-- The image reads as a book that comes of this one by draining, with its base at its end; and the
-- error journal that is active in it begins there, and has no payload.
pub record ReadsRotated (fresh : List ModuleState) (k : StoreBook) (image : Contents) : Type 0
  where
    pub read : StoreBook
    pub reads : ReadsAsBook fresh image read
    pub based_is : IsBasedOf k read
    pub second : Bool
    pub says : SaysBook fresh image second read
    pub blank : IsLog SpellsEntry (active_of_two second image) (next_number k.book) []

-- WHICH TEXT EACH COMMAND PUTS, one line a command: of a book with this configuration in force, and
-- of the entries of the active error journal
abbrev pub IsTextOf : AdminCommand → Conf → ErrorLog → StoreBook → List ℕ → Type 0
IsTextOf Faulty conf log k text = IsFaultyOf conf.namespace (drained k.book) text
IsTextOf Config conf log k text = IsConfText conf text
IsTextOf (Dump options) conf log k text = IsDump options.errors options conf.namespace log k text
IsTextOf Rotate conf log k text = text ≡ rotated_text (next_number k.book)

-- WHAT EACH COMMAND LEAVES once it is done, one line a command: how an image reads
abbrev pub ReadsAfter : AdminCommand → List ModuleState → StoreBook → Contents → Type 0
ReadsAfter Faulty fresh k image = ReadsDrained fresh k image
ReadsAfter Config fresh k image = ReadsDrained fresh k image
ReadsAfter (Dump options) fresh k image = ReadsDrained fresh k image
ReadsAfter Rotate fresh k image = ReadsRotated fresh k image

-- ---- an open store

-- Why a command was refused, which an open store is by a disk that failed, at a limit, or for want
-- of memory. A log that reads as none is damaged.
abbrev pub AdminRefused : {D M : Type 0} → Ghosts D → StoreOf D M → StoreOf D M → StoreFault
    → Type 0
AdminRefused g old new Disk = SomeDiskFailed g old new
AdminRefused g old new (Closed name failures) = old.logs.closed ≡ Some (name, failures)
AdminRefused g old new (Full kind) = Unit {0}
AdminRefused g old new (Damaged name place) = Unit {0}
AdminRefused g old new NoMemory = Unit {0}
AdminRefused _ _ _ _ = ⊥

-- WHICH LIMIT EACH COMMAND MAY REACH, one line a command: of a book
abbrev pub CommandLimit : AdminCommand → Figures → StoreBook → StoreFault → Type 0
CommandLimit Faulty f k fault = DrainLimit f k fault
CommandLimit Config f k fault = DrainLimit f k fault
CommandLimit (Dump options) f k fault = DrainLimit f k fault
CommandLimit Rotate f k fault = DrainOrRotation f k fault

-- of a book that contents read as
abbrev pub command_limit : AdminCommand → WorkLimit
command_limit asked told stood f kind = CommandLimit asked f stood.book (Full kind)

-- What becomes of a book that the hands follow, in a store of these figures: each crash leaves
-- contents that read like it, whatever is answered; after Ok they read as the command leaves them,
-- and this is its text.
pub record AdminOnBook {D M : Type 0} (g : Ghosts D) (asked : AdminCommand)
    (fresh : List ModuleState) (f : Figures) (new : StoreOf D M) (k : StoreBook) (conf : Conf)
    (log : ErrorLog) (answer : Result (Vec ℕ) StoreFault) : Type 0 where
  pub text_is : IfOk answer (λ text. IsTextOf asked conf log k text.items)
  pub after : OnOk answer (EachLeft g new (ReadsAfter asked fresh k))
  pub undamaged : IfErr answer IsNoDamage
  pub limit : IfErr answer (CommandLimit asked f k)
  pub left : EachLeft g new (ReadsLike fresh k)

-- What a command does with an open store that has this configuration in force.
pub record AdminDone {D : Type 0} (g : Ghosts D) (asked : AdminCommand)
    (old new : StoreOf D DiagnoserOf) (hands : List (HandOf DiagnoserOf)) (conf : Conf)
    (answer : Result (Vec ℕ) StoreFault) : Type 0 where
  pub was_open : old.logs.closed ≡ None
  pub quiet : OnOk answer (NoDiskFailed g old new)
  pub refused : IfErr answer (AdminRefused g old new)
  pub book : (fresh : List ModuleState) (k : StoreBook) (stands : StoreStandsFor g fresh old k)
      → AllFollow diagnosers k.book hands
      → AdminOnBook g asked fresh (figures_of old) new k conf (error_log old stands.older) answer

-- ---- six disks

-- the text of a command, of a book that contents read as
pub record IsTextAt (asked : AdminCommand) {told : Contents} (stood : BookAt told) (text : List ℕ)
    : Type 0 where
  pub conf : Conf
  pub in_force : slice_get stood.book.confs (force_now stood.book) ≡ Some conf
  pub log : ErrorLog
  pub log_is : IsErrorLogOf stood.fresh told stood.book log
  pub text_is : IsTextOf asked conf log stood.book text

-- A book that the contents read as was drained: each image that a crash now may leave reads as the
-- command leaves it, and this is its text.
pub record ToldOf (asked : AdminCommand) (told : Contents) (after : DisksAt) (text : List ℕ)
    (stood : BookAt told) : Type 0 where
  pub left : (image : Contents) → Leaves after image
      → ReadsAfter asked stood.fresh stood.book image
  pub text_is : IsTextAt asked stood text

-- The store was not opened: the disks were read at most.
pub record StoreUnopened (disks disks_now : DisksAt) (stop : Stop) : Type 0 where
  pub untouched : AreUnwritten disks disks_now
  pub why : OpeningStops disks stop

-- It was opened, and the text not told.
pub record StoreUntold (limit : WorkLimit) (disks disks_now : DisksAt) (stop : Stop) : Type 0 where
  pub why : ConcludingStops limit disks stop
  pub holds : (told : Contents) → Tells disks told → HoldsOfBook told (LikeBook told disks_now)

-- What was done with the store up to the text, which is told or not.
pub record TextAsked (asked : AdminCommand) (disks disks_now : DisksAt) (ran : Result (List ℕ) Stop)
    : Type 0 where
  pub went : MatchResult ran
      (λ text. (told : Contents) → Tells disks told
      → HoldsOfBook told (ToldOf asked told disks_now text))
      (λ stop. StoreUnopened disks disks_now stop
      ⊎ StoreUntold (command_limit asked) disks disks_now stop)
  pub counts : DisksAccount disks disks_now ran

-- ---- the command

-- the text was told, and then put, or the sink failed and took a front of it
pub record TextTold (asked : AdminCommand) (out out_now : SinkAt) (disks disks_now : DisksAt)
    (ran : Result (Unit {0}) Stop) : Type 0 where
  pub text : List ℕ
  pub store : TextAsked asked disks disks_now (Ok text)
  pub put : TextEnds out out_now text ran

-- it was not told, and nothing put
pub record TextUntold (asked : AdminCommand) (out out_now : SinkAt) (disks disks_now : DisksAt)
    (ran : Result (Unit {0}) Stop) : Type 0 where
  pub stop : Stop
  pub told : ran ≡ Err stop
  pub store : TextAsked asked disks disks_now (Err stop)
  pub unsaid : out_now ≡ out

-- the command ran, up to its last line
abbrev pub AdminRan : AdminCommand → SinkAt → SinkAt → DisksAt → DisksAt → Result (Unit {0}) Stop
    → Type 0
AdminRan asked out out_now disks disks_now ran =
    TextTold asked out out_now disks disks_now ran
    ⊎ TextUntold asked out out_now disks disks_now ran
