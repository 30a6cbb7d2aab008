-- Which limit stopped the work on a store, by the book that the contents of six disks read as.
use Rattle.std.specs.Prelude.{◌≡◌, Bool, List}
use Rattle.std.specs.Option.{option_map}
use Rattle.std.specs.declared.option.Option.{Option}
use Rattle.fm_answers.specs.Recording.{store_with}
use Rattle.fm_core.specs.Book.{ModuleState}
use Rattle.fm_drain.specs.DrainLimits.{DrainIsFull}
use Rattle.fm_entry.specs.declared.entry.Entry.{Entry}
use Rattle.fm_journal.specs.declared.fault.FullKind.{FullKind}
use Rattle.fm_logs.specs.Contents.{Contents}
use Rattle.fm_logs.specs.ReadsAsBook.{IsLog, SaysBook, SpellsSpoken}
use Rattle.fm_logs.specs.StoreBook.{StoreBook}
use Rattle.fm_logs.specs.declared.fault.StoreFault.{StoreFault}
use Rattle.fm_logs.specs.declared.fault.StoreFault.TheVariants.{Full}
use Rattle.fm_drain.specs.BaseLimits.{BaseIsFull, Figures}
use Rattle.fm_slots.specs.Format.{SlotOf}
use Rattle.fm_slots.specs.InForce.{InForce}
use Rattle.fm_store.specs.StoreOf.{newest_sequence}
use Rattle.fm_top.specs.Headline.{HoldsOfBook}
use Rattle.fm_top.specs.Kept.{BookAt}
use Rattle.fm_top.specs.Outside.{DisksAt, Tells}

-- What limits depend on beside the book that contents read as: the slot in force has the sequence,
-- it names the active error journal, and the fault log has the first number.
pub record HasFigures (told : Contents) (fresh : List ModuleState) (k : StoreBook) (f : Figures)
    : Type 0 where
  pub says : SaysBook fresh told f.second k
  pub found : Option (Bool × SlotOf)
  pub in_force : InForce told.slot_a told.slot_b found
  pub sequence_is : f.sequence ≡ newest_sequence (option_map (λ s. (s.0, s.1.sequence)) found)
  pub records : IsLog SpellsSpoken told.flt f.flt_first k.book.records

-- what a limit is, of a book that contents read as and these figures
abbrev pub WorkLimit : Type 1
WorkLimit = (told : Contents) → BookAt told → Figures → FullKind → Type 0

-- it is reached
pub record AtLimit (told : Contents) (limit : WorkLimit) (kind : FullKind) (stood : BookAt told)
    : Type 0 where
  pub figures : Figures
  pub are : HasFigures told stood.fresh stood.book figures
  pub reached : limit told stood figures kind

-- it is, of each book that the contents from before read as
abbrev pub ReachesWorkLimit : WorkLimit → DisksAt → FullKind → Type 0
ReachesWorkLimit limit disks kind =
    (told : Contents) → Tells disks told → HoldsOfBook told (AtLimit told limit kind)

-- a limit that a drain of a book reaches
abbrev pub DrainLimit : Figures → StoreBook → StoreFault → Type 0
DrainLimit f k (Full kind) = DrainIsFull f.flt_first k.book kind
DrainLimit _ _ _ = Unit {0}

-- WHICH LIMITS A DRAIN MAY REACH, and a drain of the book with entries that have come, with the
-- checkpoint that follows it
abbrev pub draining_limit : WorkLimit
draining_limit told stood f kind = DrainLimit f stood.book (Full kind)

abbrev pub concluding_limit : List Entry → WorkLimit
concluding_limit entries told stood f kind = BaseIsFull f (store_with stood.book entries) kind
