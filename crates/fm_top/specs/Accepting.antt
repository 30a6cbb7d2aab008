-- What `accept` does: to the input, to the sink and to the six disks.
use Rattle.std.specs.Prelude.{◌≡◌, ◌⊎◌, ℕ, List, ◌∷◌, [], ◌++◌, Bool, true, length, Some}
use Rattle.std.specs.Prelude.{Result, Ok, Err, MatchResult}
use Rattle.std.specs.declared.option.Option.{Option}
use Rattle.std.specs.Io.KnownBytes.{Appends, Consumes, IsAtEnd}
use Rattle.fm_answers.specs.Accounts.{Accounts}
use Rattle.fm_answers.specs.StreamsAt.{SourceAt, SinkAt}
use Rattle.fm_answers.specs.Running.{Taken, RanAll, RanUntil}
use Rattle.fm_answers.specs.declared.stops.Stop.{Stop}
use Rattle.fm_answers.specs.declared.stops.Stop.TheVariants.{Read, Write, Disk, Damaged, Memory}
use Rattle.fm_answers.specs.declared.stops.Stop.TheVariants.{Full}
use Rattle.fm_answers.specs.Recording.{payloads_of, FullCause}
use Rattle.fm_core.specs.Book.{ModuleState, next_number}
use Rattle.fm_entry.specs.declared.entry.Entry.{Entry}
use Rattle.fm_journal.specs.Format.{end_of}
use Rattle.fm_journal.specs.declared.fault.FullKind.{FullKind}
use Rattle.fm_logs.specs.Contents.{Contents, active_of_two}
use Rattle.fm_logs.specs.ReadsAsBook.{IsLog, SpellsEntry, SaysBook}
use Rattle.fm_logs.specs.StoreBook.{StoreBook}
use Rattle.fm_top.specs.Exact.{ReadsExact, ReadsExactEither}
use Rattle.fm_top.specs.Init.{AreUnwritten}
use Rattle.fm_top.specs.Kept.{BookAt, FirstDamage}
use Rattle.fm_top.specs.Outside.{DisksAt, Tells, Leaves, disk_counts, RoseAt}

-- What an image reads like, once these entries are acknowledged: where a disk failed at one more,
-- it has that one or not.
abbrev pub ImageReads : {told : Contents} → BookAt told → List Entry → Option (Stop × Entry)
    → Contents → Type 0
ImageReads stood entries (Some (Disk, entry)) image =
    ReadsExactEither stood entries (entries ++ entry ∷ []) image
ImageReads stood entries _ image = ReadsExact stood entries image

-- One entry more would pass this limit of the active error journal, once that has these entries.
pub record ReachesLimit (c : Contents) (fresh : List ModuleState) (k : StoreBook)
    (entries : List Entry) (entry : Entry) (kind : FullKind) : Type 0 where
  pub second : Bool
  pub says : SaysBook fresh c second k
  pub first : ℕ
  pub logged : List Entry
  pub active : IsLog SpellsEntry (active_of_two second c) first logged
  pub reached : FullCause first (length (logged ++ entries))
      (end_of (payloads_of (logged ++ entries))) entry kind

-- which limit is reached, where one is
abbrev pub LimitIs : Contents → List ModuleState → StoreBook → List Entry
    → Option (Stop × Entry) → Type 0
LimitIs c fresh k entries (Some (Full kind, entry)) = ReachesLimit c fresh k entries entry kind
LimitIs c fresh k entries _ = Unit {0}

-- The contents from before read as a book of which the next number is `next`; and whatever a crash
-- now leaves reads like that book with these entries, which has exact suspects.
pub record GrewFrom (told : Contents) (after : DisksAt) (next : ℕ) (entries : List Entry)
    (last : Option (Stop × Entry)) : Type 0 where
  pub stood : BookAt told
  pub numbered : next ≡ next_number stood.book.book
  pub left : (image : Contents) → Leaves after image
      → ImageReads stood entries last image
  pub limit : LimitIs told stood.fresh stood.book entries last

-- the same, where the disks told their contents before
abbrev pub Grew : DisksAt → DisksAt → ℕ → Taken
Grew before after next entries last =
    (told : Contents) → Tells before told → GrewFrom told after next entries last

-- why the store was not opened
abbrev pub OpeningStops : DisksAt → Stop → Type 0
OpeningStops disks Disk = Unit {0}
OpeningStops disks Memory = Unit {0}
OpeningStops disks (Damaged disk place) =
    (told : Contents) → Tells disks told → FirstDamage told disk place
OpeningStops disks _ = ⊥

-- The store was not opened: nothing was read and nothing put, and the disks were read at most.
pub record NotOpened (input input_now : SourceAt) (out out_now : SinkAt) (disks disks_now : DisksAt)
    (stop : Stop) : Type 0 where
  pub consumed : input_now ≡ input
  pub put : out_now ≡ out
  pub untouched : AreUnwritten disks disks_now
  pub why : OpeningStops disks stop

-- The store was opened, and the input read to its end.
pub record AcceptedAll (input input_now : SourceAt) (out out_now : SinkAt)
    (disks disks_now : DisksAt) : Type 0 where
  pub next : ℕ
  pub ran : RanAll (Grew disks disks_now next) (Appends out.bytes out_now.bytes) true next
      (Consumes input.left input_now.left) (IsAtEnd input_now.left)

-- The store was opened, and the run over the input stopped.
pub record AcceptedUntil (input input_now : SourceAt) (out out_now : SinkAt)
    (disks disks_now : DisksAt) (stop : Stop) : Type 0 where
  pub next : ℕ
  pub ran : RanUntil (Grew disks disks_now next) (Appends out.bytes out_now.bytes) true next
      (Consumes input.left input_now.left) (IsAtEnd input_now.left) stop

-- how the counts of the disks go with the end of a command: one that is done leaves them, and a
-- fault of a disk comes only where one rose
abbrev pub DisksAccount : {T : Type 0} → DisksAt → DisksAt → Result T Stop → Type 0
DisksAccount before after (Ok done) = disk_counts after ≡ disk_counts before
DisksAccount before after (Err Disk) =
    (at : ℕ) × RoseAt (disk_counts before) (disk_counts after) at
DisksAccount before after (Err _) = Unit {0}

-- `accept` ran, from the input to the disks and to the sink
pub record AcceptRan (input input_now : SourceAt) (out out_now : SinkAt)
    (disks disks_now : DisksAt) (ran : Result (Unit {0}) Stop) : Type 0 where
  pub went : MatchResult ran (λ _. AcceptedAll input input_now out out_now disks disks_now)
      (λ stop. NotOpened input input_now out out_now disks disks_now stop
      ⊎ AcceptedUntil input input_now out out_now disks disks_now stop)
  pub counts_input : Accounts Read input.failures input_now.failures ran
  pub counts_out : Accounts Write out.failures out_now.failures ran
  pub counts_disks : DisksAccount disks disks_now ran
