-- The headline at the top call: what a crash leaves of a store, whatever a call ends with.
use Rattle.std.specs.Prelude.{◌≡◌, ◌⊎◌, ℕ, ◌+◌, ◌≤◌, List, [], ◌∷◌, ◌++◌, true, length, take}
use Rattle.std.specs.Prelude.{Result}
use Rattle.std.specs.Prelude.{MatchResult}
use Rattle.std.specs.Prelude.{OnOk, Ok, Err}
use Rattle.std.specs.Io.KnownBytes.{Appends, Consumes, IsAtEnd}
use Rattle.fm_answers.specs.Answers.{answers, entries_of}
use Rattle.fm_answers.specs.Running.{Line, AreRead}
use Rattle.fm_answers.specs.declared.stops.Stop.{Stop}
use Rattle.fm_answers.specs.declared.stops.Stop.TheVariants.{Act, NotFaulty}
use Rattle.fm_command.specs.RepairAsked.{RepairAsked}
use Rattle.fm_command.specs.declared.words.Command.{Command}
use Rattle.fm_command.specs.declared.words.Command.TheVariants.{Accept, Fmd, Init, Admin, Repair}
use Rattle.fm_command.specs.declared.words.Command.TheVariants.{Explain, Generate, GeneratedLines}
use Rattle.fm_core.specs.Book.{next_number}
use Rattle.fm_entry.specs.declared.entry.Entry.{Entry}
use Rattle.fm_line.specs.Lines.{lines_of}
use Rattle.fm_logs.specs.Contents.{Contents}
use Rattle.fm_store.specs.StoreLeft.{ReadsLike}
use Rattle.fm_top.specs.Exact.{IsExactWith, ReadsExact, ReadsExactEither}
use Rattle.fm_top.specs.GenerateStart.{AreGeneratedAt}
use Rattle.fm_top.specs.Kept.{BookAt}
use Rattle.fm_top.specs.Outside.{Outside, DisksAt, Tells, Leaves}
use Rattle.fm_top.specs.RepairEntry.{HasRepair}

-- Of these lines all but the last one at most were answered whole, and what was put is a front of
-- their answers: so whoever was told `ok` has the entry among theirs. `next` is the number of the
-- first entry.
pub record WereAnswered (puts : List ℕ → Type 0) (next : ℕ) (lines : List Line) : Type 0 where
  pub whole : List Line
  pub last : List Line
  pub lines_are : lines ≡ whole ++ last
  pub one_at_most : length last ≤ 1
  pub count : ℕ
  pub past : length (answers true 1 next whole) ≤ count
  pub put : puts (take count (answers true 1 next lines))

-- The contents read as a book that drains to what the book from before comes to with the entries of
-- the first lines of the input: of those that were answered, and of one more at most. The book with
-- these entries has exact suspects.
pub record HasAnswered (before after : Outside) (told : Contents) (stood : BookAt told)
    (image : Contents) : Type 0 where
  pub read : List ℕ
  pub consumed : Consumes before.input.left after.input.left read
  pub lines : List Line
  pub others : List Line
  pub first : AreRead read (IsAtEnd after.input.left) (lines ++ others)
  pub answered : WereAnswered (Appends before.out.bytes after.out.bytes)
      (next_number stood.book.book) lines
  pub reads : ReadsExact stood (entries_of lines) image

-- The same with the entries of all lines, each of which was answered.
pub record HasAll (before after : Outside) (told : Contents) (stood : BookAt told)
    (image : Contents) : Type 0 where
  pub read : List ℕ
  pub consumed : Consumes before.input.left after.input.left read
  pub at_end : IsAtEnd after.input.left
  pub put : Appends before.out.bytes after.out.bytes
      (answers true 1 (next_number stood.book.book) (lines_of read))
  pub reads : ReadsExact stood (entries_of (lines_of read)) image

-- The same with the entries of all lines, whatever was put behind their answers.
pub record HasEach (before after : Outside) (told : Contents) (stood : BookAt told)
    (image : Contents) : Type 0 where
  pub read : List ℕ
  pub consumed : Consumes before.input.left after.input.left read
  pub at_end : IsAtEnd after.input.left
  pub reads : ReadsExact stood (entries_of (lines_of read)) image

-- The contents read as a book, and this is so of each book that they read as: they read as one.
pub record HoldsOfBook (told : Contents) (IsSo : BookAt told → Type 0) : Type 0 where
  pub stood : BookAt told
  pub each : (book : BookAt told) → IsSo book

-- Each image that a crash now leaves has the book that the contents read as with the entries that
-- were acknowledged, and perhaps one in flight; where all is done, with all.
pub record Held (before after : Outside) (told : Contents) (ran : Result (Unit {0}) Stop)
    (stood : BookAt told) : Type 0 where
  pub left : (image : Contents) → Leaves after.disks image
      → MatchResult ran (λ _. HasAll before after told stood image)
      (λ _. HasAnswered before after told stood image)

-- of a command that goes on behind the last line: where all is done, or an actuator failed at the
-- end, with the entries of all lines
abbrev pub HasAfter : (before after : Outside) (told : Contents) → BookAt told → Contents
    → Result (Unit {0}) Stop → Type 0
HasAfter before after told stood image (Ok done) = HasEach before after told stood image
HasAfter before after told stood image (Err (Act index)) = HasEach before after told stood image
HasAfter before after told stood image (Err _) =
    HasAnswered before after told stood image ⊎ HasEach before after told stood image

-- each image that a crash now leaves is so
pub record HeldAfter (before after : Outside) (told : Contents) (ran : Result (Unit {0}) Stop)
    (stood : BookAt told) : Type 0 where
  pub left : (image : Contents) → Leaves after.disks image
      → HasAfter before after told stood image ran

-- each image is one from before
abbrev pub AreFromBefore : DisksAt → DisksAt → Type 0
AreFromBefore before after = (image : Contents) → Leaves after image → Leaves before image

-- The opening ended before it had synced each disk that it reads: nothing was read of the input,
-- nothing put, and each image is one from before.
pub record Unopened (before after : Outside) (ran : Result (Unit {0}) Stop) : Type 0 where
  pub refused : OnOk ran ⊥
  pub unread : after.input ≡ before.input
  pub unsaid : after.out ≡ before.out
  pub left : AreFromBefore before.disks after.disks

-- each image that a crash now may leave reads like the book, which has exact suspects
pub record LikeBook (told : Contents) (after : DisksAt) (stood : BookAt told) : Type 0 where
  pub left : (image : Contents) → Leaves after image → ReadsLike stood.fresh stood.book image
  pub exact : IsExactWith stood []

-- The image reads like the book with the entry of a repair, which has exact suspects.
pub record HasRepairExact (asked : RepairAsked) {told : Contents} (stood : BookAt told)
    (image : Contents) : Type 0 where
  pub has : HasRepair asked stood image
  pub exact : IsExactWith stood (has.entry ∷ [])

-- Of a repair: where its entry was accepted and told, or an actuator failed at the end, with that
-- entry; where nothing would be marked, like the book; else like the book, where nothing was put,
-- or with the entry.
abbrev pub HasRepaired : (before after : Outside) (asked : RepairAsked) (told : Contents)
    → BookAt told → Contents → Result (Unit {0}) Stop → Type 0
HasRepaired before after asked told stood image (Ok done) = HasRepairExact asked stood image
HasRepaired before after asked told stood image (Err (Act index)) =
    HasRepairExact asked stood image
HasRepaired before after asked told stood image (Err NotFaulty) =
    ReadsLike stood.fresh stood.book image
HasRepaired before after asked told stood image (Err _) =
    ((after.out ≡ before.out) × ReadsLike stood.fresh stood.book image)
    ⊎ HasRepairExact asked stood image

-- each image that a crash now leaves is so, and the book itself has exact suspects
pub record HeldRepair (before after : Outside) (asked : RepairAsked) (told : Contents)
    (ran : Result (Unit {0}) Stop) (stood : BookAt told) : Type 0 where
  pub left : (image : Contents) → Leaves after.disks image
      → HasRepaired before after asked told stood image ran
  pub exact : IsExactWith stood []

-- each image has all that a number generates
pub record HasGenerated (number : ℕ) (told : Contents) (after : DisksAt) (stood : BookAt told)
    : Type 0 where
  pub entries : List Entry
  pub are : AreGeneratedAt number stood entries
  pub left : (image : Contents) → Leaves after image
      → ReadsExact stood entries image

-- each image has the first of it: so many, or one more
pub record HasFirst (number : ℕ) (told : Contents) (after : DisksAt) (stood : BookAt told)
    : Type 0 where
  pub entries : List Entry
  pub are : AreGeneratedAt number stood entries
  pub count : ℕ
  pub left : (image : Contents) → Leaves after image
      → ReadsExactEither stood (take count entries) (take (count + 1) entries) image

-- Of a run on generated entries: where all is done, or an actuator failed at the end, with all of
-- them; else like the book, or with the first of them.
abbrev pub HeldGenerated : ℕ → (told : Contents) → DisksAt → Result (Unit {0}) Stop → BookAt told
    → Type 0
HeldGenerated number told after (Ok done) stood = HasGenerated number told after stood
HeldGenerated number told after (Err (Act index)) stood = HasGenerated number told after stood
HeldGenerated number told after (Err _) stood =
    LikeBook told after stood ⊎ HasFirst number told after stood

-- THE HEADLINE, one line a command
abbrev pub Headline : Command → Outside → Outside → Result (Unit {0}) Stop → Type 0
Headline Accept before after ran =
    Unopened before after ran
    ⊎ ((told : Contents) → Tells before.disks told
    → HoldsOfBook told (Held before after told ran))
Headline Fmd before after ran =
    Unopened before after ran
    ⊎ ((told : Contents) → Tells before.disks told
    → HoldsOfBook told (HeldAfter before after told ran))
Headline (Admin asked) before after ran =
    Unopened before after ran
    ⊎ ((told : Contents) → Tells before.disks told → HoldsOfBook told (LikeBook told after.disks))
Headline (Repair asked) before after ran =
    Unopened before after ran
    ⊎ ((told : Contents) → Tells before.disks told
    → HoldsOfBook told (HeldRepair before after asked told ran))
Headline (Generate number) before after ran =
    Unopened before after ran
    ⊎ ((told : Contents) → Tells before.disks told
    → HoldsOfBook told (HeldGenerated number told after.disks ran))
Headline (Explain uuid) before after ran =
    Unopened before after ran
    ⊎ ((told : Contents) → Tells before.disks told → HoldsOfBook told (LikeBook told after.disks))
Headline (GeneratedLines number) before after ran =
    Unopened before after ran
    ⊎ ((told : Contents) → Tells before.disks told → HoldsOfBook told (LikeBook told after.disks))
Headline (Init namespace) before after ran =
    (told : Contents) → Tells before.disks told → BookAt told
    → AreFromBefore before.disks after.disks
Headline _ before after ran = AreFromBefore before.disks after.disks
