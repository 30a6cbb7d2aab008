-- The limits that a command may reach, by what stands outside before it: by the input, by the
-- sources, and by the book that the contents of the disks read as.
use Rattle.std.specs.Prelude.{◌≡◌, ◌⊎◌, ℕ, ◌<◌, ◌^◌, List, ◌∷◌, ◌++◌, length, IfSome, Ok}
use Rattle.fm_answers.specs.Answers.{entries_of}
use Rattle.fm_answers.specs.StreamsAt.{SourceAt}
use Rattle.fm_command.specs.declared.words.Command.{Command}
use Rattle.fm_command.specs.declared.words.Command.TheVariants.{Accept, Fmd, Replay, Init, Esc}
use Rattle.fm_command.specs.declared.words.Command.TheVariants.{EscInput, Admin, Repair, Explain}
use Rattle.fm_command.specs.declared.words.Command.TheVariants.{Generate, GeneratedLines}
use Rattle.fm_entry.specs.declared.entry.Entry.{Entry}
use Rattle.fm_journal.specs.declared.fault.FullKind.{FullKind}
use Rattle.fm_journal.specs.declared.fault.FullKind.TheVariants.{Input, Payload}
use Rattle.fm_line.specs.Lines.{lines_of}
use Rattle.fm_logs.specs.Contents.{Contents}
use Rattle.fm_saved.specs.Confs.{conf_bytes}
use Rattle.fm_sources.specs.Sources.{Given, ReadsSources}
use Rattle.fm_sources.specs.declared.sources.Sources.{Sources}
use Rattle.fm_top.specs.Accepting.{ReachesLimit}
use Rattle.fm_top.specs.Admin.{command_limit}
use Rattle.fm_top.specs.GenerateStart.{AreGeneratedAt}
use Rattle.fm_top.specs.Headline.{HoldsOfBook}
use Rattle.fm_top.specs.Init.{conf_with}
use Rattle.fm_top.specs.Kept.{BookAt}
use Rattle.fm_top.specs.Limits.{ReachesWorkLimit, WorkLimit, concluding_limit, draining_limit}
use Rattle.fm_top.specs.Outside.{DisksAt, Outside, Tells, given_of, standing}
use Rattle.fm_top.specs.Repair.{repair_limit}

-- the input has more bytes than are taken
abbrev pub IsOverlong : List ℕ → FullKind → Type 0
IsOverlong bytes Input = 2 ^ 40 < length bytes
IsOverlong bytes _ = ⊥

-- One of these entries would pass this limit of the active error journal, once those before it are
-- there.
pub record OnePasses (told : Contents) (entries : List Entry) (kind : FullKind)
    (stood : BookAt told) : Type 0 where
  pub front : List Entry
  pub entry : Entry
  pub more : List Entry
  pub entries_are : entries ≡ front ++ entry ∷ more
  pub reached : ReachesLimit told stood.fresh stood.book front entry kind

-- it would, of each book that the contents from before read as
abbrev pub EntriesPass : List Entry → DisksAt → FullKind → Type 0
EntriesPass entries disks kind =
    (told : Contents) → Tells disks told → HoldsOfBook told (OnePasses told entries kind)

-- the entries of these lines of the input would, or there are too many bytes
abbrev pub InputPasses : List ℕ → DisksAt → FullKind → Type 0
InputPasses bytes disks kind =
    IsOverlong bytes kind ⊎ EntriesPass (entries_of (lines_of bytes)) disks kind

-- and then a drain of the book with them, or the checkpoint that follows it
abbrev pub ConcludingPasses : List ℕ → DisksAt → FullKind → Type 0
ConcludingPasses bytes disks kind =
    InputPasses bytes disks kind
    ⊎ ReachesWorkLimit (concluding_limit (entries_of (lines_of bytes))) disks kind

-- what a number generates of the book would
abbrev pub GeneratedPasses : ℕ → DisksAt → FullKind → Type 0
GeneratedPasses number disks kind = (told : Contents) → Tells disks told
    → HoldsOfBook told (λ stood. (entries : List Entry) × AreGeneratedAt number stood entries
    × OnePasses told entries kind stood)

-- and then a drain of the book with it, or the checkpoint that follows it
abbrev pub generating_limit : ℕ → WorkLimit
generating_limit number told stood f kind =
    (entries : List Entry) × AreGeneratedAt number stood entries
    × concluding_limit entries told stood f kind

-- the configuration of what is read of the sources has more bytes than a payload
abbrev pub ConfPasses : List ℕ → Given SourceAt → Given SourceAt → FullKind → Type 0
ConfPasses namespace old new Payload =
    (got : Sources) × ReadsSources standing old new (Ok got)
    × (2 ^ 28 < length (conf_bytes (conf_with namespace got)))
ConfPasses namespace old new _ = ⊥

-- of an input that tells its bytes; of one that tells none nothing is known, and any may be reached
abbrev pub OfInput : SourceAt → (List ℕ → Type 0) → Type 0
OfInput input IsSo = IfSome input.left IsSo

-- WHICH LIMITS EACH COMMAND MAY REACH, one line a command: `read` is what its sources are behind it
abbrev pub MayReach : Command → Outside → Given SourceAt → FullKind → Type 0
MayReach Accept before read kind =
    OfInput before.input (λ bytes. InputPasses bytes before.disks kind)
MayReach Fmd before read kind =
    OfInput before.input (λ bytes. ConcludingPasses bytes before.disks kind)
MayReach Replay before read kind = OfInput before.input (λ bytes. IsOverlong bytes kind)
MayReach (Init namespace) before read kind = ConfPasses namespace (given_of before) read kind
MayReach (Esc form) before read kind = ⊥
MayReach EscInput before read kind = OfInput before.input (λ bytes. IsOverlong bytes kind)
MayReach (Admin asked) before read kind = ReachesWorkLimit (command_limit asked) before.disks kind
MayReach (Repair asked) before read kind = ReachesWorkLimit (repair_limit asked) before.disks kind
MayReach (Explain uuid) before read kind = ReachesWorkLimit draining_limit before.disks kind
MayReach (Generate number) before read kind =
    GeneratedPasses number before.disks kind
    ⊎ ReachesWorkLimit (generating_limit number) before.disks kind
MayReach (GeneratedLines number) before read kind = ⊥
