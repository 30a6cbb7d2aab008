-- What a crash may leave of a journal that is written.
use Rattle.std.specs.Prelude.{◌≡◌, ◌⊎◌, ℕ, List, [], ◌∷◌, ◌++◌, length, take, Result, Ok, Err}
use Rattle.fm_outer.specs.Moments.{IsSettled, LeavesOnly}
use Rattle.fm_outer.specs.declared.disk.Disk.{Ghosts}
use Rattle.fm_journal.specs.Format.{IsJournal}
use Rattle.fm_journal.specs.JournalOf.{JournalOf}
use Rattle.fm_journal.specs.declared.fault.JournalFault.TheVariants.{Damaged}
use Rattle.fm_journal.specs.declared.fault.Refused.{Refused}

-- the bytes are a journal of these payloads, or of these with one more
abbrev pub IsOldOrNew : ℕ → List (List ℕ) → List ℕ → List ℕ → Type 0
IsOldOrNew first payloads payload bytes =
    IsJournal bytes first payloads ⊎ IsJournal bytes first (payloads ++ payload ∷ [])

-- they are no journal, or one without payloads, whatever its first number
abbrev pub IsEmptyOrNone : List ℕ → Type 0
IsEmptyOrNone bytes =
    (first : ℕ) (payloads : List (List ℕ)) → IsJournal bytes first payloads → payloads ≡ []

-- they are the front of one of these images
abbrev pub IsFrontOf : (List ℕ → Type 0) → List ℕ → Type 0
IsFrontOf images bytes = (whole : List ℕ) × images whole × (take (length bytes) whole ≡ bytes)

-- what a crash within the making of a journal may leave: the front of an image from before, or no
-- journal with a payload
abbrev pub IsFrontOrEmpty : (List ℕ → Type 0) → List ℕ → Type 0
IsFrontOrEmpty images bytes = IsFrontOf images bytes ⊎ IsEmptyOrNone bytes

-- The two parts of making a journal. Up to the first sync each image is the front of one from
-- before, and after it each is no journal or one without payloads. `synced` is the disk between the
-- two.
pub record StartsOver {D : Type 0} (g : Ghosts D) (old new : D) : Type 0 where
  pub synced : D
  pub before : LeavesOnly g old synced (IsFrontOf (g.images old))
  pub after : LeavesOnly g synced new IsEmptyOrNone

-- the making ended in its first part, or in its second
abbrev pub StartsOrStops : {D : Type 0} → Ghosts D → D → D → Type 0
StartsOrStops g old new =
    LeavesOnly g old new (IsFrontOf (g.images old)) ⊎ StartsOver g old new

-- a making that was done went through both parts, and one that failed ended in one of them
abbrev pub HasTwoPhases : {D : Type 0} → Ghosts D → D → Result (JournalOf D) (Refused D) → Type 0
HasTwoPhases g old (Ok journal) = StartsOver g old journal.disk
HasTwoPhases g old (Err refused) = StartsOrStops g old refused.disk

-- the disk that comes back from a call that makes or opens a journal
abbrev pub disk_back : {D : Type 0} → Result (JournalOf D) (Refused D) → D
disk_back (Ok journal) = journal.disk
disk_back (Err refused) = refused.disk

-- all of the disk that comes back is synced, of a journal and of bytes that are none
abbrev pub IsBackSettled : {D : Type 0} → Ghosts D → Result (JournalOf D) (Refused D) → Type 0
IsBackSettled g (Ok journal) = IsSettled g journal.disk
IsBackSettled g (Err refused) =
    (place : ℕ) → refused.fault ≡ Damaged place → IsSettled g refused.disk
