-- A run over the input that stopped at a limit: it has too many bytes, or an entry of its lines
-- passes a limit of the error journal.
use Rattle.std.proofs.Common.{◌≡◌, inl, inr, ℕ, ◌+◌, ◌≤◌, ◌^◌, List, [], ◌∷◌, ◌++◌, Bool}
use Rattle.std.proofs.Common.{true, false, cond, length, Option, Some, None, Result, Ok, Err}
use Rattle.std.proofs.Common.{IfSome, sym, ◌∙◌, ap, subst, arith, append_assoc, append-nil}
use Rattle.std.proofs.Common.{length-append}
use Rattle.std.proofs.lemmas.List.{length-map}
use Rattle.std.proofs.lemmas.List.Splits.{length-slice_split}
use Rattle.std.proofs.lemmas.List.Sums.{count_by-le-length}
use Rattle.std.specs.Io.KnownBytes.{Consumes, IsAtEnd}
use Rattle.std.specs.List.{slice_split}
use Rattle.fm_answers.specs.Answers.{answers, entries_at, entries_in, entries_of}
use Rattle.fm_answers.specs.Ended.{ended}
use Rattle.fm_answers.specs.Replaying.{ReplayTaken}
use Rattle.fm_answers.specs.Running.{AreRead, Line, RanToLine, RanUntil, StopsAt, StopsBetween}
use Rattle.fm_answers.specs.declared.stops.Stop.TheVariants.{Full}
use Rattle.fm_answers.proofs.AnswerLists.{entries_append, entries_one}
use Rattle.fm_core.specs.Book.{ModuleState}
use Rattle.fm_entry.specs.declared.entry.Entry.{Entry}
use Rattle.fm_journal.specs.declared.fault.FullKind.{FullKind}
use Rattle.fm_journal.specs.declared.fault.FullKind.TheVariants.{Input, Numbers}
use Rattle.fm_line.specs.Lines.{is_newline, kept_line, lines_of, lines_of_parts}
use Rattle.fm_line.specs.Outcomes.{line_outcome}
use Rattle.fm_line.specs.declared.fault.LineFault.{LineFault}
use Rattle.fm_logs.specs.Contents.{Contents}
use Rattle.fm_logs.specs.StoreBook.{StoreBook}
use Rattle.fm_top.specs.Accepting.{Grew, ReachesLimit}
use Rattle.fm_top.specs.Kept.{BookAt}
use Rattle.fm_top.specs.Outside.{DisksAt, Tells}
use Rattle.fm_top.proofs.BookHeld.{same_book}
use Rattle.fm_top_laws.specs.Limits.{EntriesPass, InputPasses, IsOverlong, OnePasses}
use Rattle.fm_top_laws.proofs.Fronts.{ended_first}

-- ---- how many entries lines have, and how many lines bytes

entry_few : (o : Option (Result Entry LineFault)) → length (entries_at o) ≤ 1
entry_few None = omega arith
entry_few (Some (Ok entry)) = omega arith
entry_few (Some (Err fault)) = omega arith

line_few : (line : Line) → length (entries_in line) ≤ 1
unfolding entries_in
line_few line = entry_few (line_outcome line)

entries_few : (lines : List Line) → length (entries_of lines) ≤ length lines
unfolding entries_of
entries_few [] = omega arith
entries_few (line ∷ lines) =
    omega (
      arith,
      length-append (entries_in line) (entries_of lines),
      line_few line,
      entries_few lines,
    )

last_few : (t : Bool) (x : List ℕ) → length (cond t [] (x ∷ [])) ≤ 1
last_few true x = omega arith
last_few false x = omega arith

parts_few : (parts : List (List ℕ)) → length (lines_of_parts parts) ≤ length parts
parts_few [] = omega arith
parts_few (x ∷ []) = last_few _ x
parts_few (x ∷ y ∷ more) = let few = parts_few (y ∷ more) in omega arith

lines_few : (bytes : List ℕ) → length (lines_of bytes) ≤ length bytes + 1
unfolding lines_of
lines_few bytes =
    omega (
      arith,
      length-map (lines_of_parts (slice_split is_newline bytes)) kept_line,
      parts_few (slice_split is_newline bytes),
      length-slice_split is_newline bytes,
      count_by-le-length is_newline bytes,
    )

read_few : (read : List ℕ) (at_end : Type 0) (lines : List Line) → AreRead read at_end lines
    → length lines ≤ length read + 1
read_few read at_end lines (inl (front, back, parts, near, are)) =
    let first = ended_first front back in
    omega (
      arith,
      lines_few (front ++ back),
      ap (λ (l : List ℕ). length l) parts,
      ap (λ (ls : List Line). length ls) first.1,
      length-append (ended front) first.0,
      ap (λ (ls : List Line). length ls) are,
    )
read_few read at_end lines (inr (end, are)) =
    omega (arith, lines_few read, ap (λ (ls : List Line). length ls) are)

-- ---- an entry among those of all lines

entries_split : (all lines others : List Line) (line : Line) (entry : Entry)
    → all ≡ (lines ++ line ∷ []) ++ others → entries_in line ≡ entry ∷ []
    → entries_of all ≡ entries_of lines ++ entry ∷ entries_of others
entries_split all lines others line entry are one =
    ap entries_of are ∙ entries_append (lines ++ line ∷ []) others
    ∙ ap (λ (es : List Entry). es ++ entries_of others)
    (entries_append lines (line ∷ [])
    ∙ ap (λ (es : List Entry). entries_of lines ++ es) (entries_one line ∙ one))
    ∙ append_assoc (entries_of lines) (entry ∷ []) (entries_of others)

first_entries : (bytes read rest : List ℕ) (lines : List Line) (line : Line) (entry : Entry)
    → bytes ≡ read ++ rest → AreRead read (IsAtEnd (Some rest)) (lines ++ line ∷ [])
    → entries_in line ≡ entry ∷ []
    → (more : List Entry) × (entries_of (lines_of bytes) ≡ entries_of lines ++ entry ∷ more)
first_entries bytes read rest lines line entry whole (inl (front, back, parts, near, are)) one =
    let first = ended_first front (back ++ rest) in
    let bytes_are : bytes ≡ front ++ (back ++ rest) =
    whole ∙ ap (λ (l : List ℕ). l ++ rest) parts ∙ append_assoc front back rest in
    let lines_are : lines_of bytes ≡ (lines ++ line ∷ []) ++ first.0 =
    ap lines_of bytes_are ∙ first.1 ∙ ap (λ (ls : List Line). ls ++ first.0) are in (
      entries_of first.0,
      entries_split (lines_of bytes) lines first.0 line entry lines_are one,
    )
first_entries bytes read rest lines line entry whole (inr (end, are)) one =
    let bytes_are : bytes ≡ read =
    whole ∙ ap (λ (l : List ℕ). read ++ l) end ∙ append-nil read in
    let lines_are : lines_of bytes ≡ (lines ++ line ∷ []) ++ [] =
    ap lines_of bytes_are ∙ are ∙ sym (append-nil (lines ++ line ∷ [])) in
    (entries_of [], entries_split (lines_of bytes) lines [] line entry lines_are one)

-- ---- a limit of the error journal

-- contents read as one book, so a limit of one is that of each
pub reaches_each : (told : Contents) (one other : BookAt told) (entries : List Entry)
    (entry : Entry) (kind : FullKind) → ReachesLimit told one.fresh one.book entries entry kind
    → ReachesLimit told other.fresh other.book entries entry kind
reaches_each told one other entries entry kind reached =
    subst (λ (ms : List ModuleState). ReachesLimit told ms other.book entries entry kind)
    (same_book told one other).0
    (subst (λ (k : StoreBook). ReachesLimit told one.fresh k entries entry kind)
    (same_book told one other).1 reached)

module _ (disks disks_now : DisksAt) (next : ℕ) where
  -- entries were taken, and the next of these passes the limit
  pub one_passes : (told : Contents) (entries front more : List Entry) (entry : Entry)
      (kind : FullKind) → entries ≡ front ++ entry ∷ more → Tells disks told
      → Grew disks disks_now next front (Some (Full kind, entry)) → (book : BookAt told)
      → OnePasses told entries kind book
  one_passes told entries front more entry kind are tells grew book =
      let grown = grew told tells in
      record {
        front = front;
        entry = entry;
        more = more;
        entries_are = are;
        reached = reaches_each told grown.stood book front entry kind grown.limit;
      }

  line_passes : (puts : List ℕ → Type 0) (bytes rest : List ℕ) (kind : FullKind)
      (ran : RanToLine (Grew disks disks_now next) puts true next
      (Consumes (Some bytes) (Some rest)) (IsAtEnd (Some rest)) (Full kind))
      → StopsAt (Grew disks disks_now next) puts (answers true 1 next) ran.lines ran.line
      (Full kind)
      → EntriesPass (entries_of (lines_of bytes)) disks kind
  line_passes puts bytes rest kind ran (put, (entry, one, took)) told tells =
      let first = first_entries bytes ran.read rest ran.lines ran.line entry ran.consumed ran.there
      one in
      record {
        stood = (took told tells).stood;
        each = one_passes told (entries_of (lines_of bytes)) (entries_of ran.lines) first.0 entry
            kind first.1 tells took;
      }

-- ---- too many bytes

between_overlong : (bytes read more rest : List ℕ) (kind : FullKind)
    → bytes ≡ (read ++ more) ++ rest → StopsBetween read more (Full kind) → IsOverlong bytes kind
between_overlong bytes read more rest Input whole (is, some, few) =
    omega (
      arith,
      is,
      some,
      ap (λ (l : List ℕ). length l) whole,
      length-append (read ++ more) rest,
      length-append read more,
    )
between_overlong bytes read more rest _ whole why = absurd why

-- ---- the run stopped

pub input_passes : (disks disks_now : DisksAt) (next : ℕ) (puts : List ℕ → Type 0)
    (left left_now : Option (List ℕ)) (kind : FullKind)
    → RanUntil (Grew disks disks_now next) puts true next (Consumes left left_now)
    (IsAtEnd left_now) (Full kind) → IfSome left (λ bytes. InputPasses bytes disks kind)
input_passes disks disks_now next puts None left_now kind ran = tt
input_passes disks disks_now next puts (Some bytes) None kind (inl ran) = absurd ran.consumed
input_passes disks disks_now next puts (Some bytes) None kind (inr ran) = absurd ran.consumed
input_passes disks disks_now next puts (Some bytes) (Some rest) kind (inl ran) =
    inl (between_overlong bytes ran.read ran.more rest kind ran.consumed ran.why)
input_passes disks disks_now next puts (Some bytes) (Some rest) kind (inr ran) =
    inr (line_passes disks disks_now next puts bytes rest kind ran ran.stops)

-- `replay` takes as many entries as there can be lines
taken_many : (entries : List Entry) (entry : Entry) (kind : FullKind)
    → ReplayTaken entries (Some (Full kind, entry)) → 2 ^ 46 ≤ length entries
taken_many entries entry Numbers many = many
taken_many entries entry _ taken = absurd taken

replay_all : (puts consumes : List ℕ → Type 0) (at_end : Type 0) (kind : FullKind)
    (ran : RanToLine ReplayTaken puts false 0 consumes at_end (Full kind))
    → StopsAt ReplayTaken puts (answers false 1 0) ran.lines ran.line (Full kind) → ⊥
replay_all puts consumes at_end kind ran (put, (entry, one, took)) =
    omega (
      arith,
      taken_many (entries_of ran.lines) entry kind took,
      entries_few ran.lines,
      length-append ran.lines (ran.line ∷ []),
      read_few ran.read at_end (ran.lines ++ ran.line ∷ []) ran.there,
      ran.within,
    )

pub replay_overlong : (puts : List ℕ → Type 0) (left left_now : Option (List ℕ)) (kind : FullKind)
    → RanUntil ReplayTaken puts false 0 (Consumes left left_now) (IsAtEnd left_now) (Full kind)
    → IfSome left (λ bytes. IsOverlong bytes kind)
replay_overlong puts None left_now kind ran = tt
replay_overlong puts (Some bytes) None kind (inl ran) = absurd ran.consumed
replay_overlong puts (Some bytes) (Some rest) kind (inl ran) =
    between_overlong bytes ran.read ran.more rest kind ran.consumed ran.why
replay_overlong puts (Some bytes) left_now kind (inr ran) =
    absurd (replay_all puts (Consumes (Some bytes) left_now) (IsAtEnd left_now) kind ran ran.stops)
