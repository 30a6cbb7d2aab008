-- One step of a hand, which was committed or not.
use Rattle.std.proofs.Common.{◌≡◌, inl, inr, ℕ, zero, suc, ◌+◌, ◌-◌, ◌<◌, ◌≤◌, ◌^◌}
use Rattle.std.proofs.Common.{List, [], ◌∷◌, ◌++◌, length, Option, Some, None, Ok, Err}
use Rattle.std.proofs.Common.{refl, sym, ◌∙◌, ap, subst, arith}
use Rattle.std.specs.List.{slice_get, slice_set}
use Rattle.std.specs.Option.{ForSome}
use Rattle.std.proofs.lemmas.List.{length-set}
use Rattle.std.proofs.lemmas.Option.{slice_get_within}
use Rattle.fm_outer.specs.declared.disk.Disk.{Ghosts}
use Rattle.fm_entry.specs.WordBytes.{spoken_bytes}
use Rattle.fm_entry.specs.declared.entry.Entry.{Entry}
use Rattle.fm_entry.specs.declared.spoken.Spoken.{Spoken}
use Rattle.fm_core.specs.Book.{Book, ModuleState, IsLawful, state_at, worked}
use Rattle.fm_core.specs.Folds.{records_at}
use Rattle.fm_core.specs.Hands.{HandOf, Shown, shown, stepped, spoken_at}
use Rattle.fm_core.specs.Meaning.{says_of}
use Rattle.fm_core.specs.Outcome.{kept_record}
use Rattle.fm_core.specs.Seen.{Follows, FollowsAs}
use Rattle.fm_core.specs.declared.module.Module.{Ghosts as ModuleGhosts}
use Rattle.fm_core.proofs.Keeping.{follows_step, worked_is, kept_said}
use Rattle.fm_core.proofs.Lists.{get_set_same, get_set_other}
use Rattle.fm_journal.specs.Causes.{refusal}
use Rattle.fm_journal.specs.JournalOf.{JournalOf}
use Rattle.fm_logs.specs.LogsBook.{IsStepOf}
use Rattle.fm_logs.specs.LogsLimits.{logs_of}
use Rattle.fm_logs.specs.LogsOf.{LogsOf, Commits, CommitDoes, CommitRefused, FrameRefused, Frames}
use Rattle.fm_logs.specs.LogsOf.{with_frame}
use Rattle.fm_logs.specs.StoreBook.{StoreBook}
use Rattle.fm_logs.specs.declared.disks.DiskName.{DiskName}
use Rattle.fm_logs.specs.declared.fault.StoreFault.{StoreFault}
use Rattle.fm_logs.specs.declared.fault.StoreFault.TheVariants.{Disk, Full, Closed, Damaged}
use Rattle.fm_logs.specs.declared.fault.StoreFault.TheVariants.{Exists, NoMemory}
use Rattle.fm_logs.specs.declared.logs.Committed.TheVariants.{Done}
use Rattle.fm_store.specs.Cursors.{IsAtCursor}
use Rattle.fm_store.specs.StoreCalls.{CommitsOnBook}
use Rattle.fm_store.specs.StoreLimits.{store_of}
use Rattle.fm_store.specs.StoreOf.{StoreOf, StoreStandsFor}
use Rattle.fm_drain.specs.DrainCalls.{IsStepPast, MayBePast, OnlyCommitted}
use Rattle.fm_drain.specs.DrainCalls.{StoppedAt}
use Rattle.fm_drain.specs.DrainLimits.{StepLimit}
use Rattle.fm_drain.specs.DrainSteps.{HandDoes, HandOnBook}
use Rattle.fm_core.proofs.Options.{none_some}

-- there is an element at a place within a list
pub there : {X : Type 0} (xs : List X) (i : ℕ) → i < length xs
    → (x : X) × (slice_get xs i ≡ Some x)
there [] i within = absurd (let no : ⊥ = omega arith in no)
there (x ∷ xs) zero within = (x, refl)
there (x ∷ xs) (suc i) within = there xs i (omega arith)

-- stores with equal parts
only_by : {D M : Type 0} (old new : StoreOf D M) → new.base ≡ old.base
    → new.logs.active ≡ old.logs.active → new.logs.second ≡ old.logs.second
    → new.logs.base ≡ old.logs.base → new.logs.entries ≡ old.logs.entries → OnlyCommitted old new
only_by old new beside active second base entries =
    let o = old.logs in let n = new.logs in
    let logs : n ≡ logs_of o.active n.flt o.second o.base o.entries n.cursors n.closed =
    ap (λ a. logs_of a n.flt n.second n.base n.entries n.cursors n.closed) active
    ∙ ap (λ s. logs_of o.active n.flt s n.base n.entries n.cursors n.closed) second
    ∙ ap (λ b. logs_of o.active n.flt o.second b n.entries n.cursors n.closed) base
    ∙ ap (λ es. logs_of o.active n.flt o.second o.base es n.cursors n.closed) entries in
    ap (λ l. store_of l new.base) logs
    ∙ ap (store_of (logs_of o.active n.flt o.second o.base o.entries n.cursors n.closed)) beside

pub same_store : {D M : Type 0} (old new : StoreOf D M) → new.base ≡ old.base
    → new.logs ≡ old.logs → new ≡ old
same_store old new beside logs =
    ap (λ l. store_of l new.base) logs ∙ ap (store_of old.logs) beside

-- work on the module of a hand puts what the hand says behind the records
pub step_says : (k : Book) (h : Shown) (e : Entry) → IsLawful k
    → slice_get k.cursors h.number ≡ Some h.cursor → FollowsAs k h.number h
    → slice_get k.entries (h.cursor - k.base) ≡ Some e
    → worked k h.number ≡ record k {
      cursors = slice_set k.cursors h.number (h.cursor + 1);
      records = k.records ++ kept_record (spoken_at h e);
    }
step_says k h e lawful at follows found =
    let within : h.number < length k.modules =
    subst (λ (n : ℕ). h.number < n) lawful.as_many
    (slice_get_within k.cursors h.number h.cursor at) in
    let p : ModuleState = (there k.modules h.number within).0 in
    let there_is : slice_get k.modules h.number ≡ Some p = (there k.modules h.number within).1 in
    let f : Follows k h.number p h = follows p there_is in
    let said : kept_record (spoken_at h e)
    ≡ records_at p.meaning.own h.cursor (says_of p.meaning (state_at k p h.cursor) h.cursor e) =
    kept_said h.number h.cursor (says_of h.meaning h.state h.cursor e)
    ∙ ap (λ (n : ℕ). records_at n h.cursor (says_of h.meaning h.state h.cursor e)) (sym f.own_is)
    ∙ ap (λ m. records_at p.meaning.own h.cursor (says_of m h.state h.cursor e)) f.meaning_is
    ∙ ap (λ s. records_at p.meaning.own h.cursor (says_of p.meaning s h.cursor e)) f.folds in
    worked_is k h.number p h.cursor e there_is at found
    ∙ ap (λ (rs : List Spoken). record k {
      cursors = slice_set k.cursors h.number (h.cursor + 1);
      records = k.records ++ rs;
    }) (sym said)

-- the frame of what a hand says has the step of its module
pub step_of : (k : Book) (h : Shown) (e : Entry) (frame : Option (List ℕ)) → IsLawful k
    → slice_get k.cursors h.number ≡ Some h.cursor → FollowsAs k h.number h
    → slice_get k.entries (h.cursor - k.base) ≡ Some e
    → Frames frame (kept_record (spoken_at h e)) → IsStepOf k h.number h.cursor frame
step_of k h e frame lawful at follows found frames = record {
  said = kept_record (spoken_at h e);
  spells = frames;
  worked_is = step_says k h e lawful at follows found;
}

-- what a frame of the record is, where there is one
abbrev pub FramesShort : Spoken → Option (List ℕ) → Type 0
FramesShort spoken frame = ForSome frame (λ payload.
    (payload ≡ spoken_bytes spoken) × (length payload ≤ 2 ^ 28))

-- the hand took the entry at its cursor
pub record Takes {D M : Type 0} (m : ModuleGhosts M) (logs : LogsOf D) (hand now : HandOf M)
    (e : Entry) : Type 0 where
  pub at : IsAtCursor m logs hand.number hand
  pub entry_is : slice_get logs.entries (hand.cursor - logs.base) ≡ Some e
  pub stepped_is : shown m now ≡ stepped (shown m hand) e

module _ {D M : Type 0} (m : ModuleGhosts M) where
  -- the entry in a book of the same entries
  pub entry_of : (k : Book) (logs : LogsOf D) (c : ℕ) (e : Entry) → k.base ≡ logs.base
      → k.entries ≡ logs.entries → slice_get logs.entries (c - logs.base) ≡ Some e
      → slice_get k.entries (c - k.base) ≡ Some e
  entry_of k logs c e base entries found =
      ap (λ (n : ℕ). slice_get k.entries (c - n)) base
      ∙ ap (λ (es : List Entry). slice_get es (c - logs.base)) entries ∙ found

  -- it follows what it followed
  pub takes_follow : (logs : LogsOf D) (hand now : HandOf M) (e : Entry)
      → Takes m logs hand now e → (k : Book) → k.base ≡ logs.base → k.entries ≡ logs.entries
      → FollowsAs k hand.number (shown m hand) → FollowsAs k hand.number (shown m now)
  takes_follow logs hand now e takes k base entries follows p at =
      subst (Follows k hand.number p) (sym takes.stepped_is)
      (follows_step k hand.number p (shown m hand) e (follows p at)
      (entry_of k logs hand.cursor e base entries takes.entry_is))

  -- its module has not taken it
  pub takes_past : (logs after : LogsOf D) (hand now : HandOf M) (e : Entry) (spoken : Spoken)
      → Takes m logs hand now e → after.cursors ≡ logs.cursors → after.base ≡ logs.base
      → after.entries ≡ logs.entries → spoken ≡ spoken_at (shown m hand) e
      → IsStepPast m after hand.number now spoken
  takes_past logs after hand now e spoken takes cursors base entries says = record {
    before = shown m hand;
    number_is = refl;
    own_is = takes.at.own_is;
    cursor_is = ap (λ (cs : List ℕ). slice_get cs hand.number) cursors ∙ takes.at.cursor_is;
    from_base = subst (λ (n : ℕ). n ≤ hand.cursor) (sym base) takes.at.from_base;
    entry = e;
    entry_is = ap (λ (n : ℕ). slice_get after.entries (hand.cursor - n)) base
        ∙ ap (λ (es : List Entry). slice_get es (hand.cursor - logs.base)) entries
        ∙ takes.entry_is;
    stepped_is = takes.stepped_is;
    spoken_is = says;
  }

  -- or it has
  pub takes_on : (logs after : LogsOf D) (hand now : HandOf M) (e : Entry)
      → Takes m logs hand now e
      → after.cursors ≡ slice_set logs.cursors hand.number (hand.cursor + 1)
      → after.base ≡ logs.base → after.entries ≡ logs.entries
      → IsAtCursor m after hand.number now
  takes_on logs after hand now e takes cursors base entries =
      let next : now.cursor ≡ hand.cursor + 1 = ap (λ (s : Shown). s.cursor) takes.stepped_is in
      let inside : hand.cursor - logs.base < length logs.entries =
      slice_get_within logs.entries (hand.cursor - logs.base) e takes.entry_is in
      let low : logs.base ≤ hand.cursor = takes.at.from_base in
      let many : length after.entries ≡ length logs.entries = ap length entries in
      record {
        number_is = ap (λ (s : Shown). s.number) takes.stepped_is;
        own_is = ap (λ (s : Shown). s.meaning.own) takes.stepped_is ∙ takes.at.own_is;
        cursor_is = ap (λ (cs : List ℕ). slice_get cs hand.number) cursors
            ∙ get_set_same logs.cursors hand.number hand.cursor (hand.cursor + 1)
            takes.at.cursor_is
            ∙ ap Some (sym next);
        from_base = omega (arith, next, low, base);
        to_end = omega (arith, next, low, base, inside, many);
      }

  -- it is the same still
  pub same_at : (logs : LogsOf D) (hand now : HandOf M) → IsAtCursor m logs hand.number hand
      → shown m now ≡ shown m hand → IsAtCursor m logs hand.number now
  same_at logs hand now at same = record {
    number_is = ap (λ (s : Shown). s.number) same;
    own_is = ap (λ (s : Shown). s.meaning.own) same ∙ at.own_is;
    cursor_is = at.cursor_is ∙ ap (λ (s : Shown). Some s.cursor) (sym same);
    from_base = subst (λ (s : Shown). logs.base ≤ s.cursor) (sym same) at.from_base;
    to_end = subst (λ (s : Shown). s.cursor ≤ logs.base + length logs.entries) (sym same) at.to_end;
  }

module _ {D M : Type 0} (g : Ghosts D) (m : ModuleGhosts M) where
  -- a frame more leaves the first number
  first_with : (disk : D) (frame : Option (List ℕ)) (j : JournalOf D)
      → (with_frame disk frame j).first ≡ j.first
  first_with disk None j = refl
  first_with disk (Some payload) j = refl

  -- the step was committed
  pub step_done : (old new : StoreOf D M) (hand now : HandOf M) (e : Entry)
      (frame : Option (List ℕ)) (done : Unit) → new.base ≡ old.base → Takes m old.logs hand now e
      → Commits g old.logs new.logs hand.number hand.cursor frame
      → HandDoes g m old new hand now (Ok done)
  step_done old new hand now e frame done beside takes commits =
      let active : new.logs.active ≡ old.logs.active =
      ap (λ (l : LogsOf D). l.active) commits.logs_are in
      let base : new.logs.base ≡ old.logs.base =
      ap (λ (l : LogsOf D). l.base) commits.logs_are in
      let entries : new.logs.entries ≡ old.logs.entries =
      ap (λ (l : LogsOf D). l.entries) commits.logs_are in
      let cursors : new.logs.cursors ≡ slice_set old.logs.cursors hand.number (hand.cursor + 1) =
      ap (λ (l : LogsOf D). l.cursors) commits.logs_are in
      record {
        only = only_by old new beside active (ap (λ (l : LogsOf D). l.second) commits.logs_are)
            base entries;
        as_many = ap length cursors ∙ length-set old.logs.cursors hand.number (hand.cursor + 1);
        first_same = ap (λ (l : LogsOf D). l.flt.first) commits.logs_are
            ∙ first_with new.logs.flt.disk frame old.logs.flt;
        others = λ j differs. ap (λ (cs : List ℕ). slice_get cs j) cursors
            ∙ get_set_other old.logs.cursors hand.number j (hand.cursor + 1) differs;
        follow = takes_follow m old.logs hand now e takes;
        answer = (
          takes_on m old.logs new.logs hand now e takes cursors base entries,
          inr (
            commits.was_open,
            ap (λ (l : LogsOf D). l.closed) commits.logs_are ∙ commits.was_open,
            commits.no_failure,
          ),
        );
      }

  -- a refusal leaves the cursors, and all but the fault log and whether the store is closed
  record Refuses (old new : LogsOf D) : Type 0 where
    active_same : new.active ≡ old.active
    second_same : new.second ≡ old.second
    base_same : new.base ≡ old.base
    entries_same : new.entries ≡ old.entries
    cursors_same : new.cursors ≡ old.cursors

  refuses_by : (old new : LogsOf D) → new ≡ old → Refuses old new
  refuses_by old new same = record {
    active_same = ap (λ (l : LogsOf D). l.active) same;
    second_same = ap (λ (l : LogsOf D). l.second) same;
    base_same = ap (λ (l : LogsOf D). l.base) same;
    entries_same = ap (λ (l : LogsOf D). l.entries) same;
    cursors_same = ap (λ (l : LogsOf D). l.cursors) same;
  }

  refused_keeps : (old new : LogsOf D) (i n : ℕ) (frame : Option (List ℕ)) (fault : StoreFault)
      → CommitRefused g old new i n frame fault → Refuses old new
  refused_keeps old new i n frame (Closed name failures) why = refuses_by old new why.0
  refused_keeps old new i n (Some payload) (Full kind) why = refuses_by old new why.1.0
  refused_keeps old new i n (Some payload) Disk why = record {
    active_same = ap (λ (l : LogsOf D). l.active) why.1.1.logs_are;
    second_same = ap (λ (l : LogsOf D). l.second) why.1.1.logs_are;
    base_same = ap (λ (l : LogsOf D). l.base) why.1.1.logs_are;
    entries_same = ap (λ (l : LogsOf D). l.entries) why.1.1.logs_are;
    cursors_same = ap (λ (l : LogsOf D). l.cursors) why.1.1.logs_are;
  }
  refused_keeps old new i n (Some payload) NoMemory why = absurd why.1
  refused_keeps old new i n (Some payload) (Damaged name place) why = absurd why.1
  refused_keeps old new i n (Some payload) Exists why = absurd why.1
  refused_keeps old new i n None (Full kind) why = absurd why.1
  refused_keeps old new i n None Disk why = absurd why.1
  refused_keeps old new i n None NoMemory why = absurd why.1
  refused_keeps old new i n None (Damaged name place) why = absurd why.1
  refused_keeps old new i n None Exists why = absurd why.1

  -- why it stopped, where the step was refused
  stopped_by : (old new : StoreOf D M) (i n : ℕ) (now : HandOf M) (spoken : Spoken)
      (frame : Option (List ℕ)) (fault : StoreFault) → old.logs.closed ≡ None
      → new.base ≡ old.base → IsStepPast m new.logs i now spoken → FramesShort spoken frame
      → CommitRefused g old.logs new.logs i n frame fault → StoppedAt g m old new i now fault
  stopped_by old new i n now spoken frame (Closed name failures) is_open beside past short why =
      absurd (none_some is_open why.1)
  stopped_by old new i n now spoken (Some payload) (Full kind) is_open beside past short why = (
    inl (same_store old new beside why.1.0),
    ap (λ (l : LogsOf D). l.closed) why.1.0 ∙ is_open,
    (
      spoken,
      past,
      inr (
        subst (λ (bytes : List ℕ). length bytes ≤ 2 ^ 28) (short payload refl).0
            (short payload refl).1,
        ap (λ (bytes : List ℕ). refusal new.logs.flt bytes) (sym (short payload refl).0)
            ∙ ap (λ (l : LogsOf D). refusal l.flt payload) why.1.0 ∙ why.1.2,
      ),
    ),
  )
  stopped_by old new i n now spoken (Some payload) Disk is_open beside past short why = (
    is_open,
    ap (λ (l : LogsOf D). l.closed) why.1.1.logs_are,
    why.1.1.rose,
    (spoken, past),
  )
  stopped_by old new i n now spoken (Some payload) NoMemory is_open beside past short why =
      absurd why.1
  stopped_by old new i n now spoken (Some payload) (Damaged name place) is_open beside past short
      why = absurd why.1
  stopped_by old new i n now spoken (Some payload) Exists is_open beside past short why =
      absurd why.1
  stopped_by old new i n now spoken None (Full kind) is_open beside past short why = absurd why.1
  stopped_by old new i n now spoken None Disk is_open beside past short why = absurd why.1
  stopped_by old new i n now spoken None NoMemory is_open beside past short why = absurd why.1
  stopped_by old new i n now spoken None (Damaged name place) is_open beside past short why =
      absurd why.1
  stopped_by old new i n now spoken None Exists is_open beside past short why = absurd why.1

  -- the step was not committed
  pub step_refused : (old new : StoreOf D M) (hand now : HandOf M) (e : Entry) (spoken : Spoken)
      (frame : Option (List ℕ)) (fault : StoreFault) → old.logs.closed ≡ None
      → new.base ≡ old.base → Takes m old.logs hand now e → spoken ≡ spoken_at (shown m hand) e
      → FramesShort spoken frame
      → CommitRefused g old.logs new.logs hand.number hand.cursor frame fault
      → HandDoes g m old new hand now (Err fault)
  step_refused old new hand now e spoken frame fault is_open beside takes says short why =
      let same : Refuses old.logs new.logs =
      refused_keeps old.logs new.logs hand.number hand.cursor frame fault why in
      let past : IsStepPast m new.logs hand.number now spoken =
      takes_past m old.logs new.logs hand now e spoken takes same.cursors_same same.base_same
      same.entries_same says in
      record {
        only = only_by old new beside same.active_same same.second_same same.base_same
            same.entries_same;
        as_many = ap length same.cursors_same;
        first_same = tt;
        others = λ j differs. ap (λ (cs : List ℕ). slice_get cs j) same.cursors_same;
        follow = takes_follow m old.logs hand now e takes;
        answer = (
          inr (spoken, past),
          stopped_by old new hand.number hand.cursor now spoken frame fault is_open beside past
              short why,
        );
      }

  -- nothing was done to the store
  rests : (store : StoreOf D M) (hand now : HandOf M) (fault : StoreFault)
      → ((k : Book) → k.base ≡ store.logs.base → k.entries ≡ store.logs.entries
      → FollowsAs k hand.number (shown m hand) → FollowsAs k hand.number (shown m now))
      → MayBePast m store.logs hand.number now → StoppedAt g m store store hand.number now fault
      → HandDoes g m store store hand now (Err fault)
  rests store hand now fault follow may why = record {
    only = refl;
    as_many = refl;
    first_same = tt;
    others = λ j differs. refl;
    follow = follow;
    answer = (may, why);
  }

  -- the record has no frame
  no_frame : (store : StoreOf D M) (i : ℕ) (now : HandOf M) (spoken : Spoken)
      (fault : StoreFault) → store.logs.closed ≡ None → IsStepPast m store.logs i now spoken
      → FrameRefused (spoken_bytes spoken) fault → StoppedAt g m store store i now fault
  no_frame store i now spoken (Full kind) is_open past why =
      (inl refl, is_open, (spoken, past, inl why))
  no_frame store i now spoken NoMemory is_open past why = inl refl
  no_frame store i now spoken Disk is_open past why = absurd why
  no_frame store i now spoken Exists is_open past why = absurd why
  no_frame store i now spoken (Closed name failures) is_open past why = absurd why
  no_frame store i now spoken (Damaged name place) is_open past why = absurd why

  pub step_unframed : (store : StoreOf D M) (hand now : HandOf M) (e : Entry) (spoken : Spoken)
      (fault : StoreFault) → store.logs.closed ≡ None → Takes m store.logs hand now e
      → spoken ≡ spoken_at (shown m hand) e → FrameRefused (spoken_bytes spoken) fault
      → HandDoes g m store store hand now (Err fault)
  step_unframed store hand now e spoken fault is_open takes says why =
      let past : IsStepPast m store.logs hand.number now spoken =
      takes_past m store.logs store.logs hand now e spoken takes refl refl refl says in
      rests store hand now fault (takes_follow m store.logs hand now e takes) (inr (spoken, past))
      (no_frame store hand.number now spoken fault is_open past why)

  -- the step was not made
  pub step_unmade : (store : StoreOf D M) (hand now : HandOf M)
      → IsAtCursor m store.logs hand.number hand → shown m now ≡ shown m hand
      → HandDoes g m store store hand now (Err NoMemory)
  step_unmade store hand now at same =
      rests store hand now NoMemory
      (λ k base entries follows. subst (FollowsAs k hand.number) (sym same) follows)
      (inl (same_at m store.logs hand now at same)) (inl refl)

  pub step_closed : (store : StoreOf D M) (hand : HandOf M) (name : DiskName) (failures : ℕ)
      → IsAtCursor m store.logs hand.number hand → store.logs.closed ≡ Some (name, failures)
      → HandDoes g m store store hand hand (Err (Closed name failures))
  step_closed store hand name failures at closed =
      rests store hand hand (Closed name failures) (λ k base entries follows. follows) (inl at)
      (refl, closed, at)

  -- after a refusal the store stands for the book still, unless it is closed
  refused_stands : (fresh : List ModuleState) (old new : StoreOf D M) (k : StoreBook) (i n : ℕ)
      (frame : Option (List ℕ)) (fault : StoreFault) → new.base ≡ old.base
      → StoreStandsFor g fresh old k → CommitRefused g old.logs new.logs i n frame fault
      → new.logs.closed ≡ None → StoreStandsFor g fresh new k
  refused_stands fresh old new k i n frame (Closed name failures) beside st why is_open =
      subst (λ (s : StoreOf D M). StoreStandsFor g fresh s k)
      (sym (same_store old new beside why.0))
      st
  refused_stands fresh old new k i n (Some payload) (Full kind) beside st why is_open =
      subst (λ (s : StoreOf D M). StoreStandsFor g fresh s k)
      (sym (same_store old new beside why.1.0)) st
  refused_stands fresh old new k i n (Some payload) Disk beside st why is_open =
      absurd (none_some is_open (ap (λ (l : LogsOf D). l.closed) why.1.1.logs_are))
  refused_stands fresh old new k i n (Some payload) NoMemory beside st why is_open = absurd why.1
  refused_stands fresh old new k i n (Some payload) (Damaged name place) beside st why is_open =
      absurd why.1
  refused_stands fresh old new k i n (Some payload) Exists beside st why is_open = absurd why.1
  refused_stands fresh old new k i n None (Full kind) beside st why is_open = absurd why.1
  refused_stands fresh old new k i n None Disk beside st why is_open = absurd why.1
  refused_stands fresh old new k i n None NoMemory beside st why is_open = absurd why.1
  refused_stands fresh old new k i n None (Damaged name place) beside st why is_open = absurd why.1
  refused_stands fresh old new k i n None Exists beside st why is_open = absurd why.1

  pub refused_on_book : (fresh : List ModuleState) (old new : StoreOf D M) (k : StoreBook)
      (i n : ℕ) (frame : Option (List ℕ)) (fault : StoreFault) → new.base ≡ old.base
      → StoreStandsFor g fresh old k → CommitRefused g old.logs new.logs i n frame fault
      → StepLimit old.logs.flt.first k.book fault
      → CommitsOnBook g fresh old new k i (Err fault) → HandOnBook g fresh old new k (Err fault)
  refused_on_book fresh old new k i n frame fault beside st why limit commits = record {
    works = [];
    commits = record {
      stands = refused_stands fresh old new k i n frame fault beside st why;
      any_moment = commits.any_moment;
      left = commits.left;
    };
    limit = limit;
  }

  pub done_on_book : (fresh : List ModuleState) (old new : StoreOf D M) (k : StoreBook) (i : ℕ)
      (done : Unit) → CommitsOnBook g fresh old new k i (Ok Done)
      → HandOnBook g fresh old new k (Ok done)
  done_on_book fresh old new k i done commits = record {
    works = i ∷ [];
    commits = record {
      stands = λ is_open. commits.stands;
      any_moment = commits.any_moment;
      left = commits.left;
    };
    limit = tt;
  }

  -- the hand took the entry that was read
  takes_by : (logs : LogsOf D) (hand now : HandOf M) (e : Entry) (n : ℕ)
      → IsAtCursor m logs hand.number hand → n ≡ hand.cursor
      → slice_get logs.entries (n - logs.base) ≡ Some e
      → shown m now ≡ stepped (shown m hand) e → Takes m logs hand now e
  takes_by logs hand now e n at is found stepped_is = record {
    at = at;
    entry_is = subst (λ (c : ℕ). slice_get logs.entries (c - logs.base) ≡ Some e) is found;
    stepped_is = stepped_is;
  }

  module _ (old new : StoreOf D M) (hand now : HandOf M) (e : Entry) (own n : ℕ)
      (at : IsAtCursor m old.logs hand.number hand) (own_is : own ≡ hand.number)
      (n_is : n ≡ hand.cursor) (found : slice_get old.logs.entries (n - old.logs.base) ≡ Some e)
      (stepped_is : shown m now ≡ stepped (shown m hand) e) where
    pub done_does : (frame : Option (List ℕ)) (done : Unit) → new.base ≡ old.base
        → CommitDoes g old.logs new.logs own n frame (Ok Done)
        → HandDoes g m old new hand now (Ok done)
    done_does frame done beside commits =
        step_done old new hand now e frame done beside
        (takes_by old.logs hand now e n at n_is found stepped_is)
        (subst (λ (c : ℕ). Commits g old.logs new.logs hand.number c frame) n_is
        (subst (λ (i : ℕ). Commits g old.logs new.logs i n frame) own_is commits))

    pub refused_does : (spoken : Spoken) (frame : Option (List ℕ)) (fault : StoreFault)
        → new.base ≡ old.base → old.logs.closed ≡ None → spoken ≡ spoken_at (shown m hand) e
        → FramesShort spoken frame → CommitDoes g old.logs new.logs own n frame (Err fault)
        → HandDoes g m old new hand now (Err fault)
    refused_does spoken frame fault beside is_open says short why =
        step_refused old new hand now e spoken frame fault is_open beside
        (takes_by old.logs hand now e n at n_is found stepped_is) says short
        (subst (λ (c : ℕ). CommitRefused g old.logs new.logs hand.number c frame fault) n_is
        (subst (λ (i : ℕ). CommitRefused g old.logs new.logs i n frame fault) own_is why))

    pub unframed_does : (spoken : Spoken) (fault : StoreFault) → old.logs.closed ≡ None
        → spoken ≡ spoken_at (shown m hand) e → FrameRefused (spoken_bytes spoken) fault
        → HandDoes g m old old hand now (Err fault)
    unframed_does spoken fault is_open says why =
        step_unframed old hand now e spoken fault is_open
        (takes_by old.logs hand now e n at n_is found stepped_is) says why

    pub step_is : (fresh : List ModuleState) (k : StoreBook) (spoken : Spoken)
        (frame : Option (List ℕ)) → spoken ≡ spoken_at (shown m hand) e
        → Frames frame (kept_record spoken) → StoreStandsFor g fresh old k
        → FollowsAs k.book hand.number (shown m hand) → IsStepOf k.book own n frame
    step_is fresh k spoken frame says frames st follows =
        subst (λ (c : ℕ). IsStepOf k.book own c frame) (sym n_is)
        (subst (λ (i : ℕ). IsStepOf k.book i hand.cursor frame) (sym own_is)
        (step_of k.book (shown m hand) e frame st.lawful.lawful
        (sym (ap (λ (cs : List ℕ). slice_get cs hand.number) st.cursors_are) ∙ at.cursor_is) follows
        (entry_of m k.book old.logs hand.cursor e (sym st.base_is) (sym st.entries_are)
        (subst (λ (c : ℕ). slice_get old.logs.entries (c - old.logs.base) ≡ Some e) n_is found))
        (subst (λ (s : Spoken). Frames frame (kept_record s)) says frames)))
