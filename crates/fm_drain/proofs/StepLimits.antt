-- A step that has no room in the fault log, as a step of the book.
use Rattle.std.proofs.Common.{◌≡◌, inl, inr, ℕ, ◌+◌, ◌-◌, ◌<◌, ◌≤◌, ◌^◌, List, [], ◌∷◌, ◌++◌}
use Rattle.std.proofs.Common.{length, map, Option, Some, None, Err, refl, sym, ◌∙◌, ap, subst}
use Rattle.std.proofs.Common.{arith, length-append}
use Rattle.std.specs.List.{slice_get}
use Rattle.fm_bytes.specs.Numbers.{u32_bytes, u64_bytes, counted_bytes}
use Rattle.fm_outer.specs.declared.disk.Disk.{Ghosts}
use Rattle.fm_outer.proofs.Numbers.{length-big_bytes}
use Rattle.fm_entry.specs.WordBytes.{spoken_bytes, word_bytes}
use Rattle.fm_entry.specs.declared.entry.Entry.{Entry}
use Rattle.fm_entry.specs.declared.list_event.ListEvent.{ListEvent}
use Rattle.fm_entry.specs.declared.spoken.Spoken.{Spoken}
use Rattle.fm_core.specs.Book.{Book, ModuleState, worked}
use Rattle.fm_core.specs.Hands.{HandOf, shown, spoken_at}
use Rattle.fm_core.specs.Outcome.{kept_of, kept_record}
use Rattle.fm_core.specs.Seen.{FollowsAs}
use Rattle.fm_core.specs.declared.module.Module.{Ghosts as ModuleGhosts}
use Rattle.fm_journal.specs.Causes.{refused}
use Rattle.fm_journal.specs.JournalOf.{JournalOf}
use Rattle.fm_journal.specs.Keeps.{Keeps}
use Rattle.fm_journal.specs.declared.fault.FullKind.{FullKind}
use Rattle.fm_journal.specs.declared.fault.JournalFault.TheVariants.{Full as JournalIsFull}
use Rattle.fm_logs.specs.LogsOf.{CannotTake, CommitDoes, FrameRefused, Frames}
use Rattle.fm_payloads.specs.Spelling.{EachSpells}
use Rattle.fm_logs.specs.ReadsAsBook.{SpellsSpoken}
use Rattle.fm_logs.specs.StoreBook.{StoreBook}
use Rattle.fm_logs.specs.declared.fault.StoreFault.{StoreFault}
use Rattle.fm_logs.specs.declared.fault.StoreFault.TheVariants.{Disk, Full, Closed, Damaged}
use Rattle.fm_logs.specs.declared.fault.StoreFault.TheVariants.{Exists, NoMemory}
use Rattle.fm_store.specs.Cursors.{IsAtCursor}
use Rattle.fm_store.specs.StoreOf.{StoreOf, StoreStandsFor}
use Rattle.fm_drain.specs.DrainLimits.{HasNoRoom, StepIsFull, StepLimit}
use Rattle.fm_drain.proofs.StepLaws.{FramesShort, entry_of, step_says}

-- a record that is kept is this one
kept_one : (words : List ListEvent) (spoken s : Spoken) → kept_of words spoken ≡ s ∷ []
    → kept_of words spoken ≡ spoken ∷ []
kept_one [] spoken s is = absurd (none_one is)
  where
    none_one : {X : Type 0} {x : X} → [] ≡ x ∷ [] → ⊥
    none_one e = cc e
kept_one (w ∷ ws) spoken s is = refl

-- a record without words is short
silent_short : (spoken : Spoken) → spoken.events ≡ [] → length (spoken_bytes spoken) ≤ 16
unfolding u32_bytes u64_bytes
silent_short spoken none =
    let words : length (counted_bytes 4 word_bytes spoken.events) ≡ 4 =
    ap (λ (ws : List ListEvent). length (counted_bytes 4 word_bytes ws)) none
    ∙ length-append (u32_bytes 0) [] ∙ ap (λ (n : ℕ). n + 0) (length-big_bytes 4 0) in
    let own : length (u32_bytes spoken.«module») ≡ 4 = length-big_bytes 4 spoken.«module» in
    let number : length (u64_bytes spoken.number) ≡ 8 = length-big_bytes 8 spoken.number in
    let numbered : length (u64_bytes spoken.number ++ counted_bytes 4 word_bytes spoken.events)
    ≡ length (u64_bytes spoken.number) + length (counted_bytes 4 word_bytes spoken.events) =
    length-append (u64_bytes spoken.number) (counted_bytes 4 word_bytes spoken.events) in
    let whole : length (spoken_bytes spoken) ≡ length (u32_bytes spoken.«module»)
    + length (u64_bytes spoken.number ++ counted_bytes 4 word_bytes spoken.events) =
    length-append (u32_bytes spoken.«module»)
    (u64_bytes spoken.number ++ counted_bytes 4 word_bytes spoken.events) in
    omega (arith, words, own, number, numbered, whole)

-- a long one has words, and is kept
long_by : (words : List ListEvent) (spoken : Spoken) → spoken.events ≡ words
    → 2 ^ 28 < length (spoken_bytes spoken) → kept_of words spoken ≡ spoken ∷ []
long_by [] spoken none long =
    let short : length (spoken_bytes spoken) ≤ 16 = silent_short spoken none in
    absurd (let no : ⊥ = omega (arith, long, short) in no)
long_by (w ∷ ws) spoken is long = refl

-- payloads that spell records are theirs
all_spoken : (payloads : List (List ℕ)) (records : List Spoken)
    → EachSpells SpellsSpoken payloads records → payloads ≡ map spoken_bytes records
all_spoken [] [] spelled = refl
all_spoken (p ∷ payloads) (r ∷ records) spelled =
    λ i. spelled.0.1 i ∷ all_spoken payloads records spelled.1 i
all_spoken [] (r ∷ records) spelled = absurd spelled
all_spoken (p ∷ payloads) [] spelled = absurd spelled

-- a journal that keeps payloads has no room for what it cannot take
no_room : {D : Type 0} (g : Ghosts D) (j : JournalOf D) (payloads : List (List ℕ))
    (payload : List ℕ) (kind : FullKind) → Keeps g j payloads → CannotTake j payload kind
    → HasNoRoom j.first payloads payload kind
no_room g j payloads payload kind keeps (inl long) = inl long
no_room g j payloads payload kind keeps (inr (short, is)) =
    inr (
      short,
      subst (λ n. refused None j.first (length payloads) n (5 + length payload)
          ≡ Some (JournalIsFull kind)) keeps.ends
          (subst (λ n. refused None j.first n j.end (5 + length payload)
          ≡ Some (JournalIsFull kind)) keeps.counted
          (subst (λ c. refused c j.first j.count j.end (5 + length payload)
          ≡ Some (JournalIsFull kind)) keeps.is_open is)),
    )

module _ {D M : Type 0} (g : Ghosts D) (m : ModuleGhosts M) (fresh : List ModuleState)
    (old new : StoreOf D M) (k : StoreBook) (hand now : HandOf M) (e : Entry) (own n : ℕ)
    (at : IsAtCursor m old.logs hand.number hand) (n_is : n ≡ hand.cursor)
    (found : slice_get old.logs.entries (n - old.logs.base) ≡ Some e) (spoken : Spoken)
    (says : spoken ≡ spoken_at (shown m hand) e) (st : StoreStandsFor g fresh old k)
    (follows : FollowsAs k.book hand.number (shown m hand)) where
  -- the record stands behind the others once its module is worked
  adds : kept_record spoken ≡ spoken ∷ []
      → (worked k.book hand.number).records ≡ k.book.records ++ spoken ∷ []
  adds kept =
      let entry : slice_get k.book.entries (hand.cursor - k.book.base) ≡ Some e =
      entry_of m k.book old.logs hand.cursor e (sym st.base_is) (sym st.entries_are)
      (subst (λ (c : ℕ). slice_get old.logs.entries (c - old.logs.base) ≡ Some e) n_is found) in
      let cursor : slice_get k.book.cursors hand.number ≡ Some hand.cursor =
      sym (ap (λ (cs : List ℕ). slice_get cs hand.number) st.cursors_are) ∙ at.cursor_is in
      ap (λ (b : Book). b.records)
      (step_says k.book (shown m hand) e st.lawful.lawful cursor follows entry)
      ∙ ap (λ (rs : List Spoken). k.book.records ++ rs)
      (ap (λ (s : Spoken). kept_record s) (sym says) ∙ kept)

  step_full : (kind : FullKind) → kept_record spoken ≡ spoken ∷ []
      → CannotTake old.logs.flt (spoken_bytes spoken) kind
      → StepIsFull old.logs.flt.first k.book kind
  step_full kind kept cannot = record {
    own = hand.number;
    spoken = spoken;
    says = adds kept;
    no_room = subst (λ (ps : List (List ℕ)).
        HasNoRoom old.logs.flt.first ps (spoken_bytes spoken) kind)
        (all_spoken st.keep.record_payloads k.book.records st.keep.records_spelled)
        (no_room g old.logs.flt st.keep.record_payloads (spoken_bytes spoken) kind
        st.keep.records_keep cannot);
  }

  -- the record has no frame
  pub unframed_limit : (fault : StoreFault) → FrameRefused (spoken_bytes spoken) fault
      → StepLimit old.logs.flt.first k.book fault
  unframed_limit (Full kind) why =
      step_full kind (long_by spoken.events spoken refl why.1) (inl why)
  unframed_limit NoMemory why = tt
  unframed_limit Disk why = tt
  unframed_limit Exists why = tt
  unframed_limit (Closed name failures) why = tt
  unframed_limit (Damaged name place) why = tt

  -- the frame was refused
  pub refused_limit : (frame : Option (List ℕ)) (fault : StoreFault)
      → Frames frame (kept_record spoken) → FramesShort spoken frame
      → CommitDoes g old.logs new.logs own n frame (Err fault)
      → StepLimit old.logs.flt.first k.book fault
  refused_limit (Some payload) (Full kind) frames short why =
      let is : payload ≡ spoken_bytes spoken = (short payload refl).0 in
      step_full kind (kept_one spoken.events spoken frames.0 frames.2)
      (subst (λ (bytes : List ℕ). CannotTake old.logs.flt bytes kind) is
      (inr ((short payload refl).1, why.1.2)))
  refused_limit None (Full kind) frames short why = absurd why.1
  refused_limit frame NoMemory frames short why = tt
  refused_limit frame Disk frames short why = tt
  refused_limit frame Exists frames short why = tt
  refused_limit frame (Closed name failures) frames short why = tt
  refused_limit frame (Damaged name place) frames short why = tt
