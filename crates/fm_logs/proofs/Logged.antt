-- Logs with one entry or one record more, and what a crash leaves of them.
use Rattle.std.proofs.Common.{◌≡◌, ◌≢◌, inl, inr, ℕ, ◌+◌, ◌≤◌, ◌^◌, List, [], ◌∷◌, ◌++◌, length}
use Rattle.std.proofs.Common.{Result, Ok, Err, slice_get, slice_set}
use Rattle.std.proofs.Common.{Option, Some, None, refl, sym, ◌∙◌, ap, subst, append_assoc, arith}
use Rattle.std.proofs.Common.{length-append, All}
use Rattle.std.proofs.lemmas.List.Elements.{All-append, All-from_recursion}
use Rattle.fm_entry.specs.Entries.{IsSpelled, entry_bytes}
use Rattle.fm_entry.specs.declared.entry.Entry.{Entry}
use Rattle.fm_entry.specs.declared.spoken.Spoken.{Spoken}
use Rattle.fm_journal.specs.Crash.{IsOldOrNew}
use Rattle.fm_journal.specs.JournalOf.{JournalOf}
use Rattle.fm_journal.specs.Keeps.{Keeps}
use Rattle.fm_outer.specs.Moments.{LeavesOnly}
use Rattle.fm_outer.specs.declared.disk.Disk.{Ghosts}
use Rattle.fm_outer.proofs.Moments.{OnlyNow, leaves-still, leaves-weaker}
use Rattle.fm_journal.specs.Causes.{refusal, refused}
use Rattle.fm_journal.specs.JournalOf.{appended}
use Rattle.fm_journal.specs.declared.fault.JournalFault.{JournalFault}
use Rattle.fm_journal.proofs.Added.{has_room}
use Rattle.fm_logs.specs.LogsLimits.{AreLogs}
use Rattle.fm_logs.specs.LogsOf.{LogsOf, LogsKeep, IsLogWith, Frames, TakesEntry, Commits}
use Rattle.fm_logs.specs.LogsOf.{CanTakeFrame, with_frame}
use Rattle.fm_payloads.specs.Spelling.{EachSpells}
use Rattle.fm_logs.specs.ReadsAsBook.{SpellsEntry, SpellsSpoken}

-- one payload more spells one value more
pub each_push : {A : Type 0} (spells : List ℕ → A → Type 0) (payloads : List (List ℕ)) (xs : List A)
    (payload : List ℕ) (x : A) → EachSpells spells payloads xs → spells payload x
    → EachSpells spells (payloads ++ payload ∷ []) (xs ++ x ∷ [])
each_push spells [] [] payload x all one = (one, tt)
each_push spells (p ∷ payloads) (y ∷ xs) payload x all one =
    (all.0, each_push spells payloads xs payload x all.1 one)
each_push spells [] (y ∷ xs) payload x all one = absurd all
each_push spells (p ∷ payloads) [] payload x all one = absurd all

-- what is refused for no reason is not refused
none_of : (o : Option JournalFault) (n : ℕ) (result : Result ℕ JournalFault) → result ≡ Ok n
    → ((fault : JournalFault) → o ≡ Some fault → result ≡ Err fault) → o ≡ None
none_of None n result is refused = refl
none_of (Some fault) n result is refused = absurd (differ (sym is ∙ refused fault refl))
  where
    differ : Ok n ≡ Err fault → ⊥
    differ same = cc same

-- an open journal that refuses nothing has a number left
number_left : {D : Type 0} (journal : JournalOf D) (payload : List ℕ) → journal.closed ≡ None
    → refusal journal payload ≡ None → journal.first + journal.count ≢ 2 ^ 46
number_left journal payload is_open free =
    let room = has_room journal.first journal.count journal.end (5 + length payload)
    (subst (λ (c : Option ℕ).
    refused c journal.first journal.count journal.end (5 + length payload) ≡ None) is_open free) in
    room.numbers

module _ {D : Type 0} (g : Ghosts D) where
  -- a crash that leaves the journal of before or with a payload leaves the log so
  pub log_leaves : {A : Type 0} (spells : List ℕ → A → Type 0) (old new : D) (first : ℕ)
      (payloads : List (List ℕ)) (xs : List A) (payload : List ℕ) (x : A)
      → EachSpells spells payloads xs → spells payload x
      → LeavesOnly g old new (IsOldOrNew first payloads payload)
      → LeavesOnly g old new (IsLogWith spells first xs (x ∷ []))
  log_leaves spells old new first payloads xs payload x all one leaves =
      leaves-weaker g old new (IsOldOrNew first payloads payload)
      (IsLogWith spells first xs (x ∷ [])) leaves
      (λ c either. elim either [
        | inl before ↦ inl (record { payloads = payloads; journal = before; spelled = all })
        | inr after ↦ inr (record {
          payloads = payloads ++ payload ∷ [];
          journal = after;
          spelled =
              each_push spells payloads xs payload x all one;
        })
      ])

  -- where nothing is written the log is left as it was
  pub log_stays : {A : Type 0} (spells : List ℕ → A → Type 0) (journal : JournalOf D)
      (payloads : List (List ℕ)) (xs more : List A) → OnlyNow g → Keeps g journal payloads
      → EachSpells spells payloads xs
      → LeavesOnly g journal.disk journal.disk (IsLogWith spells journal.first xs more)
  log_stays spells journal payloads xs more only_now keeps all =
      leaves-still g only_now journal.disk (IsLogWith spells journal.first xs more)
      (λ c left. inl (record { payloads = payloads; journal = keeps.left c left; spelled = all }))

  -- an append of an entry leaves the entries of before, or with the entry too
  pub entry_leaves : (old : LogsOf D) (new : D) (e : Entry) (payload : List ℕ) → IsSpelled e
      → payload ≡ entry_bytes e
      → ((payloads : List (List ℕ)) → Keeps g old.active payloads
      → LeavesOnly g old.active.disk new (IsOldOrNew old.active.first payloads payload))
      → (older : List Entry) (records : List Spoken) → LogsKeep g old older records
      → LeavesOnly g old.active.disk new
      (IsLogWith SpellsEntry old.active.first (older ++ old.entries) (e ∷ []))
  entry_leaves old new e payload spelled is leaves older records keep =
      log_leaves SpellsEntry old.active.disk new old.active.first keep.entry_payloads
      (older ++ old.entries) payload e keep.entries_spelled (spelled, is)
      (leaves keep.entry_payloads keep.entries_keep)

  -- an entry more in the active journal
  pub keeps_entry : (old : LogsOf D) (active : JournalOf D) (entries : List Entry) (e : Entry)
      (payload : List ℕ) → IsSpelled e → payload ≡ entry_bytes e → entries ≡ old.entries ++ e ∷ []
      → active.first ≡ old.active.first
      → ((payloads : List (List ℕ)) → Keeps g old.active payloads
      → Keeps g active (payloads ++ payload ∷ []))
      → (older : List Entry) (records : List Spoken) → LogsKeep g old older records
      → LogsKeep g (record old { active = active; entries = entries }) older records
  keeps_entry old active entries e payload spelled is more_entries first more older records keep =
      record {
        is_open = keep.is_open;
        begins = ap (λ (n : ℕ). n + length older) first ∙ keep.begins;
        entry_payloads = keep.entry_payloads ++ payload ∷ [];
        entries_keep = more keep.entry_payloads keep.entries_keep;
        entries_spelled =
            subst (λ (es : List Entry).
            EachSpells SpellsEntry (keep.entry_payloads ++ payload ∷ []) es)
            (append_assoc older old.entries (e ∷ [])
            ∙ ap (λ (es : List Entry). older ++ es) (sym more_entries))
            (each_push SpellsEntry keep.entry_payloads (older ++ old.entries) payload e
            keep.entries_spelled (spelled, is));
        record_payloads = keep.record_payloads;
        records_keep = keep.records_keep;
        records_spelled = keep.records_spelled;
      }

  -- an append of what was said leaves the records of before, or with it too
  pub words_leave : (old : LogsOf D) (new : D) (frame : Option (List ℕ)) (payload : List ℕ)
      → frame ≡ Some payload
      → ((payloads : List (List ℕ)) → Keeps g old.flt payloads
      → LeavesOnly g old.flt.disk new (IsOldOrNew old.flt.first payloads payload))
      → (older : List Entry) (records said : List Spoken) → Frames frame said
      → LogsKeep g old older records
      → LeavesOnly g old.flt.disk new (IsLogWith SpellsSpoken old.flt.first records said)
  words_leave old new frame payload is leaves older records said frames keep =
      let spells = subst (λ (o : Option (List ℕ)). Frames o said) is frames in
      subst (λ (more : List Spoken).
      LeavesOnly g old.flt.disk new (IsLogWith SpellsSpoken old.flt.first records more))
      (sym spells.2)
      (log_leaves SpellsSpoken old.flt.disk new old.flt.first keep.record_payloads records payload
      spells.0 keep.records_spelled spells.1 (leaves keep.record_payloads keep.records_keep))

  -- what was said in the fault log, and a cursor further on
  pub keeps_said : (old : LogsOf D) (flt : JournalOf D) (frame : Option (List ℕ))
      (payload : List ℕ) → frame ≡ Some payload
      → ((payloads : List (List ℕ)) → Keeps g old.flt payloads
      → Keeps g flt (payloads ++ payload ∷ []))
      → (older : List Entry) (records said : List Spoken) → Frames frame said
      → LogsKeep g old older records
      → LogsKeep g (record old { flt = flt }) older (records ++ said)
  keeps_said old flt frame payload is more older records said frames keep =
      let spells = subst (λ (o : Option (List ℕ)). Frames o said) is frames in record {
        is_open = keep.is_open;
        begins = keep.begins;
        entry_payloads = keep.entry_payloads;
        entries_keep = keep.entries_keep;
        entries_spelled = keep.entries_spelled;
        record_payloads = keep.record_payloads ++ payload ∷ [];
        records_keep = more keep.record_payloads keep.records_keep;
        records_spelled =
            subst (λ (rs : List Spoken).
            EachSpells SpellsSpoken (keep.record_payloads ++ payload ∷ []) (records ++ rs))
            (sym spells.2)
            (each_push SpellsSpoken keep.record_payloads records payload spells.0
            keep.records_spelled spells.1);
      }

  -- other cursors change nothing of what is kept
  pub keeps_cursors : (old : LogsOf D) (cursors : List ℕ) (older : List Entry)
      (records : List Spoken) → LogsKeep g old older records
      → LogsKeep g (record old { cursors = cursors }) older records
  keeps_cursors old cursors older records keep = record {
    is_open = keep.is_open;
    begins = keep.begins;
    entry_payloads = keep.entry_payloads;
    entries_keep = keep.entries_keep;
    entries_spelled = keep.entries_spelled;
    record_payloads = keep.record_payloads;
    records_keep = keep.records_keep;
    records_spelled = keep.records_spelled;
  }

  -- an append to the active journal takes the entry
  pub takes_entry : (old : LogsOf D) (active : JournalOf D) (entries : List Entry) (e : Entry)
      (n : ℕ) (payload : List ℕ) (result : Result ℕ JournalFault) → AreLogs old
      → old.closed ≡ None → IsSpelled e
      → payload ≡ entry_bytes e → length (entry_bytes e) ≤ 2 ^ 28
      → entries ≡ old.entries ++ e ∷ [] → n ≡ old.active.first + old.active.count
      → result ≡ Ok n
      → ((fault : JournalFault) → refusal old.active payload ≡ Some fault → result ≡ Err fault)
      → active ≡ appended active.disk payload old.active
      → ((payloads : List (List ℕ)) → Keeps g old.active payloads
      → Keeps g active (payloads ++ payload ∷ []))
      → g.failures active.disk ≡ g.failures old.active.disk
      → TakesEntry g old (record old { active = active; entries = entries }) e n
  takes_entry old active entries e n payload result logs is_open spelled is short longer number ok
      refused done more kept =
      let free = none_of (refusal old.active payload) n result ok refused in record {
        was_open = is_open;
        room = (short, subst (λ (p : List ℕ). refusal old.active p ≡ None) is free);
        number_is = number ∙ logs.numbered;
        few = omega (
          arith,
          number,
          logs.numbered,
          logs.few,
          number_left old.active payload (logs.active_open is_open) free,
        );
        logs_are =
            ap (λ (es : List Entry). record old { active = active; entries = es }) longer
            ∙ ap (λ (j : JournalOf D). record old { active = j; entries = old.entries ++ e ∷ [] })
            (done ∙ ap (λ (p : List ℕ). appended active.disk p old.active) is);
        keeps = keeps_entry old active entries e payload spelled is longer
            (ap (λ (j : JournalOf D). j.first) done) more;
        no_failure = kept;
      }

  -- and leaves logs as they are to be
  pub taken_sound : (old : LogsOf D) (active : JournalOf D) (entries : List Entry) (e : Entry)
      (n : ℕ) (payload : List ℕ) (result : Result ℕ JournalFault) → AreLogs old
      → old.closed ≡ None → IsSpelled e → entries ≡ old.entries ++ e ∷ [] → result ≡ Ok n
      → ((fault : JournalFault) → refusal old.active payload ≡ Some fault → result ≡ Err fault)
      → active ≡ appended active.disk payload old.active
      → AreLogs (record old { active = active; entries = entries })
  taken_sound old active entries e n payload result logs is_open spelled longer ok refused done =
      let free = none_of (refusal old.active payload) n result ok refused in
      let size : length entries ≡ length old.entries + 1 =
      ap length longer ∙ length-append old.entries (e ∷ []) in
      let first = ap (λ (j : JournalOf D). j.first) done in
      let count = ap (λ (j : JournalOf D). j.count) done in record {
        numbered = omega (arith, logs.numbered, size, first, count);
        few = omega (
          arith,
          logs.numbered,
          logs.few,
          size,
          number_left old.active payload (logs.active_open is_open) free,
        );
        spelled = subst (All IsSpelled) (sym longer)
            (All-append IsSpelled old.entries (e ∷ []) logs.spelled
            (All-from_recursion IsSpelled (e ∷ []) (spelled, tt)));
        active_open = λ still. ap (λ (j : JournalOf D). j.closed) done;
        flt_open = logs.flt_open;
      }

  -- the words at the end of the fault log, and then the cursor: the step is committed
  pub commits : (old mid : LogsOf D) (own number : ℕ) (frame : Option (List ℕ))
      (cursors : List ℕ) → old.closed ≡ None → slice_get old.cursors own ≡ Some number
      → mid ≡ record old { flt = with_frame mid.flt.disk frame old.flt }
      → CanTakeFrame old.flt frame
      → cursors ≡ slice_set mid.cursors own (number + 1)
      → ((older : List Entry) (records said : List Spoken) → Frames frame said
      → LogsKeep g old older records → LogsKeep g mid older (records ++ said))
      → g.failures mid.flt.disk ≡ g.failures old.flt.disk
      → Commits g old (record mid { cursors = cursors }) own number frame
  commits old mid own number frame cursors is_open at done room set keeps kept = record {
    was_open = is_open;
    room = room;
    cursor_is = at;
    logs_are =
        ap (λ (cs : List ℕ). record mid { cursors = cs })
        (set ∙ ap (λ (l : LogsOf D). slice_set l.cursors own (number + 1)) done)
        ∙ ap (λ (l : LogsOf D). record l {
          cursors = slice_set old.cursors own (number + 1);
        }) done;
    keeps = λ older records said frames keep.
        keeps_cursors mid cursors older (records ++ said) (keeps older records said frames keep);
    no_failure = kept;
  }
