-- The record at a place of a journal, and what was read of a disk last.
use Rattle.std.proofs.Common.{◌≡◌, ◌≢◌, inl, inr, ℕ, ◌+◌, ◌-◌, ◌≤◌, ◌^◌, List, [], ◌∷◌, ◌++◌}
use Rattle.std.proofs.Common.{length, take}
use Rattle.std.proofs.Common.{drop, Option, Some, None, refl, sym, ◌∙◌, ap, subst, arith}
use Rattle.std.proofs.Common.{length-append, length-drop, append_assoc, take-append-drop}
use Rattle.std.specs.Prelude.{slice_get}
use Rattle.std.specs.Option.{option_map}
use Rattle.std.proofs.lemmas.List.{take_at, drop_at, drop-drop, take_all, take_more}
use Rattle.std.proofs.lemmas.List.{drop_more, length-take-le}
use Rattle.std.proofs.lemmas.Option.{slice_get_within, slice_get_cases, get_or_from_slice_get}
use Rattle.byteorder.specs.Endian.{big_bytes}
use Rattle.fm_outer.specs.Bytes.{range}
use Rattle.fm_outer.specs.Moments.{OnlyRead}
use Rattle.fm_outer.specs.declared.disk.Disk.{Ghosts}
use Rattle.fm_outer.proofs.Numbers.{length-big_bytes}
use Rattle.fm_outer.proofs.Ranges.{range-range, range-take}
use Rattle.fm_journal.specs.Format.{header, spelled, records, end_of, IsJournal}
use Rattle.fm_journal.specs.JournalOf.{JournalOf}
use Rattle.fm_journal.specs.Keeps.{Keeps}
use Rattle.fm_journal.specs.Look.{IsRecordAt, HasRecord, HasNoRecord, AnyLength, Shows}
use Rattle.fm_journal.specs.declared.look.Look.TheVariants.{Record}
use Rattle.fm_journal.proofs.Records.{length-spelled, end_of_is, end_of_push}
use Rattle.fm_journal.proofs.Records.{length-front, records_append}
use Rattle.fm_journal.proofs.Looking.{record_long}
use Rattle.fm_journal.proofs.Uniqueness.{same_record, record_begins}
use Rattle.fm_journal.proofs.Walking.{gate_first}

-- what a piece holds from a place on stands on the disk there
pub piece_range : (start at n : ℕ) (bytes held : List ℕ) → start ≤ at
    → at + n ≤ start + length held → range start (length held) bytes ≡ held
    → range at n bytes ≡ take n (drop (at - start) held)
piece_range start at n bytes held after before is =
    let i = at - start in
    let there : start + i ≡ at = omega (arith, after) in
    ap (λ (m : ℕ). range m n bytes) (sym there)
    ∙ sym (range-range start (length held) i n bytes (omega (arith, after, before)))
    ∙ ap (λ (l : List ℕ). take n (drop i l)) is

-- what was read from a place on stands there up to a later place, too
pub prefix_front : (bytes front : List ℕ) (at n size : ℕ) → range at n bytes ≡ take n front
    → at + n ≤ size → size ≤ length bytes
    → range at (length (take n front)) (take size bytes) ≡ take n front
prefix_front bytes front at n size is within inside =
    let long : length (take n front) ≡ n = ap length (sym is)
    ∙ length-take-le n (drop at bytes) (omega (arith, within, inside, length-drop at bytes)) in
    ap (λ (k : ℕ). range at k (take size bytes)) long ∙ range-take at n size bytes within ∙ is

-- a list up to an element, the element, and what follows it
pub split_at : {X : Type 0} (xs : List X) (k : ℕ) (x : X) → slice_get xs k ≡ Some x
    → xs ≡ take k xs ++ x ∷ drop (k + 1) xs
split_at xs k x is =
    let inside = slice_get_within xs k x is in
    sym (take-append-drop k xs)
    ∙ ap (λ (l : List _). take k xs ++ l) (drop_more xs k x inside)
    ∙ ap (λ (y : _). take k xs ++ y ∷ drop (k + 1) xs) (get_or_from_slice_get xs k x x is)

pub take_next : {X : Type 0} (xs : List X) (k : ℕ) (x : X) → slice_get xs k ≡ Some x
    → take (k + 1) xs ≡ take k xs ++ x ∷ []
take_next xs k x is =
    take_more xs k x (slice_get_within xs k x is)
    ∙ ap (λ (y : _). take k xs ++ y ∷ []) (get_or_from_slice_get xs k x x is)

-- the place behind a record
pub next_place : (payloads : List (List ℕ)) (k : ℕ) (payload : List ℕ)
    → slice_get payloads k ≡ Some payload
    → end_of (take (k + 1) payloads) ≡ end_of (take k payloads) + 5 + length payload
next_place payloads k payload is =
    ap end_of (take_next payloads k payload is) ∙ end_of_push (take k payloads) payload

-- what follows a record is not before the end
pub inside_end : (payloads : List (List ℕ)) (k : ℕ) (payload : List ℕ)
    → slice_get payloads k ≡ Some payload
    → end_of (take k payloads) + 5 + length payload ≤ end_of payloads
inside_end payloads k payload is =
    let more = drop (k + 1) payloads in
    let whole : records payloads
    ≡ records (take k payloads) ++ (spelled payload ++ records more) =
    ap records (split_at payloads k payload is)
    ∙ records_append (take k payloads) (payload ∷ more) in
    omega (
      arith,
      ap length whole,
      end_of_is payloads,
      end_of_is (take k payloads),
      length-append (records (take k payloads)) (spelled payload ++ records more),
      length-append (spelled payload) (records more),
      length-spelled payload,
    )

module _ (bytes : List ℕ) (first : ℕ) (payloads : List (List ℕ))
    (journal : IsJournal bytes first payloads) where
  -- a journal up to the gate at its end
  front_is : take (end_of payloads + 1) bytes
      ≡ (header first ++ records payloads) ++ journal.gate ∷ []
  front_is =
      let whole : bytes ≡ ((header first ++ records payloads) ++ journal.gate ∷ [])
      ++ journal.rest =
      journal.begins.bytes_are ∙ simp append_assoc in
      ap (take (end_of payloads + 1)) whole
      ∙ take_at ((header first ++ records payloads) ++ journal.gate ∷ []) journal.rest
      (end_of payloads + 1)
      (omega (
        arith,
        length-front first payloads,
        length-append (header first ++ records payloads) (journal.gate ∷ []),
      ))

  -- each payload's record stands at its place
  pub record_there : (k : ℕ) (payload : List ℕ) → slice_get payloads k ≡ Some payload
      → (gate : ℕ) × (rest : List ℕ)
      × IsRecordAt (take (end_of payloads + 1) bytes) (end_of (take k payloads)) payload gate rest
  record_there k payload is =
      let front = take k payloads in
      let more = drop (k + 1) payloads in
      let tail = gate_first more journal.gate [] in
      let whole : take (end_of payloads + 1) bytes
      ≡ (header first ++ records front)
      ++ (spelled payload ++ (records more ++ journal.gate ∷ [])) =
      front_is
      ∙ ap (λ (l : List ℕ). (header first ++ l) ++ journal.gate ∷ [])
      (ap records (split_at payloads k payload is) ∙ records_append front (payload ∷ more))
      ∙ simp append_assoc in
      let there : drop (end_of front) (take (end_of payloads + 1) bytes)
      ≡ spelled payload ++ (records more ++ journal.gate ∷ []) =
      ap (drop (end_of front)) whole
      ∙ drop_at (header first ++ records front)
      (spelled payload ++ (records more ++ journal.gate ∷ [])) (end_of front)
      (length-front first front) in (
        tail.0,
        tail.1,
        record {
          stands = there ∙ ap (λ (l : List ℕ). spelled payload ++ l) tail.2;
          short = subst (λ (p : List ℕ). length p ≤ 2 ^ 28)
              (get_or_from_slice_get payloads k payload [] is)
              (journal.begins.limits.short k [] (slice_get_within payloads k payload is));
          sized = omega (
            arith,
            inside_end payloads k payload is,
            journal.begins.limits.sized,
          );
        },
      )

-- at one place stands one record at most
pub same_there : (bytes : List ℕ) (at : ℕ) (p q : List ℕ) (g h : ℕ) (x y : List ℕ)
    → IsRecordAt bytes at p g x → IsRecordAt bytes at q h y → p ≡ q
same_there bytes at p q g h x y one other =
    (same_record p q (g ∷ x) (h ∷ y) one.short other.short (sym one.stands ∙ other.stands)).0

-- behind the gate and the length stands the payload
behind_length : (payload rest : List ℕ) → drop 5 (spelled payload ++ rest) ≡ payload ++ rest
unfolding spelled
behind_length payload rest =
    ap (drop 5) (append_assoc (1 ∷ big_bytes 4 (length payload)) payload rest)
    ∙ drop_at (1 ∷ big_bytes 4 (length payload)) (payload ++ rest) 5
    (omega (arith, length-big_bytes 4 (length payload)))

pub payload_there : (bytes : List ℕ) (at : ℕ) (payload : List ℕ) (gate : ℕ) (rest : List ℕ)
    → IsRecordAt bytes at payload gate rest → range (at + 5) (length payload) bytes ≡ payload
payload_there bytes at payload gate rest there =
    ap (take (length payload))
    (sym (drop-drop 5 at bytes) ∙ ap (drop 5) there.stands
    ∙ behind_length payload (gate ∷ rest))
    ∙ take_at payload (gate ∷ rest) (length payload) refl

-- a closed gate has no record behind it
pub shut_no_record : (bytes : List ℕ) (at gate : ℕ) (rest : List ℕ) → gate ≢ 1
    → drop at bytes ≡ gate ∷ rest → HasNoRecord AnyLength bytes at
shut_no_record bytes at gate rest closed stands payload behind after any there =
    closed (record_begins payload (behind ∷ after) rest gate (sym stands ∙ there.stands))

-- past the end is none
pub past_no_record : (bytes : List ℕ) (at : ℕ) → length bytes ≤ at → HasNoRecord AnyLength bytes at
past_no_record bytes at past payload gate rest any there =
    omega (arith, record_long bytes at payload gate rest there, past)

-- a record that is shown is the one that stands there
pub shown_is : (bytes : List ℕ) (at next : ℕ) (payload : List ℕ) (gate : ℕ) (rest : List ℕ)
    → Shows bytes at (Record next) → IsRecordAt bytes at payload gate rest
    → next ≡ at + 5 + length payload
shown_is bytes at next payload gate rest shows there =
    let same = same_there bytes at shows.0 payload shows.1 gate shows.2 rest shows.4 there in
    omega (arith, shows.3, ap length same)

-- a record that is shown stands there, with just so many bytes behind its length
pub shown_stands : (bytes : List ℕ) (at next end : ℕ) → next ≤ end
    → Shows (take (end + 1) bytes) at (Record next)
    → HasRecord (λ payload. (length payload ≡ next - at - 5)
    × (range (at + 5) (next - at - 5) bytes ≡ payload)) (take (end + 1) bytes) at
shown_stands bytes at next end within shows =
    let long : length shows.0 ≡ next - at - 5 = omega (arith, shows.3) in (
      shows.0,
      shows.1,
      shows.2,
      (
        long,
        ap (λ (n : ℕ). range (at + 5) n bytes) (sym long)
            ∙ sym (range-take (at + 5) (length shows.0) (end + 1) bytes
            (omega (arith, shows.3, within)))
            ∙ payload_there (take (end + 1) bytes) at shows.0 shows.1 shows.2 shows.4,
      ),
      shows.4,
    )

-- behind the last record there is none
pub none_at_end : (payloads : List (List ℕ)) (k : ℕ)
    → end_of (take k payloads) ≡ end_of payloads
    → None ≡ option_map length (slice_get payloads k)
none_at_end payloads k same = go (slice_get payloads k) refl
  where
    go : (o : Option (List ℕ)) → slice_get payloads k ≡ o → None ≡ option_map length o
    go None is = refl
    go (Some payload) is = absurd (omega (arith, inside_end payloads k payload is, same))

module _ {D : Type 0} (g : Ghosts D) (journal : JournalOf D) (payloads : List (List ℕ))
    (keeps : Keeps g journal payloads) where
  -- each payload that is kept has its record at its place
  pub record_kept : (k : ℕ) (payload : List ℕ) → slice_get payloads k ≡ Some payload
      → (gate : ℕ) × (rest : List ℕ)
      × IsRecordAt (take (journal.end + 1) keeps.told.0) (end_of (take k payloads)) payload gate
      rest
  record_kept k payload is =
      rw keeps.ends (record_there keeps.told.0 journal.first payloads keeps.told.2 k payload is)

  -- so what is shown there ends where the next one begins
  pub next_kept : (k next : ℕ) (payload : List ℕ) → slice_get payloads k ≡ Some payload
      → Shows (take (journal.end + 1) keeps.told.0) (end_of (take k payloads)) (Record next)
      → next ≡ end_of (take k payloads) + 5 + length payload
  next_kept k next payload is shows =
      let there = record_kept k payload is in
      shown_is (take (journal.end + 1) keeps.told.0) (end_of (take k payloads)) next payload there.0
      there.1 shows there.2

  -- at a place of the list before the end stands the record of one of its payloads
  pub size_kept : (k next : ℕ) → end_of (take k payloads) ≢ journal.end
      → Shows (take (journal.end + 1) keeps.told.0) (end_of (take k payloads)) (Record next)
      → Some (next - end_of (take k payloads) - 5) ≡ option_map length (slice_get payloads k)
  size_kept k next before shows = elim (slice_get_cases payloads k).1 [
    | inl there ↦ rw there.2
        (ap (λ (n : ℕ). Some n) (omega (arith, next_kept k next there.0 there.2 shows)))
    | inr past ↦ absurd (before (ap end_of (take_all k payloads past.0) ∙ sym keeps.ends))
  ]

  -- and no record fits where a payload that is kept doesn't
  pub never_damaged : (Fits : ℕ → Type 0) (k : ℕ) (payload : List ℕ)
      → slice_get payloads k ≡ Some payload → Fits (length payload)
      → HasNoRecord Fits (take (journal.end + 1) keeps.told.0) (end_of (take k payloads)) → ⊥
  never_damaged Fits k payload is fits none =
      let there = record_kept k payload is in none payload there.0 there.1 fits there.2

  -- a payload that is kept stands behind its gate and its length
  pub payload_kept : (k : ℕ) (payload : List ℕ) → slice_get payloads k ≡ Some payload
      → range (end_of (take k payloads) + 5) (length payload) keeps.told.0 ≡ payload
  payload_kept k payload is =
      let there = record_kept k payload is in
      sym (range-take (end_of (take k payloads) + 5) (length payload) (journal.end + 1)
      keeps.told.0 (omega (arith, inside_end payloads k payload is, keeps.ends)))
      ∙ payload_there (take (journal.end + 1) keeps.told.0) (end_of (take k payloads)) payload
      there.0 there.1 there.2

  -- what only reads keeps what is kept
  pub keeps_read : (disk : D) → OnlyRead g journal.disk disk
      → Keeps g (record journal { disk = disk }) payloads
  keeps_read disk still = record {
    is_open = keeps.is_open;
    counted = keeps.counted;
    ends = keeps.ends;
    told = (keeps.told.0, still.same ∙ keeps.told.1, keeps.told.2);
    left = λ image now. keeps.left image (still.no_more image now);
  }
