-- Reading a disk through, from its header from record to record.
use Rattle.std.proofs.Common.{◌≡◌, inl, inr, ℕ, ◌+◌, ◌<◌, ◌≤◌, ◌^◌, List, [], ◌∷◌, ◌++◌, length}
use Rattle.std.proofs.Common.{take, drop, get_or, refl, sym, ◌∙◌, ap, subst, arith, length-append}
use Rattle.std.proofs.Common.{append_assoc, take-append-drop}
use Rattle.std.proofs.lemmas.List.{take_at, drop_at, append_cancel_left, get_or_push}
use Rattle.byteorder.specs.Endian.{big_bytes}
use Rattle.fm_journal.specs.Format.{header, spelled, records, end_of, IsWithin, Begins, IsJournal}
use Rattle.fm_journal.specs.Damage.{IsBadAfter, IsDamagedAt}
use Rattle.fm_journal.specs.Look.{IsRecordAt, Shows, IsReached, IsFound}
use Rattle.fm_journal.specs.declared.look.Look.TheVariants.{Shut, Record, Bad}
use Rattle.fm_journal.proofs.Records.{length-header, end_of_nil, end_of_push, length-front}
use Rattle.fm_journal.proofs.Records.{records_append, front_push, within_push, within_front}
use Rattle.fm_journal.proofs.Uniqueness.{same_header, reads_on}

-- a header stands at the front
pub reached_start : (bytes : List ℕ) (first : ℕ) → first < 2 ^ 46 → take 16 bytes ≡ header first
    → IsReached bytes first 16 0
reached_start bytes first fits front = record {
  payloads = [];
  at_end = sym end_of_nil;
  counted = refl;
  limits = record {
    first_fits = fits;
    counted = omega arith;
    numbered = omega arith;
    sized =
        omega (arith, end_of_nil);
    short = λ k d below. absurd (omega arith);
  };
  so_far = sym (take-append-drop 16 bytes) ∙ ap (λ (l : List ℕ). l ++ drop 16 bytes) front;
}

module _ (bytes : List ℕ) (first at count : ℕ) (reached : IsReached bytes first at count) where
  -- what stands at the place, behind the records before it
  begins_with : (gate : ℕ) (rest : List ℕ) → drop at bytes ≡ gate ∷ rest
      → Begins bytes first reached.payloads gate rest
  begins_with gate rest is = record {
    bytes_are = reached.so_far
        ∙ ap (λ (l : List ℕ). header first ++ (records reached.payloads ++ l)) is;
    limits = reached.limits;
  }

  pub found_closed : Shows bytes at Shut → IsFound bytes first count at
  found_closed shows = record {
    payloads = reached.payloads;
    counted = reached.counted;
    ends = reached.at_end;
    journal = record {
      gate = shows.0;
      rest = shows.1;
      closed = shows.2;
      begins =
          begins_with shows.0 shows.1 shows.3;
    };
  }

  -- a further record stands at the place wherever the bytes begin with one payload more
  record_at : (payload : List ℕ) (gate : ℕ) (after : List ℕ)
      → Begins bytes first (reached.payloads ++ payload ∷ []) gate after
      → IsRecordAt bytes at payload gate after
  record_at payload gate after begins = record {
    stands = append_cancel_left (records reached.payloads) _ _
        (append_cancel_left (header first) _ _ (sym reached.so_far ∙ begins.bytes_are
        ∙ front_push first reached.payloads payload (gate ∷ after)));
    short = last_short reached.payloads payload begins.limits.short;
    sized = omega (
      arith,
      begins.limits.sized,
      end_of_push reached.payloads payload,
      reached.at_end,
    );
  }
    where
      last_short : (ps : List (List ℕ)) (p : List ℕ)
          → ((k : ℕ) (d : List ℕ) → k < length (ps ++ p ∷ [])
          → length (get_or (ps ++ p ∷ []) k d) ≤ 2 ^ 28) → length p ≤ 2 ^ 28
      last_short ps p short =
          subst (λ (q : List ℕ). length q ≤ 2 ^ 28) (get_or_push ps p [] (length ps) refl)
          (short (length ps) [] (omega (arith, length-append ps (p ∷ []))))

  -- one record on
  pub reached_more : (next : ℕ) → Shows bytes at (Record next) → count + 1 < 2 ^ 32
      → first + count < 2 ^ 46 → IsReached bytes first next (count + 1)
  reached_more next shows counts numbers =
      let payload = shows.0 in
      let there = shows.4 in
      let front : bytes ≡ header first
      ++ (records (reached.payloads ++ payload ∷ []) ++ (shows.1 ∷ shows.2)) =
      reached.so_far ∙ ap (λ (l : List ℕ). header first ++ (records reached.payloads ++ l))
      there.stands ∙ sym (front_push first reached.payloads payload (shows.1 ∷ shows.2)) in
      let ends : next ≡ end_of (reached.payloads ++ payload ∷ []) =
      omega (arith, shows.3, end_of_push reached.payloads payload, reached.at_end) in
      let rest : drop next bytes ≡ shows.1 ∷ shows.2 =
      ap (drop next) (front
      ∙ sym (append_assoc (header first) (records (reached.payloads ++ payload ∷ []))
      (shows.1 ∷ shows.2)))
      ∙ drop_at (header first ++ records (reached.payloads ++ payload ∷ [])) (shows.1 ∷ shows.2)
      next (length-front first (reached.payloads ++ payload ∷ []) ∙ sym ends) in
      record {
        payloads = reached.payloads ++ payload ∷ [];
        at_end = ends;
        counted = omega (arith, reached.counted, length-append reached.payloads (payload ∷ []));
        limits = within_push first reached.payloads payload reached.limits
            (omega (arith, reached.counted)) (omega (arith, reached.counted))
            (omega (arith, there.sized, reached.at_end)) there.short;
        so_far = front ∙ ap (λ (l : List ℕ). header first
            ++ (records (reached.payloads ++ payload ∷ []) ++ l)) (sym rest);
      }

-- records and a gate begin with a gate
pub gate_first : (payloads : List (List ℕ)) (g : ℕ) (r : List ℕ) → (gate : ℕ) × (after : List ℕ)
    × (records payloads ++ g ∷ r ≡ gate ∷ after)
unfolding spelled
gate_first [] g r = (g, r, refl)
gate_first (p ∷ payloads) g r =
    (1, (big_bytes 4 (length p) ++ p ++ records payloads) ++ g ∷ r, refl)

-- a record begins with an open gate
open_gate : (p rest : List ℕ) → spelled p ++ rest ≡ 1 ∷ ((big_bytes 4 (length p) ++ p) ++ rest)
unfolding spelled
open_gate p rest = refl

-- where a bad record stands there is no journal
pub no_journal : (bytes : List ℕ) (first other : ℕ) (payloads others : List (List ℕ))
    → IsBadAfter bytes first payloads → IsJournal bytes other others → ⊥
no_journal bytes first other payloads others bad journal =
    let same = sym bad.begins.bytes_are ∙ journal.begins.bytes_are in
    let heads = same_header first other (records payloads ++ 1 ∷ bad.rest)
    (records others ++ journal.gate ∷ journal.rest) bad.begins.limits.first_fits
    journal.begins.limits.first_fits same in
    let on = reads_on payloads others journal.gate bad.rest journal.rest bad.begins.limits.short
    journal.begins.limits.short journal.closed heads.1 in
    let payload = on.0 in
    let more = on.1 in
    let split : others ≡ (payloads ++ payload ∷ []) ++ more = on.2
    ∙ sym (append_assoc payloads (payload ∷ []) more) in
    let tail = gate_first more journal.gate journal.rest in
    let limits : IsWithin first (payloads ++ payload ∷ []) =
    within_front first (payloads ++ payload ∷ []) more
    (subst (λ (l : List (List ℕ)). IsWithin first l) split
    (subst (λ (f : ℕ). IsWithin f others) (sym heads.0) journal.begins.limits)) in
    let records_are : records others ++ journal.gate ∷ journal.rest
    ≡ records (payloads ++ payload ∷ []) ++ tail.0 ∷ tail.1 =
    ap (λ (l : List (List ℕ)). records l ++ journal.gate ∷ journal.rest) split
    ∙ ap (λ (l : List ℕ). l ++ journal.gate ∷ journal.rest)
    (records_append (payloads ++ payload ∷ []) more)
    ∙ append_assoc (records (payloads ++ payload ∷ [])) (records more) (journal.gate ∷ journal.rest)
    ∙ ap (λ (l : List ℕ). records (payloads ++ payload ∷ []) ++ l) tail.2 in
    bad.bad payload tail.0 tail.1 (record {
      bytes_are = journal.begins.bytes_are
          ∙ ap (λ (f : ℕ). header f ++ (records others ++ journal.gate ∷ journal.rest))
          (sym heads.0) ∙ ap (λ (l : List ℕ). header first ++ l) records_are;
      limits = limits;
    })

damaged : (bytes : List ℕ) (first : ℕ) (payloads : List (List ℕ)) → IsBadAfter bytes first payloads
    → IsDamagedAt bytes (end_of payloads)
damaged bytes first payloads bad = record {
  none = λ other others journal. no_journal bytes first other payloads others bad journal;
  there = inr (first, payloads, refl, bad);
}

module _ (bytes : List ℕ) (first at count : ℕ) (reached : IsReached bytes first at count) where
  at_place : IsDamagedAt bytes (end_of reached.payloads) → IsDamagedAt bytes at
  at_place there = subst (λ (place : ℕ). IsDamagedAt bytes place) (sym reached.at_end) there

  -- an open gate with no record behind it
  pub damaged_record : Shows bytes at Bad → IsDamagedAt bytes at
  damaged_record shows = at_place (damaged bytes first reached.payloads (record {
    rest = shows.0;
    begins = begins_with bytes first at count reached 1 shows.0 shows.1;
    bad = λ payload gate after begins.
        shows.2 payload gate after
        (record_at bytes first at count reached payload gate after begins);
  }))

  -- a record too many
  pub damaged_count : (next : ℕ) → Shows bytes at (Record next)
      → (count + 1 < 2 ^ 32 → first + count < 2 ^ 46 → ⊥) → IsDamagedAt bytes at
  damaged_count next shows many =
      at_place (damaged bytes first reached.payloads (record {
        rest = (big_bytes 4 (length shows.0) ++ shows.0) ++ shows.1 ∷ shows.2;
        begins = begins_with bytes first at count reached 1
            ((big_bytes 4 (length shows.0) ++ shows.0) ++ shows.1 ∷ shows.2)
            (shows.4.stands ∙ open_gate shows.0 (shows.1 ∷ shows.2));
        bad = λ payload gate after begins. many
            (omega (
              arith,
              begins.limits.counted,
              length-append reached.payloads (payload ∷ []),
              reached.counted,
            ))
            (omega (
              arith,
              begins.limits.numbered,
              length-append reached.payloads (payload ∷ []),
              reached.counted,
            ));
      }))

-- without a header there is no journal
pub damaged_header : (bytes : List ℕ)
    → ((first : ℕ) → first < 2 ^ 46 → 16 < length bytes → take 16 bytes ≡ header first → ⊥)
    → IsDamagedAt bytes 0
damaged_header bytes none = record {
  none = λ first payloads journal. no_header first (records payloads ++ journal.gate ∷ journal.rest)
      journal.begins.limits.first_fits (longer payloads journal.gate journal.rest)
      journal.begins.bytes_are;
  there = inl (
    refl,
    λ first gate rest begins.
        no_header first (gate ∷ rest) begins.limits.first_fits (omega arith) begins.bytes_are,
  );
}
  where
    longer : (payloads : List (List ℕ)) (gate : ℕ) (rest : List ℕ)
        → 0 < length (records payloads ++ gate ∷ rest)
    longer payloads gate rest = omega (arith, length-append (records payloads) (gate ∷ rest))

    no_header : (first : ℕ) (rest : List ℕ) → first < 2 ^ 46 → 0 < length rest
        → bytes ≡ header first ++ rest → ⊥
    no_header first rest fits some is =
        none first fits (omega (
          arith,
          ap length is,
          length-append (header first) rest,
          length-header first,
        ))
        (ap (take 16) is ∙ take_at (header first) rest 16 (length-header first))
