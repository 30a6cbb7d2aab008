-- A payload that a journal keeps, read at its place.
use Rattle.std.proofs.Common.{◌≡◌, inl, inr, ℕ, ◌+◌, ◌<◌, ◌≤◌, List, length, take}
use Rattle.std.proofs.Common.{Some, None, sym, ◌∙◌, ap, subst, arith}
use Rattle.std.specs.Prelude.{slice_get}
use Rattle.std.specs.Option.{option_map}
use Rattle.std.proofs.lemmas.List.{take_all, length-take-le}
use Rattle.std.proofs.lemmas.Option.{slice_get_cases}
use Rattle.fm_outer.specs.Moments.{OnlyRead}
use Rattle.fm_outer.specs.declared.disk.Disk.{Ghosts}
use Rattle.fm_journal.specs.Causes.{PlaceCause}
use Rattle.fm_journal.specs.Format.{end_of}
use Rattle.fm_journal.specs.JournalOf.{JournalOf}
use Rattle.fm_journal.specs.Keeps.{Keeps}
use Rattle.fm_journal.specs.Look.{AnyLength, HasNoRecord}
use Rattle.fm_journal.specs.Reads.{ReadsAt}
use Rattle.fm_journal.specs.declared.fault.JournalFault.{JournalFault}
use Rattle.fm_journal.specs.declared.fault.JournalFault.TheVariants.{Disk, Full, Damaged, Closed}
use Rattle.fm_journal.proofs.Places.{keeps_read, never_damaged, inside_end, next_place}
use Rattle.fm_payloads.specs.Reading.{IsPayloadIn, PayloadCause, reading_fault}

-- payloads that reach the end of the list are all of it
pub whole_list : (payloads : List (List ℕ)) (k : ℕ) → end_of payloads ≤ end_of (take k payloads)
    → take k payloads ≡ payloads
whole_list payloads k past = elim (slice_get_cases payloads k).1 [
  | inl there ↦ absurd (omega (arith, past, inside_end payloads k there.0 there.2))
  | inr beyond ↦ take_all k payloads beyond.0
]

module _ {D : Type 0} (g : Ghosts D) where
  -- what was only read keeps what it kept
  pub keeps_now : (old now : JournalOf D) (payloads : List (List ℕ))
      → now ≡ record old { disk = now.disk } → OnlyRead g old.disk now.disk
      → Keeps g old payloads → Keeps g now payloads
  keeps_now old now payloads same still keeps =
      subst (λ (j : JournalOf D). Keeps g j payloads) (sym same)
      (keeps_read g old payloads keeps now.disk still)

  module _ (journal : JournalOf D) (place : ℕ) (before : place < journal.end) where
    -- before the end stands a payload
    pub payload_here : (payloads : List (List ℕ)) (k : ℕ) → Keeps g journal payloads
        → place ≡ end_of (take k payloads)
        → (payload : List ℕ) × (slice_get payloads k ≡ Some payload)
    payload_here payloads k keeps at = elim (slice_get_cases payloads k).1 [
      | inl there ↦ (there.0, there.2)
      | inr beyond ↦ absurd (omega (
        arith,
        before,
        at,
        keeps.ends,
        ap end_of (take_all k payloads beyond.0),
      ))
    ]

    -- a fault of an open journal at that place
    pub payload_cause : (fault : JournalFault) (new : JournalOf D) → journal.closed ≡ None
        → PlaceCause g AnyLength place journal (g.failures new.disk) fault
        → PayloadCause g place journal new (reading_fault fault)
    payload_cause Disk new is_open cause = cause
    payload_cause (Full kind) new is_open cause = absurd cause
    payload_cause (Closed failures) new is_open cause = absurd (differ (sym is_open ∙ cause.1))
      where
        differ : None ≡ Some failures → ⊥
        differ same = cc same
    payload_cause (Damaged at) new is_open cause = λ payloads k keeps is.
        let there = payload_here payloads k keeps is in
        never_damaged g journal payloads keeps AnyLength k there.0 there.1 tt
        (subst (λ (n : ℕ). HasNoRecord AnyLength (take (journal.end + 1) keeps.told.0) n) is
        (cause.2 keeps.told.0 keeps.told.1))

  module _ (journal : JournalOf D) (place room size : ℕ) (buffer : List ℕ)
      (reads : ReadsAt g journal place room buffer (Some size)) where
    -- the payload has so many bytes
    pub size_read : (payloads : List (List ℕ)) (k : ℕ) → Keeps g journal payloads
        → place ≡ end_of (take k payloads)
        → (payload : List ℕ) × (slice_get payloads k ≡ Some payload) × (size ≡ length payload)
    size_read payloads k keeps at =
        let before : place < journal.end = omega (arith, reads.within) in
        let there = payload_here journal place before payloads k keeps at in (
          there.0,
          there.1,
          same_size there.0
              (reads.size_is payloads k keeps at ∙ ap (option_map length) there.1),
        )
      where
        same_size : (payload : List ℕ) → Some size ≡ Some (length payload) → size ≡ length payload
        same_size payload same = cc same

    pub payload_in : size ≤ room → size ≤ length buffer → IsPayloadIn g journal place size buffer
    payload_in fits inside = record {
      room = inside;
      within = reads.within;
      there = λ payloads k keeps at.
          let sized = size_read payloads k keeps at in
          sized.1 ∙ ap (λ (p : List ℕ). Some p)
          (sym (reads.payload_is payloads k sized.0 keeps at sized.1
          (omega (arith, fits, sized.2)))
          ∙ ap (λ (n : ℕ). take n buffer) (sym sized.2));
    }

  module _ (old now : JournalOf D) (same : now ≡ record old { disk = now.disk })
      (still : OnlyRead g old.disk now.disk) where
    -- the same of the journal from before it was read
    pub payload_in_before : (place size : ℕ) (buffer : List ℕ)
        → IsPayloadIn g now place size buffer → IsPayloadIn g old place size buffer
    payload_in_before place size buffer here = record {
      room = here.room;
      within = subst (λ (j : JournalOf D). place + 5 + size ≤ j.end) same here.within;
      there = λ payloads k keeps at.
          here.there payloads k (keeps_now old now payloads same still keeps) at;
    }

    -- it has one size at both times
    pub same_size_read : (place room one later again : ℕ) (first second : List ℕ)
        → ReadsAt g old place room first (Some one) → ReadsAt g now place later second (Some again)
        → (payloads : List (List ℕ)) (k : ℕ) → Keeps g old payloads
        → place ≡ end_of (take k payloads) → again ≡ one
    same_size_read place room one later again first second before after payloads k keeps at =
        let a = size_read old place room one first before payloads k keeps at in
        let b = size_read now place later again second after payloads k
        (keeps_now old now payloads same still keeps) at in
        b.2 ∙ one_length b.0 a.0 (sym b.1 ∙ a.1) ∙ sym a.2
      where
        one_length : (p q : List ℕ) → Some p ≡ Some q → length p ≡ length q
        one_length p q is = cc is

-- a payload behind others, and the place behind it
pub next_after : (payloads : List (List ℕ)) (k place size : ℕ) (buffer : List ℕ)
    → place ≡ end_of (take k payloads) → slice_get payloads k ≡ Some (take size buffer)
    → size ≤ length buffer → place + 5 + size ≡ end_of (take (k + 1) payloads)
next_after payloads k place size buffer at is inside =
    omega (
      arith,
      at,
      next_place payloads k (take size buffer) is,
      length-take-le size buffer inside,
    )
