-- A journal whose end was written on: behind the closed gate it is the same, and with the gate
-- opened it has one payload more.
use Rattle.std.proofs.Common.{◌≡◌, ◌≢◌, inl, inr, ℕ, ◌+◌, ◌<◌, List, [], ◌∷◌, ◌++◌, length, take}
use Rattle.std.proofs.Common.{drop, get_or, sym, ◌∙◌, ap, arith, length-append, append_assoc}
use Rattle.std.proofs.Common.{take-append-drop}
use Rattle.std.proofs.lemmas.List.{take_at, drop_more}
use Rattle.std.proofs.lemmas.Bool.{cases_eq}
use Rattle.fm_journal.specs.Format.{header, spelled, records, end_of, framed, IsWithin, Begins}
use Rattle.fm_journal.specs.Format.{IsJournal}
use Rattle.fm_journal.specs.Crash.{IsOldOrNew}
use Rattle.fm_journal.proofs.Records.{length-header, end_of_is, length-front, front_push}

-- the front and the gate behind it
abbrev gated : ℕ → List (List ℕ) → ℕ → List ℕ
gated first payloads gate = header first ++ (records payloads ++ gate ∷ [])

length-gated : (first : ℕ) (payloads : List (List ℕ)) (gate : ℕ)
    → length (gated first payloads gate) ≡ end_of payloads + 1
length-gated first payloads gate =
    omega (
      arith,
      end_of_is payloads,
      length-header first,
      length-append (header first) (records payloads ++ gate ∷ []),
      length-append (records payloads) (gate ∷ []),
    )

split_gate : (first : ℕ) (payloads : List (List ℕ)) (gate : ℕ) (rest : List ℕ)
    → header first ++ (records payloads ++ gate ∷ rest) ≡ gated first payloads gate ++ rest
split_gate first payloads gate rest = simp append_assoc

-- bytes that agree up to the gate and with it begin alike
pub same_front : (xs c : List ℕ) (first : ℕ) (payloads : List (List ℕ)) (gate : ℕ) (rest : List ℕ)
    → Begins xs first payloads gate rest
    → take (end_of payloads + 1) c ≡ take (end_of payloads + 1) xs
    → Begins c first payloads gate (drop (end_of payloads + 1) c)
same_front xs c first payloads gate rest begins same = record {
  bytes_are =
      let front : take (end_of payloads + 1) c ≡ gated first payloads gate =
      same ∙ ap (take (end_of payloads + 1))
      (begins.bytes_are ∙ split_gate first payloads gate rest)
      ∙ take_at (gated first payloads gate) rest (end_of payloads + 1)
      (length-gated first payloads gate) in
      sym (take-append-drop (end_of payloads + 1) c)
      ∙ ap (λ (l : List ℕ). l ++ drop (end_of payloads + 1) c) front
      ∙ sym (split_gate first payloads gate (drop (end_of payloads + 1) c));
  limits = begins.limits;
}

-- what stands behind the closed gate makes no difference
pub same_journal : (xs c : List ℕ) (first : ℕ) (payloads : List (List ℕ))
    → IsJournal xs first payloads
    → take (end_of payloads + 1) c ≡ take (end_of payloads + 1) xs → IsJournal c first payloads
same_journal xs c first payloads journal same = record {
  gate = journal.gate;
  rest = drop (end_of payloads + 1) c;
  closed = journal.closed;
  begins = same_front xs c first payloads journal.gate journal.rest journal.begins same;
}

-- the front without the gate
pub front_is : (xs : List ℕ) (first : ℕ) (payloads : List (List ℕ)) (gate : ℕ) (rest : List ℕ)
    → Begins xs first payloads gate rest
    → take (end_of payloads) xs ≡ header first ++ records payloads
front_is xs first payloads gate rest begins =
    ap (take (end_of payloads))
    (begins.bytes_are ∙ sym (append_assoc (header first) (records payloads) (gate ∷ rest)))
    ∙ take_at (header first ++ records payloads) (gate ∷ rest) (end_of payloads)
    (length-front first payloads)

pub length_begins : (xs : List ℕ) (first : ℕ) (payloads : List (List ℕ)) (gate : ℕ) (rest : List ℕ)
    → Begins xs first payloads gate rest
    → length xs ≡ end_of payloads + 1 + length rest
length_begins xs first payloads gate rest begins =
    omega (
      arith,
      ap length (begins.bytes_are ∙ split_gate first payloads gate rest),
      length-append (gated first payloads gate) rest,
      length-gated first payloads gate,
    )

-- an open gate before a framed is the record, and a closed gate behind it
framed_is_record : (payload after : List ℕ)
    → 1 ∷ (framed payload ++ after) ≡ spelled payload ++ 0 ∷ after
unfolding framed spelled
framed_is_record payload after = ap (λ (l : List ℕ). 1 ∷ l) (simp append_assoc)

module _ (c : List ℕ) (first : ℕ) (payloads : List (List ℕ)) (payload after : List ℕ)
    (front : take (end_of payloads) c ≡ header first ++ records payloads)
    (inside : end_of payloads < length c)
    (behind : drop (end_of payloads + 1) c ≡ framed payload ++ after) where
  whole : c ≡ header first
      ++ (records payloads ++ (get_or c (end_of payloads) 0 ∷ (framed payload ++ after)))
  whole =
      sym (take-append-drop (end_of payloads) c)
      ∙ ap (λ (l : List ℕ). l ++ drop (end_of payloads) c) front
      ∙ ap (λ (l : List ℕ). (header first ++ records payloads) ++ l)
      (drop_more c (end_of payloads) 0 inside
      ∙ ap (λ (l : List ℕ). get_or c (end_of payloads) 0 ∷ l) behind)
      ∙ append_assoc (header first) (records payloads)
      (get_or c (end_of payloads) 0 ∷ (framed payload ++ after))

  -- a framed behind an open gate is one payload more
  pub opened : get_or c (end_of payloads) 0 ≡ 1 → IsWithin first (payloads ++ payload ∷ [])
      → IsJournal c first (payloads ++ payload ∷ [])
  opened is limits = record {
    gate = 0;
    rest = after;
    closed = λ e. omega (arith, e);
    begins = record {
      bytes_are =
          whole
          ∙ ap (λ (g : ℕ). header first ++ (records payloads ++ (g ∷ (framed payload ++ after)))) is
          ∙ ap (λ (l : List ℕ). header first ++ (records payloads ++ l))
          (framed_is_record payload after)
          ∙ sym (front_push first payloads payload (0 ∷ after));
      limits = limits;
    };
  }

  -- and behind a closed one it isn't read
  pub shut : get_or c (end_of payloads) 0 ≢ 1 → IsWithin first payloads → IsJournal c first payloads
  shut is limits = record {
    gate = get_or c (end_of payloads) 0;
    rest =
        framed payload ++ after;
    closed = is;
    begins = record { bytes_are = whole; limits = limits };
  }

  pub either : IsWithin first payloads → IsWithin first (payloads ++ payload ∷ [])
      → IsOldOrNew first payloads payload c
  either old new = elim (cases_eq (get_or c (end_of payloads) 0) 1)
      [ inl is ↦ inr (opened is new) | inr is ↦ inl (shut is old) ]
