-- What an append leaves, whole and at each moment.
use Rattle.std.proofs.Common.{◌≡◌, inl, inr, ℕ, ◌+◌, ◌<◌, List, [], ◌∷◌, ◌++◌, length, take, drop}
use Rattle.std.proofs.Common.{Option, Some, sym, ◌∙◌, ap, subst, arith, length-append, append_assoc}
use Rattle.std.specs.Option.{option_map}
use Rattle.std.proofs.lemmas.List.{take_at, drop_at, take-append-le, length-take-le, take-take}
use Rattle.std.proofs.lemmas.List.{get_or_at}
use Rattle.fm_outer.specs.Bytes.{written}
use Rattle.fm_outer.specs.Crash.{Torn, AddedFrom}
use Rattle.fm_journal.specs.Format.{header, records, end_of, framed, IsWithin, IsJournal}
use Rattle.fm_journal.specs.Crash.{IsOldOrNew}
use Rattle.fm_journal.proofs.Growth.{same_journal, front_is, length_begins, opened, either}

-- an image torn behind the gate is a journal of the same list
pub torn_behind : (bytes c : List ℕ) (first n : ℕ) (payloads : List (List ℕ))
    → IsJournal bytes first payloads → Torn (end_of payloads + 1) n bytes c
    → IsJournal c first payloads
torn_behind bytes c first n payloads journal torn =
    same_journal bytes c first payloads journal torn.before

module _ (bytes : List ℕ) (first : ℕ) (payloads : List (List ℕ)) (payload : List ℕ)
    (journal : IsJournal bytes first payloads) where
  -- with the body behind the gate
  staged : List ℕ
  staged = written (end_of payloads + 1) (framed payload) bytes

  after : List ℕ
  after = drop (end_of payloads + 1 + length (framed payload)) bytes

  long : end_of payloads < length bytes
  long = omega (arith, length_begins bytes first payloads journal.gate journal.rest journal.begins)

  staged_is : staged ≡ take (end_of payloads + 1) bytes ++ (framed payload ++ after)
  unfolding staged after
  staged_is = append_assoc (take (end_of payloads + 1) bytes) (framed payload)
      (drop (end_of payloads + 1 + length (framed payload)) bytes)

  length-taken : length (take (end_of payloads + 1) bytes) ≡ end_of payloads + 1
  length-taken = length-take-le (end_of payloads + 1) bytes (omega (arith, long))

  staged_front : take (end_of payloads) staged ≡ header first ++ records payloads
  staged_front =
      ap (take (end_of payloads)) staged_is
      ∙ take-append-le (end_of payloads) (take (end_of payloads + 1) bytes)
      (framed payload ++ after) (omega (arith, length-taken))
      ∙ take-take (end_of payloads) (end_of payloads + 1) bytes (omega arith)
      ∙ front_is bytes first payloads journal.gate journal.rest journal.begins

  staged_behind : drop (end_of payloads + 1) staged ≡ framed payload ++ after
  staged_behind =
      ap (drop (end_of payloads + 1)) staged_is
      ∙ drop_at (take (end_of payloads + 1) bytes) (framed payload ++ after)
      (end_of payloads + 1) length-taken

  staged_long : end_of payloads < length staged
  staged_long = omega (
    arith,
    ap length staged_is,
    length-append (take (end_of payloads + 1) bytes) (framed payload ++ after),
    length-taken,
  )

  module _ (new : IsWithin first (payloads ++ payload ∷ [])) where
    -- an image torn at the gate is a journal of the old list, or of the new one
    pub torn_gate : (c : List ℕ)
        → Torn (end_of payloads) 1 (written (end_of payloads + 1) (framed payload) bytes) c
        → IsOldOrNew first payloads payload c
    unfolding staged
    torn_gate c torn =
        either c first payloads payload after (torn.before ∙ staged_front)
        (omega (arith, torn.no_shorter, staged_long)) (torn.after ∙ staged_behind)
        journal.begins.limits new

    -- with the gate open it is a journal of the new list
    pub written_gate : IsJournal
        (written (end_of payloads) (1 ∷ []) (written (end_of payloads + 1) (framed payload) bytes))
        first (payloads ++ payload ∷ [])
    unfolding staged
    written_gate =
        let front = take (end_of payloads) staged in
        let whole : written (end_of payloads) (1 ∷ []) staged ≡ front
        ++ 1 ∷ drop (end_of payloads + 1) staged =
        append_assoc front (1 ∷ []) (drop (end_of payloads + 1) staged) in
        let size : length front ≡ end_of payloads =
        length-take-le (end_of payloads) staged (omega (arith, staged_long)) in
        let behind : drop (end_of payloads + 1) (front ++ 1 ∷ drop (end_of payloads + 1) staged)
        ≡ drop (end_of payloads + 1) staged =
        ap (drop (end_of payloads + 1))
        (sym (append_assoc front (1 ∷ []) (drop (end_of payloads + 1) staged)))
        ∙ drop_at (front ++ 1 ∷ []) (drop (end_of payloads + 1) staged) (end_of payloads + 1)
        (omega (arith, length-append front (1 ∷ []), size)) in
        subst (λ (l : List ℕ). IsJournal l first (payloads ++ payload ∷ [])) (sym whole)
        (opened (front ++ 1 ∷ drop (end_of payloads + 1) staged) first payloads payload after
        (take_at front (1 ∷ drop (end_of payloads + 1) staged) (end_of payloads) size
        ∙ staged_front)
        (omega (arith, size, length-append front (1 ∷ drop (end_of payloads + 1) staged)))
        (behind ∙ staged_behind)
        (get_or_at front 1 (drop (end_of payloads + 1) staged) 0 (end_of payloads) size)
        new)

-- what a crash within an append leaves
pub added : (seen : Option (List ℕ)) (bytes c : List ℕ) (first end : ℕ) (payloads : List (List ℕ))
    (payload : List ℕ) → seen ≡ Some bytes → IsJournal bytes first payloads → end ≡ end_of payloads
    → IsWithin first (payloads ++ payload ∷ []) → AddedFrom seen end (framed payload) c
    → IsOldOrNew first payloads payload c
added seen bytes c first end payloads payload told journal is new (inl torn) =
    let same : torn.0 ≡ bytes = cc in
    inl (torn_behind bytes c first (length (framed payload)) payloads journal
    (subst (λ (n : ℕ). Torn (n + 1) (length (framed payload)) bytes c) is
    (subst (λ (b : List ℕ). Torn (end + 1) (length (framed payload)) b c) same torn.2)))
added seen bytes c first end payloads payload told journal is new (inr torn) =
    let there : option_map (written (end + 1) (framed payload)) (Some bytes) ≡ Some torn.0 =
    subst (λ (s : Option (List ℕ)). option_map (written (end + 1) (framed payload)) s ≡ Some torn.0)
    told torn.1 in
    let same : torn.0 ≡ written (end + 1) (framed payload) bytes = cc in
    torn_gate bytes first payloads payload journal new c
    (subst (λ (n : ℕ). Torn n 1 (written (n + 1) (framed payload) bytes) c) is
    (subst (λ (b : List ℕ). Torn end 1 b c) same torn.2))
