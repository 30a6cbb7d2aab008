-- How long headers and records are, and how records are put together.
use Rattle.std.proofs.Common.{◌≡◌, ℕ, zero, suc, ◌+◌, ◌<◌, ◌≤◌, ◌^◌, List, [], ◌∷◌, ◌++◌, length}
use Rattle.std.proofs.Common.{codes, take, drop, subst, refl, sym, ◌∙◌, ap, arith, length-append}
use Rattle.std.proofs.Common.{append_assoc}
use Rattle.std.proofs.lemmas.List.{append-nil, get_or_append_left}
use Rattle.std.proofs.lemmas.List.Elements.{All-append}
use Rattle.std.specs.Prelude.{All}
use Rattle.byteorder.specs.Endian.{big_bytes, big_number}
use Rattle.fm_journal.specs.Format.{header, spelled, records, end_of, framed, IsWithin}
use Rattle.fm_outer.proofs.Numbers.{length-big_bytes, reads_back}

pub length-header : (first : ℕ) → length (header first) ≡ 16
unfolding header
length-header first =
    omega (arith, length-append (codes "FMAJRNL1") (big_bytes 8 first), length-big_bytes 8 first)

pub length-spelled : (payload : List ℕ) → length (spelled payload) ≡ 5 + length payload
unfolding spelled
length-spelled payload =
    omega (
      arith,
      length-append (big_bytes 4 (length payload)) payload,
      length-big_bytes 4 (length payload),
    )

pub length-framed : (payload : List ℕ) → length (framed payload) ≡ 5 + length payload
unfolding framed
length-framed payload =
    omega (
      arith,
      length-append (big_bytes 4 (length payload)) (payload ++ 0 ∷ []),
      length-append payload (0 ∷ []),
      length-big_bytes 4 (length payload),
    )

pub end_of_nil : end_of [] ≡ 16
unfolding end_of
end_of_nil = refl

pub end_of_is : (payloads : List (List ℕ)) → end_of payloads ≡ 16 + length (records payloads)
unfolding end_of
end_of_is payloads = refl

pub records_push : (payloads : List (List ℕ)) (payload : List ℕ)
    → records (payloads ++ payload ∷ []) ≡ records payloads ++ spelled payload
records_push [] payload = append-nil (spelled payload)
records_push (p ∷ payloads) payload =
    ap (λ (l : List ℕ). spelled p ++ l) (records_push payloads payload)
    ∙ sym (append_assoc (spelled p) (records payloads) (spelled payload))

pub end_of_push : (payloads : List (List ℕ)) (payload : List ℕ)
    → end_of (payloads ++ payload ∷ []) ≡ end_of payloads + 5 + length payload
end_of_push payloads payload =
    omega (
      arith,
      end_of_is payloads,
      end_of_is (payloads ++ payload ∷ []),
      ap length (records_push payloads payload),
      length-append (records payloads) (spelled payload),
      length-spelled payload,
    )

-- the header and the records reach up to the gate
pub length-front : (first : ℕ) (payloads : List (List ℕ))
    → length (header first ++ records payloads) ≡ end_of payloads
length-front first payloads =
    omega (
      arith,
      end_of_is payloads,
      length-header first,
      length-append (header first) (records payloads),
    )

-- one record more
pub front_push : (first : ℕ) (payloads : List (List ℕ)) (payload rest : List ℕ)
    → header first ++ (records (payloads ++ payload ∷ []) ++ rest) ≡ header first
    ++ (records payloads ++ (spelled payload ++ rest))
front_push first payloads payload rest =
    ap (λ (l : List ℕ). header first ++ (l ++ rest)) (records_push payloads payload)
    ∙ ap (λ (l : List ℕ). header first ++ l)
    (append_assoc (records payloads) (spelled payload) rest)

short_one : (payload : List ℕ) → length payload ≤ 2 ^ 28
    → All (λ (p : List ℕ). length p ≤ 2 ^ 28) (payload ∷ [])
short_one payload short zero d below = short
short_one payload short (suc k) d below = absurd (omega arith)

-- the limits for one record more, of those for the records before it
pub within_push : (first : ℕ) (payloads : List (List ℕ)) (payload : List ℕ)
    → IsWithin first payloads
    → length payloads + 1 < 2 ^ 32 → first + length payloads < 2 ^ 46
    → end_of payloads + 5 + length payload < 2 ^ 40 → length payload ≤ 2 ^ 28
    → IsWithin first (payloads ++ payload ∷ [])
within_push first payloads payload limits counted numbered sized short = record {
  first_fits = limits.first_fits;
  counted = omega (arith, length-append payloads (payload ∷ []));
  numbered = omega (arith, length-append payloads (payload ∷ []));
  sized = omega (arith, end_of_push payloads payload);
  short = All-append (λ (p : List ℕ). length p ≤ 2 ^ 28) payloads (payload ∷ []) limits.short
      (short_one payload short);
}

pub records_append : (ps qs : List (List ℕ)) → records (ps ++ qs) ≡ records ps ++ records qs
records_append [] qs = refl
records_append (p ∷ ps) qs = ap (λ (l : List ℕ). spelled p ++ l) (records_append ps qs)
    ∙ sym (append_assoc (spelled p) (records ps) (records qs))

-- what is within the limits still is with fewer records
pub within_front : (first : ℕ) (ps qs : List (List ℕ)) → IsWithin first (ps ++ qs)
    → IsWithin first ps
within_front first ps qs limits = record {
  first_fits = limits.first_fits;
  counted = omega (arith, limits.counted, length-append ps qs);
  numbered = omega (arith, limits.numbered, length-append ps qs);
  sized = omega (
    arith,
    limits.sized,
    end_of_is ps,
    end_of_is (ps ++ qs),
    ap length (records_append ps qs),
    length-append (records ps) (records qs),
  );
  short = λ k d below. subst (λ (p : List ℕ). length p ≤ 2 ^ 28)
      (get_or_append_left ps qs d k below) (limits.short k d (omega (arith, length-append ps qs)));
}

-- the number in a header is its first number
pub header_number : (bytes : List ℕ) (first number : ℕ) → first < 2 ^ 46 → bytes ≡ header first
    → number ≡ big_number 8 (take 8 (drop 8 bytes)) → number ≡ first
unfolding header
header_number bytes first number fits is reads =
    reads ∙ ap (λ (l : List ℕ). big_number 8 (take 8 (drop 8 l))) is
    ∙ reads_back 8 first (omega arith)
