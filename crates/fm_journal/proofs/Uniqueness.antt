-- Bytes are a journal of one list and one first number at most, and a journal goes on wherever a
-- gate is open.
use Rattle.std.proofs.Common.{◌≡◌, ◌≢◌, ℕ, ◌<◌, ◌≤◌, ◌^◌, List, [], ◌∷◌, ◌++◌, length, drop, get_or}
use Rattle.std.proofs.Common.{codes, suc, refl, sym, ◌∙◌, ap, arith, append_assoc}
use Rattle.std.proofs.lemmas.List.{append_cancel_left}
use Rattle.byteorder.specs.Endian.{big_bytes}
use Rattle.fm_journal.specs.Format.{header, spelled, records, IsJournal}
use Rattle.fm_outer.proofs.Numbers.{length-big_bytes, same_number}
use Rattle.fm_outer.proofs.Ranges.{same_parts}
use Rattle.fm_journal.proofs.Records.{length-header}

pub same_header : (f g : ℕ) (x y : List ℕ) → f < 2 ^ 46 → g < 2 ^ 46 → header f ++ x ≡ header g ++ y
    → (f ≡ g) × (x ≡ y)
unfolding header
same_header f g x y ffits gfits same =
    let parts = same_parts (header f) (header g) x y
    (omega (arith, length-header f, length-header g)) same in
    let numbers : big_bytes 8 f ≡ big_bytes 8 g =
    append_cancel_left (codes "FMAJRNL1") _ _ parts.0 in
    (same_number 8 f g (omega arith) (omega arith) numbers, parts.1)

-- a record is read in one way
pub same_record : (p q x y : List ℕ) → length p ≤ 2 ^ 28 → length q ≤ 2 ^ 28
    → spelled p ++ x ≡ spelled q ++ y → (p ≡ q) × (x ≡ y)
unfolding spelled
same_record p q x y pfits qfits same =
    let behind : big_bytes 4 (length p) ++ (p ++ x) ≡ big_bytes 4 (length q) ++ (q ++ y) =
    sym (append_assoc (big_bytes 4 (length p)) p x) ∙ ap (drop 1) same
    ∙ append_assoc (big_bytes 4 (length q)) q y in
    let sizes = same_parts (big_bytes 4 (length p)) (big_bytes 4 (length q)) (p ++ x) (q ++ y)
    (omega (arith, length-big_bytes 4 (length p), length-big_bytes 4 (length q))) behind in
    same_parts p q x y (same_number 4 (length p) (length q) (omega arith) (omega arith) sizes.0)
    sizes.1

-- each payload is short enough
abbrev pub AreShort : List (List ℕ) → Type 0
AreShort ps = (k : ℕ) (d : List ℕ) → k < length ps → length (get_or ps k d) ≤ 2 ^ 28

first_short : (p : List ℕ) (ps : List (List ℕ)) → AreShort (p ∷ ps) → length p ≤ 2 ^ 28
first_short p ps short = short 0 [] (omega arith)

rest_short : (p : List ℕ) (ps : List (List ℕ)) → AreShort (p ∷ ps) → AreShort ps
rest_short p ps short = λ k d below. short (suc k) d (omega arith)

pub record_begins : (p x rest : List ℕ) (gate : ℕ) → gate ∷ rest ≡ spelled p ++ x → gate ≡ 1
unfolding spelled
record_begins p x rest gate same = cc

pub same_records : (ps qs : List (List ℕ)) (g h : ℕ) (x y : List ℕ) → AreShort ps → AreShort qs
    → g ≢ 1 → h ≢ 1
    → records ps ++ g ∷ x ≡ records qs ++ h ∷ y → ps ≡ qs
same_records [] [] g h x y short shorter gc hc same = refl
same_records [] (q ∷ qs) g h x y short shorter gc hc same =
    absurd (gc (record_begins q (records qs ++ h ∷ y) x g
    (same ∙ append_assoc (spelled q) (records qs) (h ∷ y))))
same_records (p ∷ ps) [] g h x y short shorter gc hc same =
    absurd (hc (record_begins p (records ps ++ g ∷ x) y h
    (sym same ∙ append_assoc (spelled p) (records ps) (g ∷ x))))
same_records (p ∷ ps) (q ∷ qs) g h x y short shorter gc hc same =
    let heads = same_record p q (records ps ++ g ∷ x) (records qs ++ h ∷ y) (first_short p ps short)
    (first_short q qs shorter)
    (sym (append_assoc (spelled p) (records ps) (g ∷ x)) ∙ same
    ∙ append_assoc (spelled q) (records qs) (h ∷ y)) in
    let tails = same_records ps qs g h x y (rest_short p ps short) (rest_short q qs shorter) gc hc
    heads.1 in
    rw (heads.0, tails) refl

-- bytes are a journal in one way at most
pub same_journal_list : (xs : List ℕ) (f g : ℕ) (ps qs : List (List ℕ)) → IsJournal xs f ps
    → IsJournal xs g qs → (f ≡ g) × (ps ≡ qs)
same_journal_list xs f g ps qs one other =
    let headers = same_header f g (records ps ++ one.gate ∷ one.rest)
    (records qs ++ other.gate ∷ other.rest) one.begins.limits.first_fits
    other.begins.limits.first_fits
    (sym one.begins.bytes_are ∙ other.begins.bytes_are) in (
      headers.0,
      same_records ps qs one.gate other.gate one.rest other.rest one.begins.limits.short
          other.begins.limits.short one.closed other.closed headers.1,
    )

-- a list of records that are read up to an open gate is read on from there
pub reads_on : (ps qs : List (List ℕ)) (g : ℕ) (x y : List ℕ) → AreShort ps → AreShort qs → g ≢ 1
    → records ps ++ 1 ∷ x ≡ records qs ++ g ∷ y → (p : List ℕ) × (more : List (List ℕ))
    × (qs ≡ ps ++ p ∷ more)
reads_on [] [] g x y short shorter closed same = absurd (closed (cc))
reads_on [] (q ∷ qs) g x y short shorter closed same = (q, qs, refl)
reads_on (p ∷ ps) [] g x y short shorter closed same =
    absurd (closed (record_begins p (records ps ++ 1 ∷ x) y g
    (sym same ∙ append_assoc (spelled p) (records ps) (1 ∷ x))))
reads_on (p ∷ ps) (q ∷ qs) g x y short shorter closed same =
    let heads = same_record p q (records ps ++ 1 ∷ x) (records qs ++ g ∷ y) (first_short p ps short)
    (first_short q qs shorter)
    (sym (append_assoc (spelled p) (records ps) (1 ∷ x)) ∙ same
    ∙ append_assoc (spelled q) (records qs) (g ∷ y)) in
    let tails = reads_on ps qs g x y (rest_short p ps short) (rest_short q qs shorter) closed
    heads.1 in
    (tails.0, tails.1, let heads_are = heads.0 in let tails_are = tails.2 in cc)
