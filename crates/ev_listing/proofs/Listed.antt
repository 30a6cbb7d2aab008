-- Compiled files read one after another.
use Rattle.std.proofs.Common.{◌≡◌, ◌<◌, ◌≤◌, ◌+◌, ◌-◌, ◌++◌, ℕ, zero, suc, List, [], ◌∷◌, length}
use Rattle.std.proofs.Common.{map, take, drop, Option, Some, None, refl, sym, ap, ◌∙◌, arith}
use Rattle.std.proofs.Common.{append-nil, append_assoc, length-append, length-drop}
use Rattle.std.proofs.Common.{codes}
use Rattle.std.proofs.lemmas.List.{length-take, take-append-drop}
use Rattle.std.proofs.lemmas.List.Elements.{All-push}
use Rattle.std.specs.List.{All}
use Rattle.ev_file.specs.Files.{IsSpelledFile, IsFileFront, body_bytes, file_bytes}
use Rattle.ev_file.specs.declared.made.Made.{Made}
use Rattle.fm_adm.specs.Config.{listing_line, listing_lines}
use Rattle.fm_adm.specs.declared.config.ModuleSizes.{ModuleSizes}
use Rattle.ev_listing.specs.Listing.{AreFiles, files_bytes, listing, sizes_of}

-- the first so many bytes are so many compiled files, whose lines were appended
pub record Listed (bytes : List ℕ) (at number : ℕ) (old new : List ℕ) : Type 0 where
  pub mades : List Made
  pub spelled : All IsSpelledFile mades
  pub within : at ≤ length bytes
  pub parts : take at bytes ≡ files_bytes mades
  pub count : number ≡ length mades
  pub few : number ≤ at
  pub text : new ≡ old ++ listing mades

take_none : (k : ℕ) → take {A = ℕ} k [] ≡ []
take_none zero = refl
take_none (suc k) = refl

take_both : (m n : ℕ) (xs : List ℕ) → take (m + n) xs ≡ take m xs ++ take n (drop m xs)
take_both zero n xs = let same : 0 + n ≡ n = omega arith in ap (λ (k : ℕ). take k xs) same
take_both (suc m) n [] =
    let same : suc m + n ≡ suc (m + n) = omega arith in
    ap (λ (k : ℕ). take {A = ℕ} k []) same ∙ sym (take_none n)
take_both (suc m) n (x ∷ xs) =
    let same : suc m + n ≡ suc (m + n) = omega arith in
    ap (λ (k : ℕ). take k (x ∷ xs)) same ∙ ap (λ (ys : List ℕ). x ∷ ys) (take_both m n xs)

take_all : (n : ℕ) (xs : List ℕ) → length xs ≤ n → take n xs ≡ xs
take_all zero [] h = refl
take_all zero (x ∷ xs) h = absurd (omega (arith, h))
take_all (suc n) [] h = refl
take_all (suc n) (x ∷ xs) h = ap (λ (ys : List ℕ). x ∷ ys) (take_all n xs (omega (arith, h)))

-- all that stands behind a place
pub rest_whole : (n : ℕ) (xs : List ℕ) → take (length xs - n) (drop n xs) ≡ drop n xs
rest_whole n xs =
    let long = length-drop n xs in
    take_all (length xs - n) (drop n xs) (omega (arith, long))

lines_push : (number : ℕ) (ss : List ModuleSizes) (s : ModuleSizes)
    → listing_lines number (ss ++ s ∷ [])
    ≡ listing_lines number ss ++ listing_line (number + length ss) s
lines_push number [] s =
    let same : number ≡ number + 0 = omega arith in
    append-nil (listing_line number s) ∙ ap (λ (n : ℕ). listing_line n s) same
lines_push number (x ∷ ss) s =
    let same : number + 1 + length ss ≡ number + suc (length ss) = omega arith in
    ap (λ (ys : List ℕ). listing_line number x ++ ys) (lines_push (number + 1) ss s)
    ∙ sym (append_assoc (listing_line number x) (listing_lines (number + 1) ss)
    (listing_line (number + 1 + length ss) s))
    ∙ ap (λ (n : ℕ). (listing_line number x ++ listing_lines (number + 1) ss)
    ++ listing_line n s) same

mapped_push : (ms : List Made) (m : Made)
    → map sizes_of (ms ++ m ∷ []) ≡ map sizes_of ms ++ sizes_of m ∷ []
mapped_push [] m = refl
mapped_push (x ∷ ms) m = ap (λ (ss : List ModuleSizes). sizes_of x ∷ ss) (mapped_push ms m)

mapped_long : (ms : List Made) → length (map sizes_of ms) ≡ length ms
mapped_long [] = refl
mapped_long (x ∷ ms) = ap suc (mapped_long ms)

pub listing_push : (ms : List Made) (m : Made)
    → listing (ms ++ m ∷ []) ≡ listing ms ++ listing_line (length ms) (sizes_of m)
listing_push ms m =
    let same : 0 + length (map sizes_of ms) ≡ length ms =
    (let e = mapped_long ms in omega (arith, e)) in
    ap (listing_lines 0) (mapped_push ms m)
    ∙ lines_push 0 (map sizes_of ms) (sizes_of m)
    ∙ ap (λ (n : ℕ). listing ms ++ listing_line n (sizes_of m)) same

pub files_push : (ms : List Made) (m : Made)
    → files_bytes (ms ++ m ∷ []) ≡ files_bytes ms ++ file_bytes m
files_push [] m = append-nil (file_bytes m)
files_push (x ∷ ms) m =
    ap (λ (ys : List ℕ). file_bytes x ++ ys) (files_push ms m)
    ∙ sym (append_assoc (file_bytes x) (files_bytes ms) (file_bytes m))

-- a file has some bytes
file_long : (m : Made) → 8 ≤ length (file_bytes m)
file_long m =
    let sum = length-append (codes "FMAESC01") (body_bytes m) in
    let eight : length (codes "FMAESC01") ≡ 8 = refl in
    omega (arith, sum, eight)

pub front_some : (m : Made) (size : ℕ) (bytes : List ℕ) → IsFileFront m size bytes → 8 ≤ size
front_some m size bytes front =
    let long = file_long m in
    let same = ap (λ (xs : List ℕ). length xs) front.spelled in
    let taken = length-take size bytes in
    let inside = front.inside in
    omega (arith, long, same, taken, inside)

-- what was found is not nothing
pub some_found : (o : Option (Made × ℕ)) (file : Made × ℕ) → o ≡ Some file → o ≡ None → ⊥
some_found o file some none = cc

-- ---- the loop
pub none_listed : (bytes old : List ℕ) → Listed bytes 0 0 old old
none_listed bytes old = record {
  mades = [];
  spelled = λ i d less. absurd (omega (arith, less));
  within = omega arith;
  parts = refl;
  count = refl;
  few = omega arith;
  text = sym (append-nil old);
}

pub one_listed : (bytes : List ℕ) (at number : ℕ) (old mid new : List ℕ) (m : Made) (size : ℕ)
    → Listed bytes at number old mid → IsSpelledFile m → IsFileFront m size (drop at bytes)
    → new ≡ mid ++ listing_line number (sizes_of m)
    → Listed bytes (at + size) (number + 1) old new
one_listed bytes at number old mid new m size before spelled front put = record {
  mades = before.mades ++ m ∷ [];
  spelled = All-push IsSpelledFile before.mades m before.spelled spelled;
  within =
      let inside = front.inside in
      let long = length-drop at bytes in
      let within = before.within in omega (arith, inside, long, within);
  parts = take_both at size bytes
      ∙ (λ i. before.parts i ++ front.spelled i) ∙ sym (files_push before.mades m);
  count =
      let was = before.count in
      let sum = length-append before.mades (m ∷ []) in omega (arith, was, sum);
  few =
      let was = before.few in
      let some = front_some m size (drop at bytes) front in omega (arith, was, some);
  text = put
      ∙ (λ i. before.text i ++ listing_line (before.count i) (sizes_of m))
      ∙ append_assoc old (listing before.mades) (listing_line (length before.mades) (sizes_of m))
      ∙ ap (λ (xs : List ℕ). old ++ xs) (sym (listing_push before.mades m));
}

pub all_listed : (bytes : List ℕ) (at number : ℕ) (old new : List ℕ)
    → Listed bytes at number old new → length bytes ≤ at
    → (mades : List Made) × ((AreFiles mades bytes None) × (new ≡ old ++ listing mades))
all_listed bytes at number old new listed past = (
  listed.mades,
  (
    record {
      rest = [];
      spelled = listed.spelled;
      parts = sym (take_all at bytes past) ∙ listed.parts
          ∙ sym (append-nil (files_bytes listed.mades));
      ends = refl;
    },
    listed.text,
  ),
)

pub bad_listed : (bytes : List ℕ) (at number : ℕ) (old new : List ℕ)
    → Listed bytes at number old new → at < length bytes
    → ((m : Made) (size : ℕ) → IsSpelledFile m → IsFileFront m size (drop at bytes) → ⊥)
    → (mades : List Made) × ((AreFiles mades bytes (Some at)) × (new ≡ old ++ listing mades))
bad_listed bytes at number old new listed less none = (
  listed.mades,
  (
    record {
      rest = drop at bytes;
      spelled = listed.spelled;
      parts = sym (take-append-drop at bytes)
          ∙ ap (λ (xs : List ℕ). xs ++ drop at bytes) listed.parts;
      ends = (
        (let same = ap (λ (xs : List ℕ). length xs) listed.parts in
            let taken = length-take at bytes in omega (arith, same, taken, less)),
        (
          (λ e.
              let zero_long = ap (λ (xs : List ℕ). length xs) e in
              let long = length-drop at bytes in omega (arith, zero_long, long, less)),
          record { none = none },
        ),
      );
    },
    listed.text,
  ),
)
