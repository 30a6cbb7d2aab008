-- Compiled files that are listed are those that were put, and no other.
use Rattle.std.proofs.Common.{◌≡◌, ◌^◌, ℕ, List, [], ◌∷◌, ◌++◌, length, take, Option, Some}
use Rattle.std.proofs.Common.{None, refl, sym, ap, ◌∙◌, subst, arith, append_assoc, length-append}
use Rattle.std.proofs.Math.Seq.{take-append_seam, drop-append_seam}
use Rattle.std.proofs.lemmas.List.Elements.{All-head, All-tail}
use Rattle.std.specs.List.{All}
use Rattle.ev_file.specs.FileReading.{file_from}
use Rattle.ev_file.specs.Files.{IsSpelledFile, IsFileFront, file_bytes}
use Rattle.ev_file.specs.declared.made.Made.{Made}
use Rattle.ev_file.proofs.SpelledFiles.{file_there}
use Rattle.ev_listing.specs.Listing.{AreFiles, IsNoFileFront, IsRest, files_bytes, listing}
use Rattle.fm_outer.specs.declared.source.Source.{Ghosts}
use Rattle.fm_sources.specs.Sources.{Given}
use Rattle.fm_esc.specs.Compiling.{IsCompiled}
use Rattle.fm_esc.specs.InputListing.{IsListed}
use Rattle.ev_listing.specs.declared.form.GraphForm.TheVariants.{Listed as AsLines, Compiled}
use Rattle.fm_esc_laws.proofs.OneText.{text_given, text_one}
use Rattle.fm_esc_laws.proofs.Spelled.{compiled_spelled}
use Rattle.fm_esc_laws.specs.ToldTexts.{TellTexts}

-- a file begins its bytes, whatever is behind them
front : (x : Made) (tail : List ℕ)
    → IsFileFront x (length (file_bytes x)) (file_bytes x ++ tail)
front x tail = record {
  inside = let long = length-append (file_bytes x) tail in omega (arith, long);
  spelled = take-append_seam (file_bytes x) tail;
}

-- and is read there
read_there : (x : Made) (tail : List ℕ) → IsSpelledFile x
    → file_from (file_bytes x ++ tail) ≡ Some (x, tail)
read_there x tail spelled =
    file_there (file_bytes x ++ tail) x (length (file_bytes x)) spelled (front x tail)
    ∙ ap (λ (zs : List ℕ). Some (x, zs)) (drop-append_seam (file_bytes x) tail)

both_same : (x y : Made) (xs ys : List ℕ) → ◌≡◌ {A = Option (Made × List ℕ)} (Some (x, xs))
    (Some (y, ys))
    → (x ≡ y) × (xs ≡ ys)
both_same x y xs ys h =
    let pair : ◌≡◌ {A = Made × List ℕ} (x, xs) (y, ys) = cc in
    (ap (λ (t : Made × List ℕ). t.0) pair, ap (λ (t : Made × List ℕ). t.1) pair)

-- a file begins no bytes that there are none of
no_front : (x : Made) (size : ℕ) → IsFileFront x size [] → ⊥
no_front x size there =
    let none : size ≡ 0 = let less = there.inside in omega (arith, less) in
    absurd (let h : take {A = ℕ} 0 [] ≡ file_bytes x = subst (λ (k : ℕ). take k [] ≡ file_bytes x)
    none there.spelled in cc)

-- what stands behind listed files begins with none
rest_front : (bad : Option ℕ) (files rest : List ℕ) → IsRest bad files rest → IsNoFileFront rest
rest_front None files rest ends = record {
  none = λ x size spelled there. no_front x size (subst (λ (zs : List ℕ). IsFileFront x size zs)
      ends there);
}
rest_front (Some place) files rest ends = ends.1.1

-- files that are spelled one after another are one list, with nothing behind them
files_same : (xs ys : List Made) (rest : List ℕ) → All IsSpelledFile xs → All IsSpelledFile ys
    → IsNoFileFront rest → files_bytes xs ≡ files_bytes ys ++ rest → (ys ≡ xs) × (rest ≡ [])
files_same [] [] rest a b none h = (refl, sym h)
files_same [] (y ∷ ys) rest a b none h = absurd (cc)
files_same (x ∷ xs) [] rest a b none h =
    absurd (none.none x (length (file_bytes x)) (All-head IsSpelledFile x xs a)
    (subst (λ (zs : List ℕ). IsFileFront x (length (file_bytes x)) zs) h
    (front x (files_bytes xs))))
files_same (x ∷ xs) (y ∷ ys) rest a b none h =
    let one = read_there x (files_bytes xs) (All-head IsSpelledFile x xs a) in
    let other = read_there y (files_bytes ys ++ rest) (All-head IsSpelledFile y ys b) in
    let whole : file_bytes x ++ files_bytes xs ≡ file_bytes y ++ (files_bytes ys ++ rest) =
    h ∙ append_assoc (file_bytes y) (files_bytes ys) rest in
    let same = both_same x y (files_bytes xs) (files_bytes ys ++ rest)
    (sym one ∙ ap file_from whole ∙ other) in
    let more = files_same xs ys rest (All-tail IsSpelledFile x xs a)
    (All-tail IsSpelledFile y ys b) none same.1 in
    ((λ i. sym same.0 i ∷ more.0 i), more.1)

-- the files in the bytes of some are these, to their end
pub files_only : (xs ys : List Made) (bytes : List ℕ) (bad : Option ℕ) → All IsSpelledFile xs
    → bytes ≡ files_bytes xs → AreFiles ys bytes bad → (bad ≡ None) × (ys ≡ xs)
files_only xs ys bytes None spelled e files = (
  refl,
  (files_same xs ys files.rest spelled files.spelled
      (rest_front None (files_bytes ys) files.rest files.ends) (sym e ∙ files.parts)).0,
)
files_only xs ys bytes (Some place) spelled e files =
    let same = files_same xs ys files.rest spelled files.spelled
    (rest_front (Some place) (files_bytes ys) files.rest files.ends) (sym e ∙ files.parts) in
    absurd (files.ends.1.0 same.1)

module _ {S : Type 0} (g : Ghosts S) where
  -- the text of the files that are listed is the one that is put of their rules
  pub lines_same : (old new other : Given S) (text lines listed : List ℕ) (input rest : S)
      (bad : Option ℕ) → TellTexts g old → (put : IsCompiled g Compiled old new text)
      → IsCompiled g AsLines old other lines → g.left input ≡ Some text
      → IsListed g input rest listed bad → (bad ≡ None) × (listed ≡ lines)
  lines_same old new other text lines listed input rest bad told put said e is =
      let bytes : is.bytes ≡ text =
      text_given g (2 ^ 40) input rest text is.bytes e is.gave is.within in
      let only = files_only put.mades is.mades is.bytes bad
      (compiled_spelled g Compiled old new text put) (bytes ∙ put.text_is) is.files in
      let again : IsCompiled g AsLines old new (listing put.mades) = record {
        got = put.got;
        read = put.read;
        mades = put.mades;
        graphs = put.graphs;
        text_is = refl;
      } in (
        only.0,
        is.text_is ∙ ap listing only.1
            ∙ text_one g AsLines old new other (listing put.mades) lines told again said,
      )
