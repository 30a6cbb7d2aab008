-- Bytes that are compiled files to their end have no place at which none begins.
use Rattle.std.proofs.Common.{◌≡◌, ℕ, List, [], ◌∷◌, ◌++◌, length, Option, Some, sym, ap, ◌∙◌}
use Rattle.std.proofs.Common.{subst, arith, append_assoc, length-append}
use Rattle.std.proofs.Math.Seq.{take-append_seam, drop-append_seam}
use Rattle.std.proofs.lemmas.List.Elements.{All-head, All-tail}
use Rattle.std.specs.List.{All}
use Rattle.ev_file.proofs.SpelledFiles.{file_there}
use Rattle.ev_file.specs.FileReading.{file_from}
use Rattle.ev_file.specs.Files.{IsFileFront, IsSpelledFile, file_bytes}
use Rattle.ev_file.specs.declared.made.Made.{Made}
use Rattle.ev_listing.specs.Listing.{AreFiles, IsNoFileFront, files_bytes}

-- a file begins its bytes, whatever is behind them
front : (x : Made) (tail : List ℕ) → IsFileFront x (length (file_bytes x)) (file_bytes x ++ tail)
front x tail = record {
  inside = let long = length-append (file_bytes x) tail in omega (arith, long);
  spelled = take-append_seam (file_bytes x) tail;
}

-- and is read there
read_there : (x : Made) (tail : List ℕ) → IsSpelledFile x
    → file_from (file_bytes x ++ tail) ≡ Some (x, tail)
read_there x tail spelled =
    file_there (file_bytes x ++ tail) x (length (file_bytes x)) spelled (front x tail)
    ∙ ap (λ (zs : List ℕ). Some (x, zs)) (drop-append_seam (file_bytes x) tail)

tails_same : (x y : Made) (xs ys : List ℕ)
    → ◌≡◌ {A = Option (Made × List ℕ)} (Some (x, xs)) (Some (y, ys)) → xs ≡ ys
tails_same x y xs ys same =
    let pair : ◌≡◌ {A = Made × List ℕ} (x, xs) (y, ys) = cc in
    ap (λ (t : Made × List ℕ). t.1) pair

-- behind some of the files with which bytes begin there is nothing, or a file
none_behind : (xs ys : List Made) (rest : List ℕ) → All IsSpelledFile xs → All IsSpelledFile ys
    → IsNoFileFront rest → (rest ≡ [] → ⊥) → files_bytes xs ≡ files_bytes ys ++ rest → ⊥
none_behind [] [] rest a b none some same = some (sym same)
none_behind [] (y ∷ ys) rest a b none some same = absurd (cc)
none_behind (x ∷ xs) [] rest a b none some same =
    none.none x (length (file_bytes x)) (All-head IsSpelledFile x xs a)
    (subst (λ (zs : List ℕ). IsFileFront x (length (file_bytes x)) zs) same
    (front x (files_bytes xs)))
none_behind (x ∷ xs) (y ∷ ys) rest a b none some same =
    let one = read_there x (files_bytes xs) (All-head IsSpelledFile x xs a) in
    let other = read_there y (files_bytes ys ++ rest) (All-head IsSpelledFile y ys b) in
    let whole : file_bytes x ++ files_bytes xs ≡ file_bytes y ++ (files_bytes ys ++ rest) =
    same ∙ append_assoc (file_bytes y) (files_bytes ys) rest in
    none_behind xs ys rest (All-tail IsSpelledFile x xs a) (All-tail IsSpelledFile y ys b) none some
    (tails_same x y (files_bytes xs) (files_bytes ys ++ rest)
    (sym one ∙ ap file_from whole ∙ other))

pub files_have_no_bad : (xs ys : List Made) (bytes : List ℕ) (place : ℕ) → All IsSpelledFile xs
    → bytes ≡ files_bytes xs → AreFiles ys bytes (Some place) → ⊥
files_have_no_bad xs ys bytes place spelled is files =
    none_behind xs ys files.rest spelled files.spelled files.ends.1.1 files.ends.1.0
    (sym is ∙ files.parts)
