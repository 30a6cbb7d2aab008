-- What is written reads back.
use Rattle.std.proofs.Common.{◌≡◌, ◌<◌, ◌≤◌, ◌+◌, ◌-◌, ◌*◌, ◌/◌, ◌%◌, ◌^◌, ℕ, true, List, []}
use Rattle.std.proofs.Common.{◌∷◌, ◌++◌, length, replicate, zero, suc, take, drop, nat_lt}
use Rattle.std.proofs.Common.{add-one, set}
use Rattle.std.proofs.Common.{lit<, length-append, append-nil, refl, arith, Some, ap, sym, ◌∙◌}
use Rattle.std.specs.Prelude.{◌==◌, decimal}
use Rattle.std.specs.List.{list_all, position_or_len}
use Rattle.std.specs.Char.{is_ascii_digit}
use Rattle.std.specs.Str.Parse.{digits_value}
use Rattle.std.proofs.lemmas.Grind.{common_steps}
use Rattle.std.proofs.lemmas.List.{length-replicate, take-append-drop, take-replicate, drop_all}
use Rattle.std.proofs.lemmas.List.{drop-replicate, drop-append-le, drop-set}
use Rattle.std.specs.Str.{all_ascii_digits}
use Rattle.std.proofs.Math.Seq.{take-append_seam}
use Rattle.std.proofs.lemmas.Fmt.{digits_decimal, digits_value-decimal, decimal_nonempty}
use Rattle.std.proofs.lemmas.Fmt.{length-decimal-le}
use Rattle.fm_text.proofs.Reading.{own, all_digits, fraction_at, time_some}
use Rattle.fm_bytes.specs.Decimals.{are_digits}
use Rattle.fm_text.specs.Time.{value_of, fraction_of, moment_from, has_dot, time_of}
use Rattle.fm_text.specs.Time.{time_text, nine_digits}

pub nine_at_most : (n : ℕ) → n < 1000000000 → length (decimal n) ≤ 9
nine_at_most n h = length-decimal-le 9 n (lit< tt) h (omega arith)

pub twenty_at_most : (n : ℕ) → n < 2 ^ 64 → length (decimal n) ≤ 20
twenty_at_most n h = length-decimal-le 20 n (lit< tt) (omega arith) h

-- what stands from a place on, of zeros behind which digits were written
behind : (zeros start : ℕ) (digits text : List ℕ)
    → drop start text ≡ digits ++ drop zeros (replicate zeros 48)
    → take start text ≡ take start (replicate zeros 48) → start ≤ zeros
    → text ≡ replicate start 48 ++ digits
behind zeros start digits text d t h =
    sym (take-append-drop start text)
    ∙ ap (λ r. r ++ drop start text) (t ∙ take-replicate start zeros 48 h)
    ∙ ap (λ r. replicate start 48 ++ r)
    (d ∙ ap (λ r. digits ++ r) (drop_all zeros (replicate zeros 48)
    (rw length-replicate (omega arith))) ∙ append-nil digits)

-- what stands behind the dot
nine_behind : (start : ℕ) (digits : List ℕ) → start + length digits ≡ 30 → 21 ≤ start
    → drop 21 (replicate start 48 ++ digits) ≡ nine_digits digits
nine_behind start digits h l =
    drop-append-le 21 (replicate start 48) digits (rw length-replicate l)
    ∙ ap (λ r. r ++ digits) (drop-replicate 21 start 48
    ∙ ap (λ n. replicate n 48) (let e : start - 21 ≡ 9 - length digits = omega arith in e))

-- what is written into thirty places from behind is the text of the moment
pub written : (moment start begin : ℕ) (text both : List ℕ)
    → start + length (decimal (moment % 1000000000)) ≡ 30
    → drop start text ≡ decimal (moment % 1000000000) ++ drop 30 (replicate 30 48)
    → take start text ≡ take start (replicate 30 48)
    → drop begin both ≡ decimal (moment / 1000000000) ++ drop 20 (set text 20 46)
    → drop begin both ≡ time_text moment
unfolding time_text
written moment start begin text both sum d t e =
    let digits = decimal (moment % 1000000000) in
    let short = nine_at_most (moment % 1000000000) (omega arith) in
    let whole = behind 30 start digits text d t (omega (arith, sum)) in
    let long : length text ≡ 30 =
    ap length whole ∙ length-append (replicate start 48) digits
    ∙ rw length-replicate sum in
    e ∙ ap (λ r. decimal (moment / 1000000000) ++ r)
    (drop-set text 20 46 (omega (arith, long))
    ∙ ap (λ r. 46 ∷ r) (ap (λ r. drop 21 r) whole
    ∙ nine_behind start digits sum (omega (arith, sum, short))))

-- digits before a dot are cut off at it
pos_digits : (ds rest : List ℕ) → list_all is_ascii_digit ds ≡ true
    → position_or_len (λ b. b == 46) (ds ++ (46 ∷ rest)) ≡ length ds
pos_digits [] rest h = refl
pos_digits (d ∷ ds) rest h = grind (arith, common_steps, pos_digits ds rest)

dot_inside : (ds rest : List ℕ) → has_dot (ds ++ (46 ∷ rest)) ≡ true
dot_inside [] rest = refl
dot_inside (d ∷ ds) rest = grind (arith, common_steps, dot_inside ds rest)

zeros_value : (k : ℕ) (ds : List ℕ) → digits_value 10 (replicate k 48 ++ ds) ≡ digits_value 10 ds
zeros_value zero ds = refl
zeros_value (suc k) ds = zeros_value k ds

zeros_digits : (k : ℕ) (ds : List ℕ) → list_all is_ascii_digit ds ≡ true
    → list_all is_ascii_digit (replicate k 48 ++ ds) ≡ true
zeros_digits zero ds h = h
zeros_digits (suc k) ds h = zeros_digits k ds h

drop_past : (ds rest : List ℕ) (x : ℕ) → drop (suc (length ds)) (ds ++ (x ∷ rest)) ≡ rest
drop_past [] rest x = refl
drop_past (d ∷ ds) rest x = drop_past ds rest x

digits_from : (ds : List ℕ) → 0 < length ds → all_ascii_digits ds ≡ true → are_digits ds ≡ true
digits_from ds h d = let e = all_digits ds ∙ d in grind (arith, common_steps)

seconds_back : (n : ℕ) → n < 2 ^ 64 → value_of (decimal n) ≡ Some n
seconds_back n h =
    let e = digits_from (decimal n) (decimal_nonempty n h) (digits_decimal own n h) in
    rw (e, digits_value-decimal own n h)

fraction_back_at : (ds : List ℕ) (n : ℕ) → length ds ≡ 9 → are_digits ds ≡ true
    → digits_value 10 ds ≡ n → fraction_of ds ≡ Some n
fraction_back_at ds n l k v =
    sym (fraction_at ds k (omega arith)) ∙ (let e : digits_value 10 ds * 10 ^ (9 - length ds) ≡ n =
    rw l (omega arith) in ap Some e)

nine_long : (ds : List ℕ) → length ds ≤ 9 → length (nine_digits ds) ≡ 9
nine_long ds h = simp (length-append, length-replicate) (omega arith)

fraction_back : (n : ℕ) → n < 1000000000 → fraction_of (nine_digits (decimal n)) ≡ Some n
fraction_back n h =
    let small : n < 2 ^ 64 = omega arith in
    let short = nine_at_most n h in
    let long = nine_long (decimal n) short in
    let plain = all_digits (decimal n) ∙ digits_decimal own n small in
    fraction_back_at (nine_digits (decimal n)) n long
    (digits_from (nine_digits (decimal n)) (omega arith)
    (sym (all_digits (nine_digits (decimal n)))
    ∙ zeros_digits (9 - length (decimal n)) (decimal n) plain))
    (zeros_value (9 - length (decimal n)) (decimal n) ∙ digits_value-decimal own n small)

cut_back : (ds rest : List ℕ) → list_all is_ascii_digit ds ≡ true
    → time_of (ds ++ (46 ∷ rest)) ≡ moment_from (value_of ds) (fraction_of rest)
cut_back ds rest h =
    let p = pos_digits ds rest h in
    time_some (ds ++ (46 ∷ rest)) ds rest
    (sym (ap (λ n. take n (ds ++ (46 ∷ rest))) p ∙ take-append_seam ds (46 ∷ rest)))
    (sym (ap (λ n. drop n (ds ++ (46 ∷ rest))) (ap (λ n. n + 1) p ∙ add-one (length ds))
    ∙ drop_past ds rest 46))
    (rw p (simp length-append (omega arith)))

moment_back : (s n moment : ℕ) → s * 1000000000 + n ≡ moment → moment < 2 ^ 62
    → moment_from (Some s) (Some n) ≡ Some moment
moment_back s n moment e h = let k : nat_lt moment (2 ^ 62) ≡ true = grind (arith, common_steps) in
    rw (e, k)

-- a moment's text reads back as the moment
pub read_back : (moment : ℕ) → moment < 2 ^ 62 → time_of (time_text moment) ≡ Some moment
unfolding time_text
read_back moment h =
    let s = moment / 1000000000 in
    let n = moment % 1000000000 in
    let sum : s * 1000000000 + n ≡ moment = omega arith in
    let below : n < 1000000000 = omega arith in
    let small : s < 2 ^ 64 = omega arith in
    cut_back (decimal s) (nine_digits (decimal n))
    (all_digits (decimal s) ∙ digits_decimal own s small)
    ∙ (ap (λ o. moment_from o (fraction_of (nine_digits (decimal n)))) (seconds_back s small)
    ∙ (ap (λ o. moment_from (Some s) o) (fraction_back n below) ∙ moment_back s n moment sum h))
