-- What `parse` and the cuts at dots say of texts of digits.
use Rattle.std.proofs.Common.{◌≡◌, ◌<◌, ◌≤◌, ◌+◌, ◌-◌, ◌*◌, ◌^◌, ℕ, Bool, true, false, ◌&&◌, List}
use Rattle.std.proofs.Common.{[], ◌∷◌, length, refl, arith, nat_le, zero, suc, pow-suc}
use Rattle.std.proofs.Common.{lit<, Option, Some, None, ap, sym, ◌∙◌}
use Rattle.std.proofs.Common.{if◌then◌else◌}
use Rattle.std.specs.Prelude.{◌==◌}
use Rattle.std.specs.List.{list_all, position_or_len, before_first, after_first}
use Rattle.std.specs.Char.{is_ascii_digit}
use Rattle.std.specs.Str.{all_ascii_digits}
use Rattle.std.specs.Str.Parse.{digits_value}
use Rattle.std.proofs.lemmas.Str.Parse.{IsNumeralModel, numerals_by_value, tells_all_ascii_digits}
use Rattle.std.proofs.lemmas.Str.Parse.{digits_value_short}
use Rattle.std.proofs.lemmas.Grind.{common_steps}
use Rattle.std.proofs.lemmas.Nat.{pow-add}
use Rattle.std.proofs.Math.Seq.{take-length}
use Rattle.std.proofs.Math.Nat.{mul-lt-mul_of_pos_right, le_refl}
use Rattle.fm_bytes.specs.Decimals.{are_digits, digits_within}
use Rattle.fm_text.specs.Time.{value_of, fraction_of, moment_from, has_dot, time_of}

pub own : IsNumeralModel (λ ds. all_ascii_digits ds ≡ true) (digits_value 10)
own = numerals_by_value _ tells_all_ascii_digits

pub all_digits : (bs : List ℕ) → list_all is_ascii_digit bs ≡ all_ascii_digits bs
all_digits [] = refl
all_digits (b ∷ bs) = ap (λ r. is_ascii_digit b && r) (all_digits bs)

digits_of_number : (bs : List ℕ) → are_digits bs ≡ true → list_all is_ascii_digit bs ≡ true
digits_of_number bs d = grind (arith, common_steps)

-- a short text of digits means a small number
pub short_value : (ds : List ℕ) (k : ℕ) → list_all is_ascii_digit ds ≡ true → length ds ≤ k
    → digits_value 10 ds < 10 ^ k
short_value ds k d h = digits_value_short own ds k (sym (all_digits ds) ∙ d) h

some_at : (n l : Bool) (a v : ℕ) → (if n then (if l then Some a else None) else None) ≡ Some v
    → (n ≡ true) × (a ≡ v)
some_at true true a v e = (refl, cc)
some_at true false a v e = cc
some_at false l a v e = cc

fraction_none_at : (ds : List ℕ) (n : Bool) → are_digits ds ≡ n
    → digits_within (2 ^ 64 - 1) ds ≡ None → length ds ≤ 9
    → None ≡ fraction_of ds
unfolding digits_within fraction_of
fraction_none_at ds true k e h = let small = short_value ds 9 (digits_of_number ds k) h in
    grind (arith, common_steps)
fraction_none_at ds false k e h = grind (arith, common_steps)

pub fraction_none : (ds : List ℕ) → digits_within (2 ^ 64 - 1) ds ≡ None → length ds ≤ 9
    → None ≡ fraction_of ds
fraction_none ds e h = fraction_none_at ds (are_digits ds) refl e h

number_parts : (ds : List ℕ) (v : ℕ) → digits_within (2 ^ 64 - 1) ds ≡ Some v
    → (are_digits ds ≡ true) × (digits_value 10 ds ≡ v)
unfolding digits_within
number_parts ds v e = some_at (are_digits ds) (nat_le (digits_value 10 ds) (2 ^ 64 - 1))
    (digits_value 10 ds) v e

pub fraction_at : (ds : List ℕ) → are_digits ds ≡ true → length ds ≤ 9
    → Some (digits_value 10 ds * 10 ^ (9 - length ds)) ≡ fraction_of ds
unfolding fraction_of
fraction_at ds k h = let e : nat_le (length ds) 9 ≡ true = grind (arith, common_steps) in
    simp (k, e)

pub fraction_some : (ds : List ℕ) (v s : ℕ) → digits_within (2 ^ 64 - 1) ds ≡ Some v → length ds ≤ 9
    → s ≡ 10 ^ (9 - length ds) → Some (v * s) ≡ fraction_of ds
fraction_some ds v s e h f = let p = number_parts ds v e in rw (f, ← p.1) (fraction_at ds p.0 h)

long_at : (n l : Bool) (a : ℕ) → l ≡ false → None ≡ (if (n && l) then Some a else None)
long_at true l a e = rw e refl
long_at false l a e = refl

pub fraction_long : (ds : List ℕ) → 9 < length ds → None ≡ fraction_of ds
unfolding fraction_of
fraction_long ds h = let e : nat_le (length ds) 9 ≡ false = grind (arith, common_steps) in
    long_at (are_digits ds) (nat_le (length ds) 9) _ e

ten_pos : (k : ℕ) → 0 < 10 ^ k
ten_pos zero = lit< tt
ten_pos (suc k) = omega (arith, pow-suc 10 k, ten_pos k)

product_small : (v l : ℕ) → v < 10 ^ l → l ≤ 9 → v * 10 ^ (9 - l) < 10 ^ 9
product_small v l h k =
    let e : 10 ^ l * 10 ^ (9 - l) ≡ 10 ^ 9 = sym (pow-add 10 l (9 - l))
    ∙ (let k9 : l + (9 - l) ≡ 9 = omega arith in ap (λ n. 10 ^ n) k9) in
    rw e at (mul-lt-mul_of_pos_right {m = v} {n = 10 ^ l} {k = 10 ^ (9 - l)} h (ten_pos (9 - l)))

pub fraction_fits : (ds : List ℕ) (v s : ℕ) → digits_within (2 ^ 64 - 1) ds ≡ Some v → length ds ≤ 9
    → s ≡ 10 ^ (9 - length ds) → v * s < 2 ^ 64
fraction_fits ds v s e h f =
    let p = number_parts ds v e in
    let small = product_small (digits_value 10 ds) (length ds)
    (short_value ds (length ds) (digits_of_number ds p.0) (le_refl _)) h in
    rw (f, ← p.1) (omega arith)

seconds_none_at : (n : Bool) (a : ℕ) (o : Option ℕ)
    → (if n then (if nat_le a (2 ^ 64 - 1) then Some a else None) else None) ≡ None
    → None ≡ moment_from (if n then Some a else None) o
seconds_none_at false a o e = refl
seconds_none_at true a None e = refl
seconds_none_at true a (Some k) e = grind (arith, common_steps)

pub seconds_none : (ds : List ℕ) (o : Option ℕ) → digits_within (2 ^ 64 - 1) ds ≡ None
    → None ≡ moment_from (value_of ds) o
unfolding digits_within
seconds_none ds o e = seconds_none_at (are_digits ds) (digits_value 10 ds) o e

pub seconds_some : (ds : List ℕ) (v : ℕ) → digits_within (2 ^ 64 - 1) ds ≡ Some v
    → value_of ds ≡ Some v
seconds_some ds v e = let p = number_parts ds v e in rw (p.0, p.1)

any_before_at : (b : ℕ) (bs : List ℕ) (t : Bool) → (b == 46) ≡ t
    → (position_or_len (λ x. x == 46) bs < length bs → has_dot bs ≡ true)
    → position_or_len (λ x. x == 46) (b ∷ bs) < length (b ∷ bs) → has_dot (b ∷ bs) ≡ true
any_before_at b bs true e more h = rw e refl
any_before_at b bs false e more h = rw e (more (let k = rw e at h in omega arith))

any_before : (bs : List ℕ) → position_or_len (λ b. b == 46) bs < length bs → has_dot bs ≡ true
any_before [] h = absurd (omega arith)
any_before (b ∷ bs) h = any_before_at b bs (b == 46) refl (any_before bs) h

none_before : (bs : List ℕ) → position_or_len (λ b. b == 46) bs ≡ length bs → has_dot bs ≡ false
none_before [] h = refl
none_before (b ∷ bs) h = grind (arith, common_steps, none_before bs)

pub time_some : (text seconds fraction : List ℕ) → seconds ≡ before_first (λ b. b == 46) text
    → fraction ≡ after_first (λ b. b == 46) text
    → position_or_len (λ b. b == 46) text < length text
    → time_of text ≡ moment_from (value_of seconds) (fraction_of fraction)
unfolding time_of
time_some text seconds fraction e f h = rw (e, f, any_before text h) refl

pub time_none : (text : List ℕ) → position_or_len (λ b. b == 46) text ≡ length text
    → time_of text ≡ moment_from (value_of text) (Some 0)
unfolding time_of
time_none text h = rw (none_before text h, h, take-length text) refl

-- what the digits of a fraction come to
pub ruleset fractions = (fraction_none, fraction_some, fraction_long, fraction_fits)

-- what the digits of seconds come to
pub ruleset seconds_read = (seconds_none, seconds_some)
