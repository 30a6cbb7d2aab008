-- The order of cases, as such and as that of the keys of a map.
use Rattle.std.proofs.Common.{◌≡◌, ℕ, true, refl, sym, ap, ◌∙◌}
use Rattle.std.specs.declared.cmp.Ordering.{Ordering}
use Rattle.std.specs.declared.cmp.Ordering.TheVariants.{Less, Equal, Greater}
use Rattle.std.specs.Ordering.{nat_cmp, ordering_reverse, is_eq}
use Rattle.std.specs.Cmp.{IsTotalOrder, then_total, on_total, nat_cmp_total, tied_itself}
use Rattle.std.proofs.lemmas.Cmp.{ranked}
use Rattle.fm_name.specs.OrderLaws.{then_equal}
use Rattle.fm_entry.specs.declared.case_name.CaseName.{CaseName}
use Rattle.fm_status.specs.Rows.{case_cmp, key_cmp}

pub case_total : IsTotalOrder case_cmp
case_total = then_total (on_total (λ c. c.module) nat_cmp_total)
    (on_total (λ c. c.case) nat_cmp_total)

pub key_total : IsTotalOrder key_cmp
key_total = then_total (on_total (λ k. k.0) nat_cmp_total) (on_total (λ k. k.1) nat_cmp_total)

-- cases that the order ties are one case
pub case_tie : (x y : CaseName) → case_cmp x y ≡ Equal → x ≡ y
case_tie x y e =
    let h = then_equal (nat_cmp x.module y.module) (nat_cmp x.case y.case) e in
    let m : x.module ≡ y.module = ranked x.module y.module Equal (sym h.0) in
    let n : x.case ≡ y.case = ranked x.case y.case Equal (sym h.1) in
    λ i. record { «module» = m i; case = n i }

-- keys that the order ties are one key
pub key_tie : (x y : ℕ × ℕ) → key_cmp x y ≡ Equal → x ≡ y
key_tie x y e =
    let h = then_equal (nat_cmp x.0 y.0) (nat_cmp x.1 y.1) e in
    let m : x.0 ≡ y.0 = ranked x.0 y.0 Equal (sym h.0) in
    let n : x.1 ≡ y.1 = ranked x.1 y.1 Equal (sym h.1) in
    λ i. (m i, n i)

pub equal_from : (o : Ordering) → is_eq o ≡ true → o ≡ Equal
equal_from Less e = cc
equal_from Equal e = refl
equal_from Greater e = cc

-- where a case comes after another, that one comes before it
pub turned : (x y : CaseName) → case_cmp x y ≡ Greater → case_cmp y x ≡ Less
turned x y e = case_total.antisymm y x ∙ ap ordering_reverse e

-- a case that ties two others, of which one comes after the other, is none
pub never_both : (c x y : CaseName) → case_cmp x y ≡ Greater → is_eq (case_cmp c x) ≡ true
    → is_eq (case_cmp c y) ≡ true → ⊥
never_both c x y e f g =
    let a : c ≡ x = case_tie c x (equal_from _ f) in
    let b : c ≡ y = case_tie c y (equal_from _ g) in
    let same : case_cmp x y ≡ case_cmp y y = ap (λ z. case_cmp z y) (sym a ∙ b) in
    let tied = tied_itself case_total y in
    cc
