-- Numbers of which those from a place on stand in another order.
use Rattle.std.proofs.Common.{◌≡◌, ◌<◌, ◌++◌, ◌||◌, ◌+◌, ◌∙◌, ℕ, true, List, length}
use Rattle.std.proofs.Common.{length-append, get_or}
use Rattle.std.proofs.Common.{sym, ap, subst, arith}
use Rattle.std.specs.List.{list_any}
use Rattle.std.specs.List.Sorted.{IsPermutation}
use Rattle.std.proofs.lemmas.List.{get_or_append_left}
use Rattle.std.proofs.lemmas.List.Folds.{list_any-append}
use Rattle.std.proofs.lemmas.List.Sorted.{list_any-IsPermutation}
use Rattle.std.proofs.Common.{eqb}
use Rattle.ev_incidence.specs.Sets.{is_member}
use Rattle.ev_incidence.specs.Table.{row_at}
use Rattle.ev_incidence.specs.Reached.{IsSortedFrom, IsSearching}

pub tail_sorted : (at : ℕ) (all front tail new : List ℕ) → all ≡ front ++ tail → length front ≡ at
    → length new ≡ length tail → IsPermutation tail new → IsSortedFrom at all (front ++ new)
tail_sorted at all front tail new parts here long moved = record {
  count = length-append front new
      ∙ (ap (λ n. length front + n) long
      ∙ (sym (length-append front tail) ∙ ap length (sym parts)));
  front = λ i below.
      let inside : i < length front = omega (arith, below, here) in
      get_or_append_left front new 0 i inside
      ∙ (sym (get_or_append_left front tail 0 i inside)
      ∙ ap (λ (xs : List ℕ). get_or xs i 0) (sym parts));
  same = λ e.
      list_any-append (λ x. eqb x e) front new
      ∙ (ap (λ b. list_any (λ x. eqb x e) front || b)
      (sym (list_any-IsPermutation (λ x. eqb x e) tail new moved))
      ∙ (sym (list_any-append (λ x. eqb x e) front tail)
      ∙ ap (λ (xs : List ℕ). is_member xs e) (sym parts)));
}

-- what stays so while they are put in order
pub searching_sorted : (index rows : List (List ℕ)) (starts : List ℕ) (at : ℕ)
    (a b places : List ℕ) → IsSortedFrom at a b → IsSearching index rows starts at a places
    → IsSearching index rows starts at b places
searching_sorted index rows starts at a b places s h = record {
  starts_in = λ e there. s.same e ∙ h.starts_in e there;
  out = record {
    each = λ i j below inside there.
        let here : i < length a = omega (arith, s.count, inside) in
        h.out.each i j below here
        (subst (λ x. is_member (row_at index x) j ≡ true) (s.front i below) there);
  };
  into = record { each = λ j e place there. s.same e ∙ h.into.each j e place there };
  reached = record { each = λ y there. h.reached.each y (sym (s.same y) ∙ there) };
  no_other = record {
    each = λ j there. let of = h.no_other.each j there in (of.0, s.same of.0 ∙ of.1, of.2);
  };
}
