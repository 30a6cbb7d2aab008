-- The laws of the order of paths.
use Rattle.std.specs.Prelude.{◌≡◌, ℕ, Bool, true, false, ◌&&◌, List, nat_eq, refl, Some}
use Rattle.std.proofs.Common.{subst, ap, ◌∙◌}
use Rattle.std.specs.declared.cmp.Ordering.{Ordering}
use Rattle.std.specs.declared.cmp.Ordering.TheVariants.{Less, Equal, Greater}
use Rattle.std.specs.Ordering.{nat_cmp, eq_by_cmp, is_eq, ordering_then}
use Rattle.std.specs.Cmp.{IsTotalOrder, IsPartialOrder, then_total, on_total, nat_cmp_total}
use Rattle.std.specs.Cmp.{tied_itself, partial_order_from_agreeing_total}
use Rattle.std.specs.Cmp.Lexicographic.{pointwise, slice_cmp, lists_total, nat_list_cmp_total}
use Rattle.std.specs.Cmp.Lexicographic.{texts_ties, bytes_decides}
use Rattle.fm_name.specs.Path.{parts_of}
use Rattle.fm_name.specs.Order.{part_cmp, parts_cmp, path_cmp}

pub part_cmp_total : IsTotalOrder part_cmp
unfolding part_cmp
part_cmp_total = then_total (on_total (λ p. p.name) nat_list_cmp_total)
    (on_total (λ p. p.instance) nat_cmp_total)

pub parts_cmp_total : IsTotalOrder parts_cmp
unfolding parts_cmp
parts_cmp_total = lists_total part_cmp_total

pub path_cmp_total : IsTotalOrder path_cmp
unfolding path_cmp
path_cmp_total = then_total (on_total parts_of parts_cmp_total) nat_list_cmp_total

-- where the second order ties as the test says, and the first wherever the test holds, both
-- together do
then_ties : (b : Bool) (o p : Ordering) → b ≡ is_eq p → (b ≡ true → o ≡ Equal)
    → b ≡ is_eq (ordering_then o p)
then_ties true Less p e h = let k : Less ≡ Equal = h refl in cc
then_ties true Equal p e h = e
then_ties true Greater p e h = let k : Greater ≡ Equal = h refl in cc
then_ties false Less p e h = refl
then_ties false Equal p e h = e
then_ties false Greater p e h = refl

-- where two orders together tie, each ties
pub then_equal : (o p : Ordering) → ordering_then o p ≡ Equal → (o ≡ Equal) × (p ≡ Equal)
then_equal Less p e = cc
then_equal Equal p e = (refl, e)
then_equal Greater p e = cc

-- where each order ties as its test says, both together tie as both tests say
pub both_tie : (a b : Bool) (o p : Ordering) → a ≡ is_eq o → b ≡ is_eq p
    → (a && b) ≡ is_eq (ordering_then o p)
both_tie a b Less p e f = cc
both_tie a b Equal p e f = cc
both_tie a b Greater p e f = cc

-- texts that the order of bytes ties are the same
pub bytes_tie : (x y : List ℕ) → slice_cmp nat_cmp x y ≡ Equal → x ≡ y
bytes_tie x y e = (bytes_decides x y).0 (texts_ties x y ∙ ap is_eq e)

-- the order of paths ties two texts exactly where their bytes are the same
pub path_cmp_ties : (x y : List ℕ) → pointwise nat_eq x y ≡ eq_by_cmp path_cmp x y
unfolding path_cmp
path_cmp_ties x y =
    then_ties (pointwise nat_eq x y) (parts_cmp (parts_of x) (parts_of y)) (slice_cmp nat_cmp x y)
    (texts_ties x y)
    (λ e. subst (λ z. parts_cmp (parts_of x) (parts_of z) ≡ Equal) ((bytes_decides x y).0 e)
    (tied_itself parts_cmp_total (parts_of x)))

pub path_cmp_partial : IsPartialOrder (pointwise nat_eq) (λ x y. Some (path_cmp x y))
path_cmp_partial =
    partial_order_from_agreeing_total path_cmp path_cmp_total (λ x y. refl) path_cmp_ties

-- texts that the order of paths ties are the same
pub path_tie : (x y : List ℕ) → path_cmp x y ≡ Equal → x ≡ y
path_tie x y e = (bytes_decides x y).0 (path_cmp_ties x y ∙ ap is_eq e)
