-- The order of events.
use Rattle.std.specs.Prelude.{◌≡◌, Bool, Some, nat_eq, refl}
use Rattle.std.specs.declared.cmp.Ordering.{Ordering}
use Rattle.std.specs.declared.cmp.Ordering.TheVariants.{Equal}
use Rattle.std.specs.Ordering.{nat_cmp, on, then_cmp, eq_by_cmp, eq_of_both}
use Rattle.std.specs.Cmp.{IsTotalOrder, IsPartialOrder, then_total, on_total}
use Rattle.std.specs.Cmp.{partial_order_from_agreeing_total}
use Rattle.std.specs.Cmp.Lexicographic.{pointwise, slice_cmp, nat_list_cmp_total, texts_ties}
use Rattle.fm_name.specs.Order.{path_cmp}
use Rattle.fm_name.specs.OrderLaws.{path_cmp_total, path_cmp_ties, path_tie, bytes_tie, both_tie}
use Rattle.fm_name.specs.OrderLaws.{then_equal}
use Rattle.fm_name.specs.declared.events.EventName.{EventName}

-- events, which are a class at a path: by the path, then by the bytes of the class
unfoldable pub event_cmp : EventName → EventName → Ordering
event_cmp = then_cmp (on (λ e. e.path) path_cmp) (on (λ e. e.class) (slice_cmp nat_cmp))

-- events are equal where the texts of their paths and classes are
abbrev pub event_eq : EventName → EventName → Bool
event_eq = eq_of_both (on (λ e. e.path) (pointwise nat_eq)) (on (λ e. e.class) (pointwise nat_eq))

pub event_cmp_total : IsTotalOrder event_cmp
unfolding event_cmp
event_cmp_total =
    then_total (on_total (λ e. e.path) path_cmp_total) (on_total (λ e. e.class) nat_list_cmp_total)

pub event_cmp_ties : (x y : EventName) → event_eq x y ≡ eq_by_cmp event_cmp x y
unfolding event_cmp
event_cmp_ties x y =
    both_tie (pointwise nat_eq x.path y.path) (pointwise nat_eq x.class y.class)
    (path_cmp x.path y.path) (slice_cmp nat_cmp x.class y.class)
    (path_cmp_ties x.path y.path) (texts_ties x.class y.class)

pub event_cmp_partial : IsPartialOrder event_eq (λ x y. Some (event_cmp x y))
event_cmp_partial =
    partial_order_from_agreeing_total event_cmp event_cmp_total (λ x y. refl) event_cmp_ties

-- events that the order ties are the same
pub event_tie : (x y : EventName) → event_cmp x y ≡ Equal → x ≡ y
unfolding event_cmp
event_tie x y e =
    let h = then_equal (path_cmp x.path y.path) (slice_cmp nat_cmp x.class y.class) e in
    let p = path_tie x.path y.path h.0 in
    let c = bytes_tie x.class y.class h.1 in
    λ i. record { class = c i; path = p i }
