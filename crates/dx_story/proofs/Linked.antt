-- Links of a graph, and the tests of them.
use Rattle.std.proofs.Common.{◌≡◌, ℕ, zero, suc, Bool, true, List, [], ◌∷◌, refl, sym, ap}
use Rattle.std.proofs.Common.{◌∙◌, Some, arith}
use Rattle.std.specs.List.{list_all, slice_get}
use Rattle.std.proofs.lemmas.Bool.{and_parts, and_from}
use Rattle.std.proofs.lemmas.Option.{same_Some, slice_get_within}
use Rattle.ev_incidence.specs.Sets.{ascends_by}
use Rattle.ev_graph.specs.Wired.{wiring}
use Rattle.ev_graph.specs.Cutting.{AreLinks, is_before_link}
use Rattle.ev_graph.specs.declared.instances.Instance.{Instance}
use Rattle.ev_graph.specs.declared.instances.Link.{Link}
use Rattle.dx_story.specs.Tests.{is_link_of}

module _ {X : Type 0} (p : X → Bool) where
  each_passes : (xs : List X) (i : ℕ) (x : X) → list_all p xs ≡ true → slice_get xs i ≡ Some x
      → p x ≡ true
  each_passes [] i x h g = absurd (omega (arith, slice_get_within [] i x g))
  each_passes (y ∷ ys) zero x h g =
      ap p (sym (same_Some y x g)) ∙ (and_parts (p y) (list_all p ys) h).0
  each_passes (y ∷ ys) (suc i) x h g =
      each_passes ys i x (and_parts (p y) (list_all p ys) h).1 g

  passes_each : (xs : List X) → ((i : ℕ) (x : X) → slice_get xs i ≡ Some x → p x ≡ true)
      → list_all p xs ≡ true
  passes_each [] h = refl
  passes_each (y ∷ ys) h =
      and_from (p y) (list_all p ys) (h 0 y refl) (passes_each ys (λ i x g. h (suc i) x g))

pub links_from : (is : List Instance) (less : List Link)
    → ascends_by is_before_link less ≡ true → list_all (is_link_of is) less ≡ true
    → AreLinks (wiring is) less
links_from is less up each = record {
  ascend = up;
  links = λ i l g. each_passes (is_link_of is) less i l each g;
}

pub links_pass : (is : List Instance) (less : List Link) → AreLinks (wiring is) less
    → list_all (is_link_of is) less ≡ true
links_pass is less h = passes_each (is_link_of is) less h.links

pub no_links : (is : List Instance) → AreLinks (wiring is) []
no_links is = record {
  ascend = refl;
  links = λ i l g. absurd (omega (arith, slice_get_within [] i l g));
}
