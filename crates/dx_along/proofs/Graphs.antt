-- Modules that are made with graphs have one in each configuration.
use Rattle.std.proofs.Common.{ℕ, zero, suc, Bool, true, false, ◌==◌, if◌then◌else◌, List, [], ◌∷◌}
use Rattle.std.proofs.Common.{refl, arith, Some, None}
use Rattle.std.proofs.lemmas.Bool.{false≢true}
use Rattle.std.specs.List.{All, AllByRecursion, slice_get}
use Rattle.std.proofs.lemmas.List.Elements.{recursion_from_All}
use Rattle.ev_graph.specs.Lawful.{IsGraph}
use Rattle.dx_state.specs.Configured.{Configuration, Single, or_none, no_configuration}
use Rattle.dx_step.specs.Exact.{HaveGraphs}
use Rattle.dx_step.specs.Longer.{rules_of}
use Rattle.dx_along.specs.ExactAlong.{HasGraph}

-- the graph without nodes
empty_graph : IsGraph no_configuration.graph
empty_graph = record {
  counted = record {
    kindred = record {
      numbered = record {
        sorted = record {
          small = record { few_nodes = omega arith; few_links = omega arith };
          ascending = refl;
        };
        in_range = refl;
      };
      kinds = refl;
      apart = λ trips. false≢true trips.is_upset;
    };
    counts = refl;
  };
  rank = λ x. 0;
  rises = λ x y cause. absurd (false≢true cause.cause);
}

at_single : (x : Configuration) (b : Bool) → HasGraph x
    → HasGraph (or_none (if b then Some x else None))
at_single x true has = has
at_single x false has = empty_graph

pub single_graphs : (own number : ℕ) (x : Configuration) → HasGraph x
    → HaveGraphs (record { own = own; configurations = Single number x })
single_graphs own number x has n = at_single x (n == number) has

at_place : (xs : List Configuration) (n : ℕ) → AllByRecursion HasGraph xs
    → HasGraph (or_none (slice_get xs n))
at_place [] n has = empty_graph
at_place (x ∷ xs) zero has = has.0
at_place (x ∷ xs) (suc n) has = at_place xs n has.1

pub listed_graphs : (own : ℕ) (xs : List Configuration) → All HasGraph xs
    → HaveGraphs (rules_of own xs)
listed_graphs own xs has n = at_place xs n (recursion_from_All HasGraph xs has)
