-- Instances of propagations as a wiring.
use Rattle.std.specs.Prelude.{ℕ, Option, Some, None, List, [], slice_get}
use Rattle.ev_incidence.specs.Wiring.{Wiring}
use Rattle.ev_graph.specs.declared.instances.Instance.{Instance}

abbrev pub causes_if_any : Option Instance → List ℕ
causes_if_any None = []
causes_if_any (Some i) = i.causes

abbrev pub effects_if_any : Option Instance → List ℕ
effects_if_any None = []
effects_if_any (Some i) = i.effects

abbrev pub n_if_any : Option Instance → ℕ
n_if_any None = 0
n_if_any (Some i) = i.n

abbrev pub k_if_any : Option Instance → ℕ
k_if_any None = 0
k_if_any (Some i) = i.k

abbrev pub wiring : List Instance → Wiring
wiring is = record {
  causes = λ j. causes_if_any (slice_get is j);
  effects = λ j. effects_if_any (slice_get is j);
  n = λ j. n_if_any (slice_get is j);
  k = λ j. k_if_any (slice_get is j);
}
