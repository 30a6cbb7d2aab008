-- A fresh state is lawful.
use Rattle.std.proofs.Common.{ℕ, true, ◌&&◌, nat_le, IsTrue, List, []}
use Rattle.std.proofs.Common.{◌∷◌, map, refl, arith}
use Rattle.std.proofs.lemmas.Bool.{and_from, le-leb}
use Rattle.ev_graph.specs.declared.nodes.EngineSpec.{EngineSpec}
use Rattle.dx_serd.specs.Rates.{are_kept, none_past}
use Rattle.dx_state.specs.Configured.{Rules, found_at}
use Rattle.dx_state.specs.LawfulState.{are_engines, is_state}
use Rattle.dx_state.proofs.Facts.{state_back}
use Rattle.dx_step.specs.Turns.{configuration_of, graph_of}
use Rattle.dx_step.specs.Lawful.{are_rules, is_there, is_lawful}
use Rattle.dx_meaning.specs.Fresh.{first_of, fresh_of}

no_moments : (time : ℕ) (es : List EngineSpec) → IsTrue (are_engines time es (map (λ e. []) es))
no_moments time [] = refl
no_moments time (e ∷ es) =
    and_from (are_kept e.n e.t [] && none_past time []) _
    (and_from (are_kept e.n e.t []) true
    (and_from (nat_le 0 e.n) true (le-leb 0 e.n (omega arith)) refl) refl) (no_moments time es)

pub fresh_lawful : (r : Rules) → IsTrue (are_rules r)
    → IsTrue (is_there (found_at r.configurations (first_of r.configurations)))
    → IsTrue (is_lawful r (fresh_of r))
unfolding is_lawful
fresh_lawful r rules there =
    let s = fresh_of r in
    and_from (are_rules r) _ rules
    (and_from (is_there (found_at r.configurations s.conf)) _ there
    (and_from (is_state r.own (configuration_of r s) s) _
    (state_back r.own (configuration_of r s) s (record {
      time = omega arith;
      next = omega arith;
      cases = refl;
      solved = refl;
      opens_ascend = refl;
      solved_ascend = refl;
      apart = refl;
      engines = no_moments 0 (graph_of r s).engines;
    })) refl))
