-- Engines note the time: what they keep can be kept, and what they report is a report.
use Rattle.std.proofs.Common.{◌≡◌, ℕ, zero, suc, Bool, true, false, ◌&&◌, nat_lt}
use Rattle.std.proofs.Common.{IsTrue, List, [], ◌∷◌, ◌++◌, refl, sym, ap, ◌∙◌, arith, Option}
use Rattle.std.proofs.Common.{Some, None, slice_get, slice_set, if◌then◌else◌, subst}
use Rattle.std.specs.List.{list_all}
use Rattle.std.proofs.lemmas.Bool.{false≢true, and_from, and_parts, ltb-true}
use Rattle.fm_core.specs.Meaning.{OpenCase}
use Rattle.ev_graph.specs.Kinds.{is_report_node}
use Rattle.ev_graph.specs.Lawful.{GraphValue, has_engine_limits}
use Rattle.ev_graph.specs.declared.nodes.Node.{Node}
use Rattle.ev_graph.specs.declared.nodes.EngineSpec.{EngineSpec}
use Rattle.ev_graph.specs.declared.nodes.NodeKind.{NodeKind}
use Rattle.ev_graph.specs.declared.nodes.NodeKind.TheVariants.{Fault, Defect, Upset, Inner, Report}
use Rattle.dx_serd.specs.Rates.{fires, kept_after, are_kept, none_past, is_rising}
use Rattle.dx_serd.proofs.Decides.{stays_kept}
use Rattle.dx_state.specs.Configured.{Rules, configuration_at}
use Rattle.dx_state.specs.LawfulState.{are_engines, is_formed_engine}
use Rattle.dx_state.proofs.Lists.{all_at}
use Rattle.dx_step.specs.Turns.{Turn, graph_of, noted_by, noted_at}
use Rattle.dx_step.specs.Turns.{note_upset, note_all}
use Rattle.dx_step.proofs.Parts.{all_joined, all_one}
use Rattle.dx_step.proofs.Sound.{IsTurn, IsDecided}

abbrev keeps : ℕ → EngineSpec → List ℕ → Bool
keeps time e kept = are_kept e.n e.t kept && none_past time kept

engines_at : (time : ℕ) (es : List EngineSpec) (ks : List (List ℕ)) (at : ℕ) (e : EngineSpec)
    (kept : List ℕ) → IsTrue (are_engines time es ks) → slice_get es at ≡ Some e
    → slice_get ks at ≡ Some kept → IsTrue (keeps time e kept)
engines_at time [] ks at e kept h i j = absurd (let never : ⊥ = cc in never)
engines_at time (d ∷ es) [] at e kept h i j = absurd (false≢true h)
engines_at time (d ∷ es) (k ∷ ks) zero e kept h i j =
    let one : d ≡ e = cc in
    let two : k ≡ kept = cc in
    sym (λ n. keeps time (one n) (two n)) ∙ (and_parts (keeps time d k) _ h).0
engines_at time (d ∷ es) (k ∷ ks) (suc at) e kept h i j =
    engines_at time es ks at e kept (and_parts (keeps time d k) _ h).1 i j

engines_set : (time : ℕ) (es : List EngineSpec) (ks : List (List ℕ)) (at : ℕ) (e : EngineSpec)
    (kept : List ℕ) → IsTrue (are_engines time es ks) → slice_get es at ≡ Some e
    → IsTrue (keeps time e kept) → IsTrue (are_engines time es (slice_set ks at kept))
engines_set time [] ks at e kept h i j = absurd (let never : ⊥ = cc in never)
engines_set time (d ∷ es) [] at e kept h i j = absurd (false≢true h)
engines_set time (d ∷ es) (k ∷ ks) zero e kept h i j =
    let one : d ≡ e = cc in
    and_from (keeps time d kept) (are_engines time es ks)
    (ap (λ (x : EngineSpec). keeps time x kept) one ∙ j) (and_parts (keeps time d k) _ h).1
engines_set time (d ∷ es) (k ∷ ks) (suc at) e kept h i j =
    let parts = and_parts (keeps time d k) (are_engines time es ks) h in
    and_from (keeps time d k) (are_engines time es (slice_set ks at kept)) parts.0
    (engines_set time es ks at e kept parts.1 i j)

still : (r : Rules) (cs : List OpenCase) (t : Turn) → IsTurn r cs t → IsDecided r cs t t
still r cs t h = record { turn = h; cases = refl; time = refl; conf = refl }

noted_both : (r : Rules) (cs : List OpenCase) (t : Turn) (at : ℕ) (e : EngineSpec)
    (kept : List ℕ) → IsTurn r cs t → slice_get (graph_of r t.state).engines at ≡ Some e
    → slice_get t.state.engines at ≡ Some kept → IsDecided r cs t (noted_by at e kept t)
noted_both r cs t at e kept h i j =
    let g = graph_of r t.state in
    let engine = all_at (is_formed_engine g) g.engines at e h.formed.engines i in
    let parts = and_parts (has_engine_limits e) (is_report_node g.nodes e.trip) engine in
    let some = ltb-true 0 e.n (and_parts (nat_lt 0 e.n) _ parts.0).0 in
    let was = engines_at t.state.time g.engines t.state.engines at e kept h.sound.engines i j in
    let kept_was = and_parts (are_kept e.n e.t kept) (none_past t.state.time kept) was in
    let stays = stays_kept e.n e.t kept t.state.time (omega arith)
    (and_parts (is_rising kept) _ kept_was.0).0 kept_was.1 in
    let now = and_from (are_kept e.n e.t (kept_after e.n e.t kept t.state.time)) _ stays.are
    (stays.not_past t.state.time (omega arith)) in
    record {
      turn = record {
        sound = record {
          time = h.sound.time;
          next = h.sound.next;
          cases = h.sound.cases;
          solved = h.sound.solved;
          strict = h.sound.strict;
          solved_strict = h.sound.solved_strict;
          apart = h.sound.apart;
          engines = engines_set t.state.time g.engines t.state.engines at e
              (kept_after e.n e.t kept t.state.time) h.sound.engines i now;
        };
        formed = h.formed;
        conf = h.conf;
        words = h.words;
        fired = elim (fires e.n e.t kept t.state.time) as (λ (b : Bool). IsTrue (list_all
            (is_report_node g.nodes) (if b then t.fired ++ e.trip ∷ [] else t.fired))) [
              | true ↦
                  all_joined (is_report_node g.nodes) t.fired (e.trip ∷ []) h.fired
                  (all_one (is_report_node g.nodes) e.trip parts.1)
              | false ↦ h.fired
            ];
      };
      cases = refl;
      time = refl;
      conf = refl;
    }

noted_some : (r : Rules) (cs : List OpenCase) (t : Turn) (at : ℕ) (o : Option EngineSpec)
    (k : Option (List ℕ)) → IsTurn r cs t → slice_get (graph_of r t.state).engines at ≡ o
    → slice_get t.state.engines at ≡ k → IsDecided r cs t (noted_at at o k t)
noted_some r cs t at (Some e) (Some kept) h i j = noted_both r cs t at e kept h i j
noted_some r cs t at (Some e) None h i j = still r cs t h
noted_some r cs t at None k h i j = still r cs t h

noted_upset : (r : Rules) (cs : List OpenCase) (t : Turn) (kind : NodeKind) → IsTurn r cs t
    → IsDecided r cs t (note_upset (graph_of r t.state) kind t)
noted_upset r cs t (Upset (Some at)) h =
    noted_some r cs t at (slice_get (graph_of r t.state).engines at)
    (slice_get t.state.engines at) h refl refl
noted_upset r cs t (Upset None) h = still r cs t h
noted_upset r cs t (Fault fit retire) h = still r cs t h
noted_upset r cs t (Defect fit retire) h = still r cs t h
noted_upset r cs t Inner h = still r cs t h
noted_upset r cs t (Report within) h = still r cs t h

-- the engines of some upsets note the time
pub noted_all : (r : Rules) (cs : List OpenCase) (nodes : List Node) (g : GraphValue) (t : Turn)
    → g ≡ graph_of r t.state → IsTurn r cs t → IsDecided r cs t (note_all g nodes t)
noted_all r cs [] g t e h = still r cs t h
noted_all r cs (node ∷ nodes) g t e h =
    let u = note_upset g node.kind t in
    let first = subst (λ (x : GraphValue). IsDecided r cs t (note_upset x node.kind t)) (sym e)
    (noted_upset r cs t node.kind h) in
    let rest = noted_all r cs nodes g u
    (e ∙ sym (ap (λ (n : ℕ). (configuration_at r n).graph) first.conf)) first.turn in
    record {
      turn = rest.turn;
      cases = rest.cases ∙ first.cases;
      time = rest.time ∙ first.time;
      conf = rest.conf ∙ first.conf;
    }
