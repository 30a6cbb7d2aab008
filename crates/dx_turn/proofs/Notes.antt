-- Upsets note one after the other.
use Rattle.std.proofs.Common.{◌≡◌, ℕ, ◌+◌, ◌<◌, List, [], ◌∷◌, ◌++◌, length, refl, sym, ap, ◌∙◌}
use Rattle.std.proofs.Common.{Option, Some, None, get_or, take, slice_get}
use Rattle.std.specs.List.{cons_option}
use Rattle.std.proofs.lemmas.List.{take_more}
use Rattle.ev_graph.specs.Lawful.{GraphValue}
use Rattle.ev_graph.specs.declared.nodes.Node.{Node}
use Rattle.dx_said.specs.Making.{node_at}
use Rattle.dx_step.specs.Said.{nodes_of}
use Rattle.dx_step.specs.Turns.{Turn, note_upset, note_all}
use Rattle.dx_turn.specs.declared.ground.Ground.{Ground}
use Rattle.dx_turn.specs.declared.told.Told.{Told}
use Rattle.dx_turn.specs.Turning.{turn_at, HasTurned}

note_append : (g : GraphValue) (xs ys : List Node) (t : Turn)
    → note_all g (xs ++ ys) t ≡ note_all g ys (note_all g xs t)
note_append g [] ys t = refl
note_append g (x ∷ xs) ys t = note_append g xs ys (note_upset g x.kind t)

nodes_first : (o : Option Node) (xs ys : List Node)
    → cons_option o (xs ++ ys) ≡ cons_option o xs ++ ys
nodes_first None xs ys = refl
nodes_first (Some x) xs ys = refl

nodes_append : (g : GraphValue) (xs ys : List ℕ)
    → nodes_of g (xs ++ ys) ≡ nodes_of g xs ++ nodes_of g ys
nodes_append g [] ys = refl
nodes_append g (x ∷ xs) ys =
    ap (cons_option (slice_get g.nodes x)) (nodes_append g xs ys)
    ∙ nodes_first (slice_get g.nodes x) (nodes_of g xs) (nodes_of g ys)

-- one more upset
pub notes_more : (d : Ground) (us : List ℕ) (i : ℕ) (a b c : Told) → i < length us
    → HasTurned d (note_all d.graph.now (nodes_of d.graph.now (take i us))) a b
    → HasTurned d (note_all d.graph.now (node_at d.graph.now.nodes (get_or us i 0))) b c
    → HasTurned d (note_all d.graph.now (nodes_of d.graph.now (take (i + 1) us))) a c
notes_more d us i a b c low h k =
    let g = d.graph.now in
    let e = get_or us i 0 in
    record {
      turn = λ next cs.
          let t = turn_at d next cs a in
          k.turn next cs
          ∙ ap (note_all g (nodes_of g (e ∷ []))) (h.turn next cs)
          ∙ sym (note_append g (nodes_of g (take i us)) (nodes_of g (e ∷ [])) t)
          ∙ ap (λ ns. note_all g ns t) (sym (nodes_append g (take i us) (e ∷ [])))
          ∙ ap (λ xs. note_all g (nodes_of g xs) t) (sym (take_more us i 0 low));
      told = k.told;
    }
